-- Words and queues of channels, which memory does not determine, but for the capacity. Such a word is still a word of an object, so
-- writing it must leave those of all others.
use Rattle.std.proofs.Common.{◌≡◌, ◌≢◌, ℕ, ◌+◌, ◌<◌, List, set, Some, None, slice_get, slice_set, refl, ap, sym, subst, ◌∙◌, ⊎_elim, arith}
use Rattle.rgo_sound.specs.Memory.declared.values.Value.{Value}
use Rattle.rgo_sound.specs.Memory.Memory.{Object}
use Rattle.rgo_sound.specs.RegionMachine.Objects.{object_words as words_of}
use Rattle.rgo_sound.specs.RegionMachine.declared.regions.Region.{Region}
use Rattle.rgo_core_memory.specs.declared.layout.TableSizes.{TableSizes}
use Rattle.rgo_core_memory.specs.Words.{put_two}
use Rattle.rgo_core_memory.specs.Encoding.{content}
use Rattle.rgo_core_memory.specs.Records.{Rec}
use Rattle.rgo_core_memory.specs.Ground.{Ground, IsLiveObject, stored}
use Rattle.rgo_core_memory.specs.Image.{MemoryImage, Where, word_at}
use Rattle.rgo_core_memory.proofs.image.Frames.{content_below, Alike, own_frame}
use Rattle.rgo_core_memory.proofs.Puts.{two_else}
use Rattle.rgo_core_memory.proofs.Rows.{at_set}
use Rattle.rgo_core_memory.proofs.Writes.{writes_cell}
use Rattle.rgo_core_memory.proofs.objects.Spreads.{in_table, same_spread, same_table, spread_same}
use Rattle.rgo_sound.proofs.steps.HeapGrows.{SameSize}
use Rattle.std.proofs.lemmas.Option.{same_Some}

module _ (z : TableSizes) (words : List ℕ) (recs : List Rec) (x : Ground) (places : Where) (k : MemoryImage z words recs x places) (o : ℕ)
    (object : Object) (r : Region)
    (s : IsLiveObject x.heap x.owners x.regions o object r) where
  -- a word that the object does not determine may be written
  pub untold : (i v : ℕ) → i < words_of object → content object i ≡ None → MemoryImage z (set words (word_at z places o i) v) recs x places
  untold i v small none = record {
    w = record k.w { cell = put_two k.w.cell (places.spot o i).page (places.spot o i).offset v };
    shows = let l = k.lies.inside o i object r s (in_table z.page_words object i small) in writes_cell z words k.w k.shows (places.spot o i).page (places.spot o i).offset v l.0 l.1;
    lies = record {
      inside = k.lies.inside;
      shows = λ p j q t u y c. two_else k.w.cell (places.spot o i).page (places.spot o i).offset v (places.spot p j).page (places.spot p j).offset
          (λ a b. let e = k.lies.apart p o j i q object t r y s
          (in_table z.page_words q j (content_below q j u c)) (in_table z.page_words object i small) a b in told p j q t u y c e.0 e.1)
          ∙ k.lies.shows p j q t u y c;
      apart = k.lies.apart;
      row = k.lies.row;
      spread = λ p q t y w.
          let y2 = k.lies.spread p q t y w in (
            y2.0,
            spread_same z k.w.cell (put_two k.w.cell (places.spot o i).page (places.spot o i).offset v) (places.spot p)
                (places.start p) q q
                y2.0 (refl, refl)
                (λ j m l. two_else k.w.cell (places.spot o i).page (places.spot o i).offset v (places.spot p j).page
                (places.spot p j).offset (λ a b.
                let e = k.lies.apart p o j i q object t r y s l (in_table z.page_words object i small) a b in
                let same : Some q ≡ Some object = sym y.there ∙ (ap (slice_get x.heap) e.0 ∙ s.there) in
                let f = ap words_of (same_Some q object same) in
                let g = e.1 in
                absurd (omega (arith, m, f, g, small)))) y2.1,
          );
      variables = k.lies.variables;
      made = k.lies.made;
    };
    own = own_frame z k.w.state k.w.cell recs x.heap x.owners x.regions places.slot places.spot k.own (put_two k.w.cell (places.spot o i).page
        (places.spot o i).offset v) x.heap x.owners x.regions
        (λ p q t y. (q, y, (refl, refl)))
        (λ g j f w l. two_else k.w.cell (places.spot o i).page (places.spot o i).offset v f.page (f.fill + j)
        (λ a b. let u = k.own.under g o i f object r w s (in_table z.page_words object i small) (sym a) in
        absurd (omega arith)))
        (λ g p j c h w. two_else k.w.cell (places.spot o i).page (places.spot o i).offset v p j
        (λ a b. k.own.apart.empty g o i p c object r h w s (in_table z.page_words object i small) (sym a)));
    filled = k.filled;
    counts = k.counts;
    pages = k.pages;
    paged = k.paged;
    taken = k.taken;
  }
    where
      told : (p j : ℕ) (q : Object) (t : Region) (u : Value) → IsLiveObject x.heap x.owners x.regions p q t → content q j ≡ Some u → p ≡ o → j ≡ i → ⊥
      told p j q t u y c a b =
          let same : Some q ≡ Some object = sym y.there ∙ (ap (slice_get x.heap) a ∙ s.there) in
          let e : q ≡ object = cc same in
          let w : Some u ≡ None = sym c ∙ (ap (content q) b ∙ (ap (λ (h : Object). content h i) e ∙ none)) in cc w

  -- another object with the same determined words
  pub requeued : (after : Object) → SameSize object after → ((j : ℕ) → content after j ≡ content object j)
      → MemoryImage z words recs (stored x o after) places
  requeued after same told =
      let alike : Alike x.heap (slice_set x.heap o after) x.owners x.owners x.regions x.regions = λ p q t y. ⊎_elim
      (λ (u : (p ≡ o) × (after ≡ q)). (
        object,
        record {
          there = ap (slice_get x.heap) u.0
              ∙ s.there;
          owner = y.owner;
          live = y.live;
        },
        subst (SameSize object) u.1 same,
      ))
      (λ (u : (p ≢ o) × (slice_get x.heap p ≡ Some q)). (q, record { there = u.1; owner = y.owner; live = y.live }, (refl, refl)))
      (at_set x.heap o p after q y.there) in
      record {
        w = k.w;
        shows = k.shows;
        lies = record {
          inside = λ p j q t y l. let u = alike p q t y in k.lies.inside p j u.0 t u.1 (subst (λ (n : ℕ). j < n)
              (same_table z.page_words u.0 q u.2) l);
          shows = λ p j q t v y c. ⊎_elim
              (λ (u : (p ≡ o) × (after ≡ q)). k.lies.shows p j object t v (record {
                there = ap (slice_get x.heap) u.0
                    ∙ s.there;
                owner = y.owner;
                live = y.live;
              })
              (sym (told j) ∙ (ap (λ (h : Object). content h j) u.1 ∙ c)))
              (λ (u : (p ≢ o) × (slice_get x.heap p ≡ Some q)). k.lies.shows p j q t v (record { there = u.1; owner = y.owner; live = y.live }) c)
              (at_set x.heap o p after q y.there);
          apart = λ p q i j b c t u y1 y2 l1 l2 e1 e2.
              let m = alike p b t y1 in let n = alike q c u y2 in
              k.lies.apart p q i j m.0 n.0 t u m.1 n.1
              (subst (λ (n : ℕ). i < n) (same_table z.page_words m.0 b m.2) l1)
              (subst (λ (n : ℕ). j < n) (same_table z.page_words n.0 c n.2) l2) e1 e2;
          row = λ p j q t y w l. let u = alike p q t y in k.lies.row p j u.0 t u.1
              (sym (same_spread z.page_words u.0 q u.2) ∙ w) (subst (λ (n : ℕ). j < n) u.2.0 l);
          spread = λ p q t y w.
              let u = alike p q t y in
              let y2 = k.lies.spread p u.0 t u.1 (sym (same_spread z.page_words u.0 q u.2) ∙ w) in
              (y2.0, spread_same z k.w.cell k.w.cell (places.spot p) (places.start p) u.0 q y2.0 u.2 (λ j m l. refl) y2.1);
          variables = k.lies.variables;
          made = k.lies.made;
        };
        own = own_frame z k.w.state k.w.cell recs x.heap x.owners x.regions places.slot places.spot k.own k.w.cell
            (slice_set x.heap o after) x.owners x.regions alike (λ g j f w l. refl) (λ g p j c h w. refl);
        filled = k.filled;
        counts = k.counts;
        pages = k.pages;
        paged = k.paged;
        taken = k.taken;
      }
