-- Loads and stores of cells and of package variables. A store changes one word, and no other word of an object is that one (`apart`),
-- nor a word above a fill. So all parts but the values of this object stay.
use Rattle.std.proofs.Common.{◌≡◌, ◌≢◌, ◌⊎◌, ℕ, ◌+◌, ◌<◌, ◌≤◌, List, set, slice_index, Some, slice_get, slice_set, refl, ap, sym, subst, ◌∙◌, inl, inr, ⊎_elim, arith}
use Rattle.std.proofs.lemmas.Option.{same_Some}
use mathlib.Core.Logic.{dite}
use native.Mathlib.Decide.{ℕ_discrete}
use Rattle.rgo_sound.specs.Memory.declared.values.Value.{Value}
use Rattle.rgo_sound.specs.Memory.Memory.{Object}
use Rattle.rgo_sound.specs.RegionMachine.Objects.{object_words as words_of}
use Rattle.rgo_sound.specs.RegionMachine.declared.regions.Region.{Region}
use Rattle.rgo_core_memory.specs.declared.layout.TableSizes.{TableSizes}
use Rattle.rgo_core_memory.specs.Words.{put_at, put_two, cell_at, variable_at}
use Rattle.rgo_core_memory.specs.Encoding.{Spot, address, encode, content, ChangesWord}
use Rattle.rgo_core_memory.specs.Records.{Rec}
use Rattle.rgo_core_memory.specs.Ground.{Ground, IsLiveObject, stored, assigned}
use Rattle.rgo_core_memory.specs.Parts.{Lies, Own}
use Rattle.rgo_core_memory.specs.Image.{MemoryImage, Where}
use Rattle.rgo_core_memory.proofs.image.Frames.{content_below, Alike, own_frame}
use Rattle.rgo_core_memory.proofs.Puts.{put_here, put_else, two_here, two_else}
use Rattle.rgo_core_memory.proofs.Rows.{at_set}
use Rattle.rgo_core_memory.proofs.Writes.{writes_cell, writes_variable}
use Rattle.rgo_core_memory.proofs.objects.Spreads.{in_table, same_spread, same_table, spread_same}
use Rattle.rgo_sound.proofs.steps.HeapGrows.{SameSize}
use Rattle.rgo_core_memory.specs.Spread.{table_words}

module _ (z : TableSizes) (words : List ℕ) (recs : List Rec) (x : Ground) (places : Where) (k : MemoryImage z words recs x places) where
  abbrev spot : ℕ → ℕ → Spot
  spot = places.spot

  abbrev code : Value → ℕ
  code = encode (address z places.start)

  -- a load: the word of a cell is its value
  pub loads : (o i : ℕ) (object : Object) (r : Region) (v : Value) → IsLiveObject x.heap x.owners x.regions o object r
      → content object i ≡ Some v → slice_index words (cell_at z (spot o i).page (spot o i).offset) ≡ code v
  loads o i object r v s c =
      let l = k.lies.inside o i object r s (in_table z.page_words object i (content_below object i v c)) in
      k.shows.cell (spot o i).page (spot o i).offset l.0 l.1 ∙ k.lies.shows o i object r v s c

  -- and of a package variable
  pub gets : (n : ℕ) (v : Value) → slice_get x.variables n ≡ Some v → slice_index words (variable_at z n) ≡ code v
  gets n v e = let l = k.lies.variables n v e in k.shows.variable n l.0 ∙ l.1

  module _ (o i : ℕ) (object after : Object) (r : Region) (v : Value) (s : IsLiveObject x.heap x.owners x.regions o object r)
      (small : i < words_of object) (same : SameSize object after) (changes : ChangesWord object i v after) where
    abbrev page : ℕ
    page = (spot o i).page

    abbrev offset : ℕ
    offset = (spot o i).offset

    abbrev heap : List Object
    heap = slice_set x.heap o after

    abbrev cell : ℕ → ℕ → ℕ
    cell = put_two k.w.cell page offset (code v)

    -- an object after the store is the changed one, or one from before
    was : (p : ℕ) (q : Object) (t : Region) → IsLiveObject heap x.owners x.regions p q t
        → ((p ≡ o) × (after ≡ q)) ⊎ ((p ≢ o) × IsLiveObject x.heap x.owners x.regions p q t)
    was p q t y = ⊎_elim (λ u. inl u) (λ u. inr (u.0, record { there = u.1; owner = y.owner; live = y.live })) (at_set x.heap o p after q y.there)

    alike : Alike x.heap heap x.owners x.owners x.regions x.regions
    alike p q t y = ⊎_elim
        (λ (u : (p ≡ o) × (after ≡ q)). (
          object,
          record {
            there = ap (slice_get x.heap) u.0
                ∙ s.there;
            owner = y.owner;
            live = y.live;
          },
          subst (SameSize object) u.1 same,
        ))
        (λ (u : (p ≢ o) × IsLiveObject x.heap x.owners x.regions p q t). (q, u.1, (refl, refl)))
        (was p q t y)

    -- the word of another cell
    stays : (p j : ℕ) (q : Object) (t : Region) → IsLiveObject x.heap x.owners x.regions p q t → j < table_words z.page_words q
        → ((p ≡ o) → (j ≡ i) → ⊥)
        → cell (spot p j).page (spot p j).offset ≡ k.w.cell (spot p j).page (spot p j).offset
    stays p j q t y l n = two_else k.w.cell page offset (code v) (spot p j).page (spot p j).offset
        (λ a b. let e = k.lies.apart p o j i q object t r y s l (in_table z.page_words object i small) a b in n e.0 e.1)

    -- no page number is stored
    behind : (p : ℕ) (q : Object) (t : Region) → IsLiveObject x.heap x.owners x.regions p q t → (j : ℕ) → words_of q ≤ j → p ≡ o
        → j ≡ i → ⊥
    behind p q t y j m a b =
        let e : Some q ≡ Some object = sym y.there ∙ (ap (slice_get x.heap) a ∙ s.there) in
        let w = ap words_of (same_Some q object e) in
        omega (arith, w, m, b, small)

    lies_stored : Lies z k.w.variable cell x.variables heap x.owners x.regions spot places.start
    lies_stored = record {
      inside = λ p j q t y l. let u = alike p q t y in k.lies.inside p j u.0 t u.1 (subst (λ (n : ℕ). j < n)
          (same_table z.page_words u.0 q u.2) l);
      shows = λ p j q t w y c. ⊎_elim
          (λ (u : (p ≡ o) × (after ≡ q)).
          let c2 : content after j ≡ Some w = subst (λ (h : Object). content h j ≡ Some w) (sym u.1) c in
          dite (ℕ_discrete j i)
          (λ (e : j ≡ i). let v2 : v ≡ w = same_Some v w (sym changes.here ∙ (ap (content after) (sym e) ∙ c2)) in
          rw (u.0, e, ← v2) (two_here k.w.cell page offset (code v) page offset refl refl))
          (λ (n : j ≢ i). let c3 : content object j ≡ Some w = sym (changes.there j n) ∙ c2 in
          rw u.0 (stays o j object r s (in_table z.page_words object j (content_below object j w c3)) (λ a b. n b) ∙ k.lies.shows o j object r w s c3)))
          (λ (u : (p ≢ o) × IsLiveObject x.heap x.owners x.regions p q t).
          stays p j q t u.1 (in_table z.page_words q j (content_below q j w c)) (λ a b. u.0 a) ∙ k.lies.shows p j q t w u.1 c)
          (was p q t y);
      apart = λ p q i1 i2 b c t u y1 y2 l1 l2 e1 e2.
          let m = alike p b t y1 in let n = alike q c u y2 in
          k.lies.apart p q i1 i2 m.0 n.0 t u m.1 n.1
          (subst (λ (n : ℕ). i1 < n) (same_table z.page_words m.0 b m.2) l1)
          (subst (λ (n : ℕ). i2 < n) (same_table z.page_words n.0 c n.2) l2) e1 e2;
      row = λ p j q t y w l. let u = alike p q t y in k.lies.row p j u.0 t u.1
          (sym (same_spread z.page_words u.0 q u.2) ∙ w) (subst (λ (n : ℕ). j < n) u.2.0 l);
      spread = λ p q t y w.
          let u = alike p q t y in
          let y2 = k.lies.spread p u.0 t u.1 (sym (same_spread z.page_words u.0 q u.2) ∙ w) in (
            y2.0,
            spread_same z k.w.cell cell (spot p) (places.start p) u.0 q y2.0 u.2
                (λ j m l. stays p j u.0 t u.1 l (λ a b. behind p u.0 t u.1 j m a b)) y2.1,
          );
      variables = k.lies.variables;
      made = k.lies.made;
    }

    own_stored : Own z k.w.state cell recs heap x.owners x.regions places.slot spot
    own_stored = own_frame z k.w.state k.w.cell recs x.heap x.owners x.regions places.slot spot k.own cell heap x.owners x.regions alike
        (λ g j f w l. two_else k.w.cell page offset (code v) f.page (f.fill + j)
        (λ a b. let u = k.own.under g o i f object r w s (in_table z.page_words object i small) (sym a) in
        absurd (omega arith)))
        (λ g p j c h w. two_else k.w.cell page offset (code v) p j
        (λ a b. k.own.apart.empty g o i p c object r h w s (in_table z.page_words object i small) (sym a)))

    -- a store
    pub stores : MemoryImage z (set words (cell_at z page offset) (code v)) recs (stored x o after) places
    stores = record {
      w = record k.w { cell = cell };
      shows = let l = k.lies.inside o i object r s (in_table z.page_words object i small) in writes_cell z words k.w k.shows page offset (code v) l.0 l.1;
      lies = lies_stored;
      own = own_stored;
      filled = k.filled;
      counts = k.counts;
      pages = k.pages;
      paged = k.paged;
      taken = k.taken;
    }

  module _ (n : ℕ) (u v : Value) (there : slice_get x.variables n ≡ Some u) where
    inside : n < z.variables
    inside = (k.lies.variables n u there).0

    -- a store of a package variable
    pub assigns : MemoryImage z (set words (variable_at z n) (code v)) recs (assigned x n v) places
    assigns = record {
      w = record k.w { variable = put_at k.w.variable n (code v) };
      shows = writes_variable z words k.w k.shows n (code v) inside;
      lies = record {
        inside = k.lies.inside;
        shows = k.lies.shows;
        apart = k.lies.apart;
        row = k.lies.row;
        spread = k.lies.spread;
        variables = λ m w e. ⊎_elim
            (λ (t : (m ≡ n) × (v ≡ w)). rw (t.0, ← t.1) (inside, put_here k.w.variable n (code v) n refl))
            (λ (t : (m ≢ n) × (slice_get x.variables m ≡ Some w)). let l = k.lies.variables m w t.1 in (
              l.0,
              put_else k.w.variable n
                  (code v) m t.0 ∙ l.1,
            ))
            (at_set x.variables n m v w e);
        made = k.lies.made;
      };
      own = k.own;
      filled = k.filled;
      counts = k.counts;
      pages = k.pages;
      paged = k.paged;
      taken = k.taken;
    }
