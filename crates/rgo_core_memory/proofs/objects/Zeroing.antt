-- A word of a new object is stored. It is above the fill of an own page, where no object is, so all objects keep their words.
use Rattle.std.proofs.Common.{◌≡◌, ◌≢◌, ℕ, ◌+◌, ◌<◌, ◌≤◌, List, [], ◌∷◌, length, set, Some, slice_set, refl, ap, sym, subst, ◌∙◌, ⊎_elim, arith}
use mathlib.Core.Logic.{dite}
use native.Mathlib.Decide.{ℕ_discrete}
use Rattle.rgo_sound.specs.Memory.declared.values.Value.{Value}
use Rattle.rgo_sound.specs.Memory.Memory.{Object}
use Rattle.rgo_sound.specs.RegionMachine.Objects.{object_words as words_of}
use Rattle.rgo_core_memory.specs.declared.layout.TableSizes.{TableSizes}
use Rattle.rgo_core_memory.specs.Words.{put_two, cell_at}
use Rattle.rgo_core_memory.specs.Encoding.{content, IsPlain, opening_word}
use Rattle.rgo_core_memory.specs.Records.{Fill, Rest, Amid, Rec, HasRecord, Within, Owns, with_word}
use Rattle.rgo_core_memory.specs.Ground.{Ground}
use Rattle.rgo_core_memory.specs.Pages.{occurrences}
use Rattle.rgo_core_memory.specs.Parts.{Lies, Own, Amidst, RecordMakes}
use Rattle.rgo_core_memory.specs.Image.{MemoryImage, Where}
use Rattle.rgo_core_memory.proofs.pages.Chains.{times_else}
use Rattle.rgo_core_memory.proofs.image.Frames.{content_below}
use Rattle.rgo_core_memory.proofs.image.Keeping.{was, owns_was, filled_same, counts_calm, taken_same, pages_same}
use Rattle.rgo_core_memory.proofs.Puts.{two_here, two_else}
use Rattle.rgo_core_memory.proofs.Writes.{writes_cell}
use Rattle.rgo_core_memory.specs.Records.{Across, Reserved}
use Rattle.rgo_core_memory.proofs.image.Keeping.{reserves}
use Rattle.rgo_core_memory.proofs.objects.Spreads.{spread_same, spread_within, in_table}
use Rattle.rgo_core_memory.specs.Spread.{spread_spot}
use Rattle.std.proofs.Common.{slice_get}
use Rattle.std.proofs.Common.{suc}

module _ (z : TableSizes) (words : List ℕ) (recs : List Rec) (x : Ground) (places : Where) (k : MemoryImage z words recs x places) (g : ℕ) (c : Rec)
    (own : HasRecord recs g c)
    (f : Fill) (object : Object) (stored : List ℕ) (makes : RecordMakes z c f object stored) where
  begun : Within f c.fills × Amidst z k.w.cell f object stored
  begun = ⊎_elim
      (λ e. k.own.amids g c f object stored own e)
      (λ (e : (c.make ≡ Rest) × (stored ≡ []) × Within f c.fills × (f.fill + words_of object ≤ z.page_words) × ((i : ℕ) (v : Value)
      → content object i ≡ Some v → IsPlain v)).
      (e.2, record { fits = e.3; plain = e.4; laid = λ i l y. absurd (let n : occurrences i stored ≡ 0 = ap (occurrences i) e.1 in omega arith) }))
      makes

  owner : Owns recs g f
  owner = (c, own, begun.0)

  module _ (i : ℕ) (small : i < words_of object) where
    abbrev word : ℕ
    word = opening_word (content object i)

    abbrev cell : ℕ → ℕ → ℕ
    cell = put_two k.w.cell f.page (f.fill + i) word

    abbrev d : Rec
    d = with_word c f object (i ∷ stored)

    abbrev recs2 : List Rec
    recs2 = slice_set recs g d

    in_page : f.fill + i < z.page_words
    in_page = let w = begun.1.fits in omega arith

    page_in : f.page < z.pages
    page_in = let e = k.own.claimed g f owner in k.own.ranged f.page (omega arith)

    lies_word : Lies z k.w.variable cell x.variables x.heap x.owners x.regions places.spot places.start
    lies_word = record {
      inside = k.lies.inside;
      shows = λ o j ob r v s e. two_else k.w.cell f.page (f.fill + i) word (places.spot o j).page (places.spot o j).offset
          (λ a b. let u = k.own.under g o j f ob r owner s (in_table z.page_words ob j (content_below ob j v e)) a in
          absurd (omega arith)) ∙ k.lies.shows o j ob r v s e;
      apart = k.lies.apart;
      row = k.lies.row;
      spread = λ o ob r s w.
          let y = k.lies.spread o ob r s w in (
            y.0,
            spread_same z k.w.cell cell (places.spot o) (places.start o) ob ob y.0 (refl, refl)
                (λ j m l. two_else k.w.cell f.page (f.fill + i) word (places.spot o j).page (places.spot o j).offset
                (λ a b. let u = k.own.under g o j f ob r owner s l a in absurd (omega arith))) y.1,
          );
      variables = k.lies.variables;
      made = k.lies.made;
    }

    -- an own page is the record's before
    old : (j : ℕ) (e : Fill) → Owns recs2 j e → Owns recs j e
    old j e w = ⊎_elim
        (λ (t : (j ≡ g) × Within e d.fills). subst (λ (m : ℕ). Owns recs m e) (sym t.0) (c, own, t.1))
        (λ (t : (j ≢ g) × Owns recs j e). t.1)
        (owns_was recs g c d own j e w)

    own_word : Own z k.w.state cell recs2 x.heap x.owners x.regions places.slot places.spot
    own_word = record {
      ranged = k.own.ranged;
      for_slots = k.own.for_slots;
      homes = k.own.homes;
      claimed = λ j e w. k.own.claimed j e (old j e w);
      alone = λ j m e e2 w v. k.own.alone j m e e2 (old j e w) (old m e2 v);
      room = λ j e w. k.own.room j e (old j e w);
      under = λ j o m e ob r w. k.own.under j o m e ob r (old j e w);
      amids = λ j y e ob st q m. ⊎_elim
          (λ (t : (j ≡ g) × (d ≡ y)).
          let v : Amid f object (i ∷ stored) ≡ Amid e ob st = ap (λ (u : Rec). u.make) t.1 ∙ m in
          let a : f ≡ e = cc v in let b : object ≡ ob = cc v in let s : i ∷ stored ≡ st = cc v in (
            subst (λ (u : Rec). Within e u.fills) t.1 (subst (λ (u : Fill). Within u c.fills) a begun.0),
            subst (λ (u : Fill). Amidst z cell u ob st) a (subst (λ (u : Object). Amidst z cell f u st) b (subst (λ
                (u : List ℕ). Amidst z cell f object u) s more)),
          ))
          (λ (t : (j ≢ g) × HasRecord recs j y).
          let a = k.own.amids j y e ob st t.1 m in (
            a.0,
            record {
              fits = a.1.fits;
              plain = a.1.plain;
              laid = λ n l u. two_else k.w.cell f.page (f.fill + i) word e.page (e.fill + n)
                  (λ p b. absurd (t.0 (k.own.alone j g e f (y, t.1, a.0) owner p).0)) ∙ a.1.laid n l u;
            },
          ))
          (was recs g c d own j y q);
      apart = record {
        nobody = λ j o m e ob r w. k.own.apart.nobody j o m e ob r (old j e w);
        claimed = λ j p y e w.
            let u = reserves recs g c d own refl j y e in
            k.own.apart.claimed j p u.0 u.1 (subst (λ (v : Reserved). Within p v.pages) u.2 w)
            ∙ ap (λ (v : Reserved). suc v.slot) (sym u.2);
        unowned = λ j m p y e q w v.
            let u = reserves recs g c d own refl j y q in
            k.own.apart.unowned j m p u.0 e u.1 (subst (λ (v : Reserved). Within p v.pages) u.2 w) (old m e v);
        once = λ j l m n p y y2 q q2 a b.
            let u = reserves recs g c d own refl j y q in
            let v = reserves recs g c d own refl l y2 q2 in
            k.own.apart.once j l m n p u.0 v.0 u.1 v.1
            (subst (λ (v : Reserved). slice_get v.pages m ≡ Some p) u.2 a)
            (subst (λ (v : Reserved). slice_get v.pages n ≡ Some p) v.2 b);
        empty = λ j o m p y ob r q w.
            let u = reserves recs g c d own refl j y q in
            k.own.apart.empty j o m p u.0 ob r u.1 (subst (λ (v : Reserved). Within p v.pages) u.2 w);
        strewn = λ j y ob st q m. ⊎_elim
            (λ (t : (j ≡ g) × (d ≡ y)).
            let v : Amid f object (i ∷ stored) ≡ Across ob st = ap (λ (u : Rec). u.make) t.1 ∙ m in absurd (cc v))
            (λ (t : (j ≢ g) × HasRecord recs j y).
            let a = k.own.apart.strewn j y ob st t.1 m in
            record {
              spread = a.spread;
              small = a.small;
              many = a.many;
              plain = a.plain;
              laid = λ n l u.
                  two_else k.w.cell f.page (f.fill + i) word (spread_spot z.page_words ob y.reserved.pages n).page
                  (spread_spot z.page_words ob y.reserved.pages n).offset
                  (λ p b. absurd (k.own.apart.unowned j g (spread_spot z.page_words ob y.reserved.pages n).page y f t.1
                  (spread_within z.page_words ob y.reserved.pages n a.spread a.many l) owner (sym p)))
                  ∙ a.laid n l u;
            })
            (was recs g c d own j y q);
      };
    }
      where
        more : Amidst z cell f object (i ∷ stored)
        more = record {
          fits = begun.1.fits;
          plain = begun.1.plain;
          laid = λ n l u. dite (ℕ_discrete n i)
              (λ e. two_here k.w.cell f.page (f.fill + i) word f.page (f.fill + n) refl (omega (arith, e))
              ∙ ap (λ (m : ℕ). opening_word (content object m)) (sym e))
              (λ ne. two_else k.w.cell f.page (f.fill + i) word f.page (f.fill + n) (λ a b. ne (omega arith))
              ∙ begun.1.laid n l (let t = times_else n i stored (λ y. ne (sym y)) in omega arith));
        }

    -- an opening store before the last
    pub word_stored : MemoryImage z (set words (cell_at z f.page (f.fill + i)) word) recs2 x places
    word_stored = record {
      w = record k.w { cell = cell };
      shows = writes_cell z words k.w k.shows f.page (f.fill + i) word page_in in_page;
      lies = lies_word;
      own = own_word;
      filled = filled_same recs g c d own z x.held (length x.regions) places.slot k.filled refl refl (λ s q. k.filled.claims g s c own q);
      counts = counts_calm recs g c d own z k.w.count places.top x.regions places.slot places.uses k.counts refl;
      pages = pages_same recs g c d own k.w.state k.w.next k.w.head places.at places.chain places.link places.top k.pages refl refl;
      paged = k.paged;
      taken = taken_same recs g c d own z k.w.state k.w.count _ _ places.slot places.page k.taken refl refl;
    }
