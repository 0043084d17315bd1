-- A word of a new spread object is stored. It is in a reserved page, in which no object is, so all objects keep their words.
use Rattle.std.proofs.Common.{◌≡◌, ◌≢◌, ℕ, suc, ◌+◌, ◌<◌, List, [], ◌∷◌, length, set, Some, slice_get, slice_set, refl, ap, sym}
use Rattle.std.proofs.Common.{subst, ◌∙◌, ⊎_elim, arith, true, false}
use mathlib.Core.Logic.{dite}
use native.Mathlib.Decide.{ℕ_discrete}
use Rattle.rgo_sound.specs.Memory.declared.values.Value.{Value}
use Rattle.rgo_sound.specs.Memory.Memory.{Object}
use Rattle.rgo_sound.specs.RegionMachine.Objects.{is_spread, is_too_large}
use Rattle.rgo_sound.specs.RegionMachine.Room.{pages_of}
use Rattle.rgo_core_memory.specs.declared.layout.TableSizes.{TableSizes}
use Rattle.rgo_core_memory.specs.Words.{put_two, cell_at}
use Rattle.rgo_core_memory.specs.Encoding.{Spot, content, IsPlain}
use Rattle.rgo_core_memory.specs.Records.{Across, Amid, Fill, HasRecord, Owns, Rec, Reserved, Rest, Within, with_word_apart}
use Rattle.rgo_core_memory.specs.Ground.{Ground}
use Rattle.rgo_core_memory.specs.Pages.{occurrences}
use Rattle.rgo_core_memory.specs.Parts.{Lies, MakesApart, Own, Strewn}
use Rattle.rgo_core_memory.specs.Image.{MemoryImage, Where}
use Rattle.rgo_core_memory.specs.Spread.{spread_spot, spread_opening, table_words}
use Rattle.rgo_core_memory.proofs.pages.Chains.{times_else}
use Rattle.rgo_core_memory.proofs.image.Frames.{content_below}
use Rattle.rgo_core_memory.proofs.image.Keeping.{was, owns_was, reserves, filled_same, counts_calm, taken_same, pages_same}
use Rattle.rgo_core_memory.proofs.Puts.{two_here, two_else}
use Rattle.rgo_core_memory.proofs.objects.Spreads.{AreDistinct, in_table, spread_apart, spread_offset, spread_same, spread_within}
use Rattle.rgo_core_memory.proofs.Writes.{writes_cell}

module _ (z : TableSizes) (words : List ℕ) (recs : List Rec) (x : Ground) (places : Where)
    (k : MemoryImage z words recs x places) (g : ℕ) (c : Rec) (own : HasRecord recs g c) (object : Object) (stored : List ℕ)
    (makes : MakesApart z c object stored) where
  begun : Strewn z k.w.cell c.reserved.pages object stored
  begun = ⊎_elim
      (λ e. k.own.apart.strewn g c object stored own e)
      (λ (e : (c.make ≡ Rest) × (stored ≡ []) × (is_spread z.page_words object ≡ true)
      × (is_too_large z.page_words object ≡ false) × (length c.reserved.pages ≡ pages_of z.page_words object)
      × ((i : ℕ) (v : Value) → content object i ≡ Some v → IsPlain v)).
      record {
        spread = e.2;
        small = e.3;
        many = e.4;
        plain = e.5;
        laid = λ i l y. absurd (let n : occurrences i stored ≡ 0 = ap (occurrences i) e.1 in omega (arith, n, y));
      })
      makes

  distinct : AreDistinct c.reserved.pages
  distinct i j p a b = (k.own.apart.once g g i j p c c own own a b).1

  module _ (i : ℕ) (small : i < table_words z.page_words object) where
    abbrev at : Spot
    at = spread_spot z.page_words object c.reserved.pages i

    abbrev word : ℕ
    word = spread_opening object c.reserved.pages i

    abbrev cell : ℕ → ℕ → ℕ
    cell = put_two k.w.cell at.page at.offset word

    abbrev d : Rec
    d = with_word_apart c object (i ∷ stored)

    abbrev recs2 : List Rec
    recs2 = slice_set recs g d

    page_in : Within at.page c.reserved.pages
    page_in = spread_within z.page_words object c.reserved.pages i begun.spread begun.many small

    page_small : at.page < z.pages
    page_small = let e = k.own.apart.claimed g at.page c own page_in in k.own.ranged at.page (omega (arith, e))

    offset_small : at.offset < z.page_words
    offset_small = spread_offset z.page_words object c.reserved.pages i begun.spread begun.small small

    lies_word : Lies z k.w.variable cell x.variables x.heap x.owners x.regions places.spot places.start
    lies_word = record {
      inside = k.lies.inside;
      shows = λ o j ob r v s e. two_else k.w.cell at.page at.offset word (places.spot o j).page (places.spot o j).offset
          (λ a b. k.own.apart.empty g o j at.page c ob r own page_in s (in_table z.page_words ob j (content_below ob j v e)) a)
          ∙ k.lies.shows o j ob r v s e;
      apart = k.lies.apart;
      row = k.lies.row;
      spread = λ o ob r s w.
          let y = k.lies.spread o ob r s w in (
            y.0,
            spread_same z k.w.cell cell (places.spot o) (places.start o) ob ob y.0 (refl, refl)
                (λ j m l. two_else k.w.cell at.page at.offset word (places.spot o j).page (places.spot o j).offset
                (λ a b. k.own.apart.empty g o j at.page c ob r own page_in s l a)) y.1,
          );
      variables = k.lies.variables;
      made = k.lies.made;
    }

    -- an own page is the record's before
    old : (j : ℕ) (e : Fill) → Owns recs2 j e → Owns recs j e
    old j e w = ⊎_elim
        (λ (t : (j ≡ g) × Within e d.fills). subst (λ (m : ℕ). Owns recs m e) (sym t.0) (c, own, t.1))
        (λ (t : (j ≢ g) × Owns recs j e). t.1)
        (owns_was recs g c d own j e w)

    more : Strewn z cell c.reserved.pages object (i ∷ stored)
    more = record {
      spread = begun.spread;
      small = begun.small;
      many = begun.many;
      plain = begun.plain;
      laid = λ n l u. dite (ℕ_discrete n i)
          (λ e. two_here k.w.cell at.page at.offset word
          (spread_spot z.page_words object c.reserved.pages n).page
          (spread_spot z.page_words object c.reserved.pages n).offset
          (ap (λ (m : ℕ). (spread_spot z.page_words object c.reserved.pages m).page) e)
          (ap (λ (m : ℕ). (spread_spot z.page_words object c.reserved.pages m).offset) e)
          ∙ ap (λ (m : ℕ). spread_opening object c.reserved.pages m) (sym e))
          (λ ne. two_else k.w.cell at.page at.offset word
          (spread_spot z.page_words object c.reserved.pages n).page
          (spread_spot z.page_words object c.reserved.pages n).offset
          (λ a b. ne (spread_apart z.page_words object c.reserved.pages n i begun.spread begun.many distinct l small a b))
          ∙ begun.laid n l (let t = times_else n i stored (λ y. ne (sym y)) in omega (arith, t, u)));
    }

    own_word : Own z k.w.state cell recs2 x.heap x.owners x.regions places.slot places.spot
    own_word = record {
      ranged = k.own.ranged;
      for_slots = k.own.for_slots;
      homes = k.own.homes;
      claimed = λ j e w. k.own.claimed j e (old j e w);
      alone = λ j m e e2 w v. k.own.alone j m e e2 (old j e w) (old m e2 v);
      room = λ j e w. k.own.room j e (old j e w);
      under = λ j o m e ob r w. k.own.under j o m e ob r (old j e w);
      amids = λ j y e ob st q m. ⊎_elim
          (λ (t : (j ≡ g) × (d ≡ y)).
          let v : Across object (i ∷ stored) ≡ Amid e ob st = ap (λ (u : Rec). u.make) t.1 ∙ m in absurd (cc v))
          (λ (t : (j ≢ g) × HasRecord recs j y).
          let a = k.own.amids j y e ob st t.1 m in (
            a.0,
            record {
              fits = a.1.fits;
              plain = a.1.plain;
              laid = λ n l u. two_else k.w.cell at.page at.offset word e.page (e.fill + n)
                  (λ p b. absurd (k.own.apart.unowned g j at.page c e own page_in (y, t.1, a.0) p))
                  ∙ a.1.laid n l u;
            },
          ))
          (was recs g c d own j y q);
      apart = record {
        nobody = λ j o m e ob r w. k.own.apart.nobody j o m e ob r (old j e w);
        claimed = λ j p y e w.
            let u = reserves recs g c d own refl j y e in
            k.own.apart.claimed j p u.0 u.1 (subst (λ (v : Reserved). Within p v.pages) u.2 w)
            ∙ ap (λ (v : Reserved). suc v.slot) (sym u.2);
        unowned = λ j m p y e q w v.
            let u = reserves recs g c d own refl j y q in
            k.own.apart.unowned j m p u.0 e u.1 (subst (λ (v : Reserved). Within p v.pages) u.2 w) (old m e v);
        once = λ j l m n p y y2 q q2 a b.
            let u = reserves recs g c d own refl j y q in
            let v = reserves recs g c d own refl l y2 q2 in
            k.own.apart.once j l m n p u.0 v.0 u.1 v.1
            (subst (λ (v : Reserved). slice_get v.pages m ≡ Some p) u.2 a)
            (subst (λ (v : Reserved). slice_get v.pages n ≡ Some p) v.2 b);
        empty = λ j o m p y ob r q w.
            let u = reserves recs g c d own refl j y q in
            k.own.apart.empty j o m p u.0 ob r u.1 (subst (λ (v : Reserved). Within p v.pages) u.2 w);
        strewn = λ j y ob st q m. ⊎_elim
            (λ (t : (j ≡ g) × (d ≡ y)).
            let v : Across object (i ∷ stored) ≡ Across ob st = ap (λ (u : Rec). u.make) t.1 ∙ m in
            let b : object ≡ ob = cc v in
            let s : i ∷ stored ≡ st = cc v in
            subst (λ (u : Rec). Strewn z cell u.reserved.pages ob st) t.1
            (subst (λ (u : Object). Strewn z cell c.reserved.pages u st) b
            (subst (λ (u : List ℕ). Strewn z cell c.reserved.pages object u) s more)))
            (λ (t : (j ≢ g) × HasRecord recs j y).
            let a = k.own.apart.strewn j y ob st t.1 m in
            record {
              spread = a.spread;
              small = a.small;
              many = a.many;
              plain = a.plain;
              laid = λ n l u.
                  two_else k.w.cell at.page at.offset word (spread_spot z.page_words ob y.reserved.pages n).page
                  (spread_spot z.page_words ob y.reserved.pages n).offset
                  (λ p b.
                  let there = spread_within z.page_words ob y.reserved.pages n a.spread a.many l in
                  absurd (t.0 (k.own.apart.once j g there.0 page_in.0 at.page y c t.1 own (there.1 ∙ ap Some p) page_in.1).0))
                  ∙ a.laid n l u;
            })
            (was recs g c d own j y q);
      };
    }

    -- an opening store before the last
    pub word_strewn : MemoryImage z (set words (cell_at z at.page at.offset) word) recs2 x places
    word_strewn = record {
      w = record k.w { cell = cell };
      shows = writes_cell z words k.w k.shows at.page at.offset word page_small offset_small;
      lies = lies_word;
      own = own_word;
      filled = filled_same recs g c d own z x.held (length x.regions) places.slot k.filled refl refl
          (λ s q. k.filled.claims g s c own q);
      counts = counts_calm recs g c d own z k.w.count places.top x.regions places.slot places.uses k.counts refl;
      pages = pages_same recs g c d own k.w.state k.w.next k.w.head places.at places.chain places.link places.top k.pages
          refl refl;
      paged = k.paged;
      taken = taken_same recs g c d own z k.w.state k.w.count _ _ places.slot places.page k.taken refl refl;
    }
