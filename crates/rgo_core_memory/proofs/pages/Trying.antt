-- A page, or a slot, was found in use. No word changes, and the record only remembers more. `Taken` has the step of the page already,
-- since its state is not 0.
use Rattle.std.proofs.Common.{◌≡◌, ◌≢◌, ℕ, zero, suc, ◌<◌, List, [], ◌∷◌, length, slice_index, slice_set, refl, sym, subst, ◌∙◌, inl, inr, ⊎_elim, arith}
use mathlib.Core.Logic.{dite}
use native.Mathlib.Decide.{ℕ_discrete}
use Rattle.rgo_core_memory.specs.declared.layout.TableSizes.{TableSizes}
use Rattle.rgo_core_memory.specs.Words.{state_at, count_at}
use Rattle.rgo_core_memory.specs.Records.{Located, Measured, Rec, HasRecord, Claims, with_located, with_measured, with_tried_page, with_tried_slot}
use Rattle.rgo_core_memory.specs.Ground.{Ground, taken_of}
use Rattle.rgo_core_memory.specs.Pages.{occurrences}
use Rattle.rgo_core_memory.specs.Parts.{Taken, TriedPage, TriedSlot}
use Rattle.rgo_core_memory.specs.Image.{MemoryImage, Where}
use Rattle.rgo_core_memory.proofs.pages.Chains.{times_else}
use Rattle.rgo_core_memory.proofs.image.Keeping.{was, taken_fewer, own_same, filled_same, counts_calm, pages_same}

positive : (n : ℕ) → n ≢ 0 → 0 < n
positive zero h = absurd (h refl)
positive (suc n) h = omega arith

module _ (z : TableSizes) (words : List ℕ) (recs : List Rec) (x : Ground) (places : Where) (k : MemoryImage z words recs x places) (g : ℕ) (c : Rec)
    (own : HasRecord recs g c) where
  -- a record of which only what it tried changes
  tried : (d : Rec) → d.fills ≡ c.fills → d.make ≡ c.make → d.reserved ≡ c.reserved → d.claim ≡ c.claim → d.give ≡ c.give
      → Taken z k.w.state k.w.count (slice_set recs g d) (taken_of x) (length x.regions) places.slot places.page
      → MemoryImage z words (slice_set recs g d) x places
  tried d fills make reserved claim give taken = record {
    w = k.w;
    shows = k.shows;
    lies = k.lies;
    own = own_same recs g c d own z k.w.state k.w.cell x.heap x.owners x.regions places.slot places.spot k.own fills make reserved;
    filled = filled_same recs g c d own z x.held (length x.regions) places.slot k.filled fills reserved (λ s q. k.filled.claims g s c own (subst
        (λ v. Claims v s) claim q));
    counts = counts_calm recs g c d own z k.w.count places.top x.regions places.slot places.uses k.counts give;
    pages = pages_same recs g c d own k.w.state k.w.next k.w.head places.at places.chain places.link places.top k.pages claim give;
    paged = k.paged;
    taken = taken;
  }

  -- a claim that found another number
  pub page_tried : (p : ℕ) → p < z.pages → slice_index words (state_at z p) ≢ 0 → MemoryImage z words (slice_set recs g (with_tried_page c p)) x places
  page_tried p small found = tried d refl refl refl refl refl (record {
    pages = λ q f. ⊎_elim (λ l. k.taken.pages q (inl l)) (λ u. was_tried q u) f;
    slots = λ s l f. k.taken.slots s l (⊎_elim (λ q. inl q) (λ u. inr (slot_tried s u)) f);
  })
    where
      d : Rec
      d = with_tried_page c p

      slot_tried : (s : ℕ) → TriedSlot (slice_set recs g (with_tried_page c p)) s → TriedSlot recs s
      slot_tried s u = ⊎_elim
          (λ (t : (u.0 ≡ g) × (with_tried_page c p ≡ u.1)). (g, c, own, subst (λ (y : Rec). 0 < occurrences s y.tried_slots) (sym t.1) u.3))
          (λ (t : (u.0 ≢ g) × HasRecord recs u.0 u.1). (u.0, u.1, t.1, u.3))
          (was recs g c (with_tried_page c p) own u.0 u.1 u.2)

      was_tried : (q : ℕ) → TriedPage (slice_set recs g (with_tried_page c p)) q → (n : ℕ) × (n < taken_of x) × (places.page n ≡ q)
      was_tried q u = ⊎_elim
          (λ (t : (u.0 ≡ g) × (with_tried_page c p ≡ u.1)). dite (ℕ_discrete q p)
          (λ e. k.taken.pages q (inl (subst (λ (m : ℕ). 0 < k.w.state m) (sym e) (positive (k.w.state p) (λ y. found (k.shows.state p small ∙ y))))))
          (λ ne.
          let y : 0 < occurrences q (p ∷ c.tried_pages) = subst (λ (y : Rec). 0 < occurrences q y.tried_pages) (sym t.1) u.3 in
          let v = times_else q p c.tried_pages (λ e. ne (sym e)) in k.taken.pages q (inr (g, c, own, omega (arith, y, v)))))
          (λ (t : (u.0 ≢ g) × HasRecord recs u.0 u.1). k.taken.pages q (inr (u.0, u.1, t.1, u.3)))
          (was recs g c (with_tried_page c p) own u.0 u.1 u.2)

  -- a creation that found another number
  pub slot_tried : (r : ℕ) → r < z.slots → slice_index words (count_at z r) ≢ 0 → MemoryImage z words (slice_set recs g (with_tried_slot c r)) x places
  slot_tried r small found = tried (with_tried_slot c r) refl refl refl refl refl (record {
    pages = λ q f. k.taken.pages q (⊎_elim (λ l. inl l) (λ u. inr (page_was q u)) f);
    slots = λ s l f. ⊎_elim (λ q. k.taken.slots s l (inl q)) (λ u. was_tried s l u) f;
  })
    where
      page_was : (q : ℕ) → TriedPage (slice_set recs g (with_tried_slot c r)) q → TriedPage recs q
      page_was q u = ⊎_elim
          (λ (t : (u.0 ≡ g) × (with_tried_slot c r ≡ u.1)). (g, c, own, subst (λ (y : Rec). 0 < occurrences q y.tried_pages) (sym t.1) u.3))
          (λ (t : (u.0 ≢ g) × HasRecord recs u.0 u.1). (u.0, u.1, t.1, u.3))
          (was recs g c (with_tried_slot c r) own u.0 u.1 u.2)

      was_tried : (s : ℕ) → s < z.slots → TriedSlot (slice_set recs g (with_tried_slot c r)) s → (j : ℕ) × (j < length x.regions)
          × (places.slot j ≡ s)
      was_tried s l u = ⊎_elim
          (λ (t : (u.0 ≡ g) × (with_tried_slot c r ≡ u.1)). dite (ℕ_discrete s r)
          (λ e. k.taken.slots s l (inl (subst (λ (m : ℕ). 0 < k.w.count m) (sym e) (positive (k.w.count r) (λ y. found (k.shows.count r
          (omega arith) ∙ y))))))
          (λ ne.
          let y : 0 < occurrences s (r ∷ c.tried_slots) = subst (λ (y : Rec). 0 < occurrences s y.tried_slots) (sym t.1) u.3 in
          let v = times_else s r c.tried_slots (λ e. ne (sym e)) in k.taken.slots s l (inr (g, c, own, omega (arith, y, v)))))
          (λ (t : (u.0 ≢ g) × HasRecord recs u.0 u.1). k.taken.slots s l (inr (u.0, u.1, t.1, u.3)))
          (was recs g c (with_tried_slot c r) own u.0 u.1 u.2)

  -- the next call forgets what was found
  pub forgot : MemoryImage z words (slice_set recs g (record c { tried_pages = []; tried_slots = [] })) x places
  forgot = tried (record c { tried_pages = []; tried_slots = [] }) refl refl refl refl refl
      (taken_fewer recs g c (record c { tried_pages = []; tried_slots = [] }) own z k.w.state k.w.count (taken_of x)
      (length x.regions) places.slot places.page k.taken
      (λ p l. omega (arith, l)) (λ r l. omega (arith, l)))

  -- a length was read
  pub measures : (m : Measured) → MemoryImage z words (slice_set recs g (with_measured c m)) x places
  measures m = tried (with_measured c m) refl refl refl refl refl
      (taken_fewer recs g c (with_measured c m) own z k.w.state k.w.count (taken_of x)
      (length x.regions) places.slot places.page k.taken
      (λ p l. omega (arith, l)) (λ r l. omega (arith, l)))

  -- the number of a data page was read
  pub locates : (l : Located) → MemoryImage z words (slice_set recs g (with_located c l)) x places
  locates l = tried (with_located c l) refl refl refl refl refl
      (taken_fewer recs g c (with_located c l) own z k.w.state k.w.count (taken_of x)
      (length x.regions) places.slot places.page k.taken
      (λ p l. omega (arith, l)) (λ r l. omega (arith, l)))
