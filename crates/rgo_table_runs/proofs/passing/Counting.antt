-- If every page is claimed and no chain is given back, as many pages are in use as there are; the same of slots. Pages are counted by the
-- slots that have them, each of which is a live region or Global.
use Rattle.std.proofs.Common.{◌≡◌, ◌≢◌, ◌⊎◌, ℕ, zero, suc, ◌+◌, ◌-◌, ◌<◌, ◌≤◌, List, [], ◌∷◌, length, Some, slice_get, slice_index, sum_by, count_by, refl, ap, sym, subst, ◌∙◌, inl, inr, arith}
use mathlib.Core.Logic.{dite}
use native.Mathlib.Decide.{ℕ_discrete}
use Rattle.rgo_core.proofs.Memory.pages.InUse.{below, below_here, below_more, live_many, live_sum, page_here, page_more, sum_more, sum_one, sum_split, zero_plus}
use Rattle.rgo_core.specs.Memory.Ground.{Ground}
use Rattle.rgo_core.specs.Memory.Image.{MemoryImage, Where}
use Rattle.rgo_core.specs.Memory.Pages.{PageChain, Chained, Claimed, Free, Place, occurrences}
use Rattle.rgo_core.specs.Memory.Parts.{Closing, Living, Use, Vacant, pages_at}
use Rattle.rgo_core.specs.Memory.Records.{Calm, ClosesSlot, Give, Got, HasRecord, Idle, Rec}
use Rattle.rgo_core.specs.Memory.Words.{count_at, state_at}
use Rattle.rgo_core.specs.Memory.declared.layout.TableSizes.{TableSizes}
use Rattle.rgo_sound.specs.RegionMachine.Counts.{is_removed, pages_if_removed}
use Rattle.rgo_sound.specs.RegionMachine.Regions.{RegionInfo}

module _ (z : TableSizes) (words : List ℕ) (recs : List Rec) (x : Ground) (places : Where) (k : MemoryImage z words recs x places)
    (calm : (g : ℕ) (c : Rec) → HasRecord recs g c → (c.give ≡ Calm) × (c.claim ≡ Idle)) where
  not_closing : (s g : ℕ) → s < z.slots → places.uses s ≡ Closing g → ⊥
  not_closing s g l e = let t = k.counts.closing s g l e in subst (λ (y : Give). ClosesSlot y s) (calm g t.1 t.2).0 t.3

  -- a slot with pages is that of a live region, or of Global
  abbrev IsUsed : ℕ → Type 0
  IsUsed s = (s ≡ z.slots) ⊎ ((j : ℕ) × (places.slot j ≡ s) × (info : RegionInfo) × (slice_get x.regions j ≡ Some info) × (0 < info.stakes))

  use_of : (s : ℕ) → s < z.slots → (u : Use) → places.uses s ≡ u → (u ≡ Vacant → ⊥) → IsUsed s
  use_of s l Vacant e not = absurd (not refl)
  use_of s l (Living j) e not = let t = k.counts.living s j l e in inr (j, t.0, t.1, t.2, t.3)
  use_of s l (Closing g) e not = absurd (not_closing s g l e)

  some_chained : (p : ℕ) (l : List ℕ) → 0 < occurrences p l → l ≡ [] → ⊥
  some_chained p [] h e = omega arith
  some_chained p (y ∷ ys) h e = cc e

  some_top : (link : ℕ → ℕ) (h : ℕ) (l : List ℕ) → PageChain link h l → h ≡ 0 → l ≡ []
  some_top link h [] c e = refl
  some_top link h (p ∷ ps) c e = absurd (let a = c.0 in omega (arith, a, e))

  chained_at : (p s : ℕ) → places.at p ≡ Chained s → s ≤ z.slots → IsUsed s
  chained_at p s e l = dite (ℕ_discrete s z.slots)
      (λ q. inl q)
      (λ ne. let low : s < z.slots = omega arith in use_of s low (places.uses s) refl (λ v.
      let t = k.counts.vacant s low v in
      some_chained p (places.chain s) (k.pages.is_chained p s e).1 (some_top places.link (places.top s) (places.chain s) (k.pages.chains s) t.1)))

  page_at : (p : ℕ) → k.w.state p ≢ 0 → (a : Place) → places.at p ≡ a → (s : ℕ) × (k.w.state p ≡ suc s) × IsUsed s
  page_at p some Free e = absurd (some (k.pages.is_free p e))
  page_at p some (Chained s) e =
      let t = k.pages.is_chained p s e in
      (s, t.0, chained_at p s e (let q = t.0 in let high = k.own.for_slots p in omega (arith, q, high)))
  page_at p some (Claimed g) e =
      let t = k.pages.is_claimed p g e in
      let q : Got p t.0 ≡ Idle = sym t.3 ∙ (calm g t.1 t.2).1 in absurd (cc q)

  module _ (used : (p : ℕ) → p < z.pages → slice_index words (state_at z p) ≢ 0) where
    abbrev claims : ℕ → ℕ
    claims n = pages_at k.w.state n z.slots + live_sum (pages_at k.w.state) places.slot n 0 x.regions

    one_page : (n : ℕ) → n < z.pages → suc (claims n) ≤ claims (suc n)
    one_page n l =
        let s = k.shows.state n l in
        let t = page_at n (λ e. used n l (s ∙ e)) (places.at n) refl in
        by t.0 t.1 t.2
      where
        by : (s : ℕ) → k.w.state n ≡ suc s → IsUsed s → suc (claims n) ≤ claims (suc n)
        by s e (inl is) =
            let a = page_here k.w.state n z.slots (e ∙ ap suc is) in
            let b = sum_more (pages_at k.w.state) places.slot (page_more k.w.state) n 0 x.regions in
            omega (arith, a, b)
        by s e (inr (j, is, info, there, live)) =
            let a = page_more k.w.state n z.slots in
            let b = sum_one (pages_at k.w.state) places.slot (page_more k.w.state) n 0 x.regions j info there live
            (subst (λ (m : ℕ). suc (pages_at k.w.state n (places.slot m)) ≤ pages_at k.w.state (suc n) (places.slot m)) (sym (zero_plus j))
            (page_here k.w.state n (places.slot j) (e ∙ ap suc (sym is)))) in
            omega (arith, a, b)

    all_pages : (n : ℕ) → n ≤ z.pages → n ≤ claims n
    all_pages zero l = omega arith
    all_pages (suc n) l = let a = all_pages n (omega arith) in let b = one_page n (omega arith) in omega (arith, a, b)

    -- as many pages are in use as there are
    pub pages_used : z.pages ≤ (x.global_pages + sum_by (λ (i : RegionInfo). i.pages) x.regions) - sum_by pages_if_removed x.regions
    pages_used =
        let a = all_pages z.pages (omega arith) in
        let b = k.paged.global in
        let c = sum_split (pages_at k.w.state) places.slot z.pages 0 x.regions (λ j info e l. k.paged.live j info e l
        ∙ ap (λ (m : ℕ). pages_at k.w.state z.pages (places.slot m)) (sym (zero_plus j))) in
        omega (arith, a, b, c)

  module _ (used : (s : ℕ) → s < z.slots → slice_index words (count_at z s) ≢ 0) where
    slot_used : (n : ℕ) → n < z.slots → IsUsed n
    slot_used n l = use_of n l (places.uses n) refl (λ v. used n l (k.shows.count n (omega arith) ∙ (k.counts.vacant n l v).0))

    one_slot : (n : ℕ) → n < z.slots → suc (live_sum below places.slot n 0 x.regions) ≤ live_sum below places.slot (suc n) 0 x.regions
    one_slot n l = by (slot_used n l)
      where
        by : IsUsed n → suc (live_sum below places.slot n 0 x.regions) ≤ live_sum below places.slot (suc n) 0 x.regions
        by (inl e) = absurd (omega (arith, e, l))
        by (inr (j, is, info, there, live)) = sum_one below places.slot below_more n 0 x.regions j info there live
            (subst (λ (m : ℕ). suc (below n (places.slot m)) ≤ below (suc n) (places.slot m)) (sym (zero_plus j)) (below_here n (places.slot j) is))

    all_slots : (n : ℕ) → n ≤ z.slots → n ≤ live_sum below places.slot n 0 x.regions
    all_slots zero l = omega arith
    all_slots (suc n) l = let a = all_slots n (omega arith) in let b = one_slot n (omega arith) in omega (arith, a, b)

    -- as many regions are live as there are slots
    pub slots_used : z.slots ≤ length x.regions - count_by is_removed x.regions
    slots_used =
        let a = all_slots z.slots (omega arith) in
        let b = live_many places.slot z.slots 0 x.regions in
        omega (arith, a, b)
