-- What slots are used for: live regions, and chains that are returned. The two exclude each other, and that is why nobody claims into a
-- chain that is being returned.
use Rattle.std.proofs.Common.{◌≡◌, ◌⊎◌, ℕ, ◌<◌, true, List, Option, Some, None, slice_get, nat_lt, refl, ap, sym, subst, ◌∙◌, inl, inr, ⊎_elim, arith, true≢false}
use Rattle.rgo_sound.specs.RegionMachine.Regions.{RegionInfo, has_stakes, is_live}
use Rattle.rgo_sound.specs.RegionMachine.declared.regions.Region.{Region}
use Rattle.rgo_sound.specs.RegionMachine.declared.regions.Region.TheVariants.{Global as GlobalRegion, Numbered}
use Rattle.rgo_core_memory.specs.declared.layout.TableSizes.{TableSizes}
use Rattle.rgo_core_memory.specs.Records.{Fill, PageClaim, Hung, Rec, HasRecord, Owns, Claims, ClosesSlot}
use Rattle.rgo_core_memory.specs.Ground.{Ground, Held, MayUseRegion, Steady}
use Rattle.rgo_core_memory.specs.Pages.{Chained}
use Rattle.rgo_core_memory.specs.Parts.{slot_of, StakeAt, Living, Closing}
use Rattle.rgo_core_memory.specs.Image.{MemoryImage, Where}

pub live_info : (regions : List RegionInfo) (k : ℕ) → is_live regions (Numbered k) ≡ true
    → (info : RegionInfo) × (slice_get regions k ≡ Some info) × (0 < info.stakes)
live_info regions k e = go (slice_get regions k) refl e
  where
    positive : (n : ℕ) → nat_lt 0 n ≡ true → 0 < n
    positive n h = grind arith

    go : (o : Option RegionInfo) → slice_get regions k ≡ o → has_stakes o ≡ true → (info : RegionInfo) × (slice_get regions k ≡ Some info)
        × (0 < info.stakes)
    go None q h = absurd (true≢false (sym h))
    go (Some info) q h = (info, q, positive info.stakes h)

module _ (z : TableSizes) (words : List ℕ) (recs : List Rec) (x : Ground) (places : Where) (k : MemoryImage z words recs x places) where
  -- the slot of a live region is Global's, or used for that region
  pub region_living : (r : Region) → is_live x.regions r ≡ true
      → (slot_of z places.slot r ≡ z.slots) ⊎ ((j : ℕ) × (r ≡ Numbered j) × (slot_of z places.slot r < z.slots)
      × (places.uses (slot_of z places.slot r) ≡ Living j))
  region_living GlobalRegion e = inl refl
  region_living (Numbered j) e = let i = live_info x.regions j e in let l = k.counts.lives j i.0 i.1 i.2 in inr (j, refl, l.0, l.1)

  -- a live region's slot is not closed
  pub not_closed : (r : Region) (g : ℕ) (c : Rec) → is_live x.regions r ≡ true → HasRecord recs g c → ClosesSlot c.give (slot_of z places.slot r) → ⊥
  not_closed r g c live own closes = let w = k.counts.closes g (slot_of z places.slot r) c own closes in ⊎_elim
      (λ (e : slot_of z places.slot r ≡ z.slots). let l = w.0 in omega arith)
      (λ (u : (j : ℕ) × (r ≡ Numbered j) × (slot_of z places.slot r < z.slots)
      × (places.uses (slot_of z places.slot r) ≡ Living j)). let y : Living u.0 ≡ Closing g = sym u.3 ∙ w.1 in cc y)
      (region_living r live)

  -- two live regions of one slot are the same
  pub one_region : (r s : Region) → is_live x.regions r ≡ true → is_live x.regions s ≡ true → slot_of z places.slot r ≡ slot_of z places.slot s
      → r ≡ s
  one_region GlobalRegion GlobalRegion a b e = refl
  one_region GlobalRegion (Numbered j) a b e = let i = live_info x.regions j b in let l = k.counts.lives j i.0 i.1 i.2 in let h = l.0 in absurd
      (omega arith)
  one_region (Numbered j) GlobalRegion a b e = let i = live_info x.regions j a in let l = k.counts.lives j i.0 i.1 i.2 in let h = l.0 in absurd
      (omega arith)
  one_region (Numbered j) (Numbered m) a b e =
      let i = live_info x.regions j a in let l = k.counts.lives j i.0 i.1 i.2 in
      let n = live_info x.regions m b in let o = k.counts.lives m n.0 n.1 n.2 in
      let y : Living j ≡ Living m = sym l.1 ∙ (ap places.uses e ∙ o.1) in
      let same : j ≡ m = cc y in ap Numbered same

  -- only one goroutine closes a slot
  pub one_closes : (s g j : ℕ) (c d : Rec) → HasRecord recs g c → ClosesSlot c.give s → HasRecord recs j d → ClosesSlot d.give s → j ≡ g
  one_closes s g j c d own closes there also = let a = k.counts.closes g s c own closes in let b = k.counts.closes j s d there also in
      let y : Closing j ≡ Closing g = sym b.1 ∙ a.1 in cc y

  module _ (steady : Steady x) where
    -- a region that a goroutine uses is live
    pub uses_live : (g : ℕ) (h : Held) (r : Region) → slice_get x.held g ≡ Some h → MayUseRegion h r → is_live x.regions r ≡ true
    uses_live g h GlobalRegion e u = refl
    uses_live g h (Numbered j) e u = steady.staked g j h e u

    pub stake_open : (j g s : ℕ) (c : Rec) → StakeAt z x.held places.slot j s → HasRecord recs g c → ClosesSlot c.give s → ⊥
    stake_open j g s c st own closes = not_closed st.1 g c (uses_live j st.0 st.1 st.2 st.3) own (subst (λ (n : ℕ). ClosesSlot c.give n)
        (sym st.4) closes)

    pub stake_slot : (j s : ℕ) → StakeAt z x.held places.slot j s → (s ≡ z.slots) ⊎ ((m : ℕ) × (s < z.slots) × (places.uses s ≡ Living m))
    stake_slot j s st = ⊎_elim
        (λ (e : slot_of z places.slot st.1 ≡ z.slots). inl (sym st.4 ∙ e))
        (λ (u : (m : ℕ) × (st.1 ≡ Numbered m) × (slot_of z places.slot st.1 < z.slots)
        × (places.uses (slot_of z places.slot st.1) ≡ Living m)). inr (
          u.0,
          subst (λ (n : ℕ). n < z.slots) st.4 u.2,
          subst (λ
              (n : ℕ). places.uses n ≡ Living u.0) st.4 u.3,
        ))
        (region_living st.1 (uses_live j st.0 st.1 st.2 st.3))

    pub owner_stake : (g : ℕ) (f : Fill) → Owns recs g f → StakeAt z x.held places.slot g f.slot
    owner_stake g f w = let t = k.filled.fills g f w in (t.0, t.1, t.2, t.3, t.4)

    -- no page is being hung on a chain that is returned
    pub unclaimed : (g r p : ℕ) (c : Rec) → HasRecord recs g c → ClosesSlot c.give r → places.at p ≡ Chained r
        → (j s o : ℕ) (y : Rec) → HasRecord recs j y → y.claim ≡ Hung p s o → ⊥
    unclaimed g r p c own closes at j s o y there q =
        let h = k.pages.hungs j p s o y there q in
        let e : Chained s ≡ Chained r = sym h.0 ∙ at in
        let same : s ≡ r = cc e in
        let claims : Claims y.claim s = subst (λ (v : PageClaim). Claims v s) (sym q) refl in
        stake_open j g r c (subst (λ (n : ℕ). StakeAt z x.held places.slot j n) same (k.filled.claims j s y there claims)) own closes
