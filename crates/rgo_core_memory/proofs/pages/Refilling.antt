-- A goroutine has another own page in a region, or has filled it further. Its fills are a list by region, so those of other regions
-- stay by the test on regions.
use Rattle.std.proofs.Common.{◌≡◌, ◌≢◌, ◌⊎◌, ℕ, Bool, true, false, List, [], ◌∷◌, length, Some, None, slice_get, slice_set, nat_eq, refl, ap, sym, subst, ◌∙◌, inl, inr, ⊎_elim, arith, true≢false, if◌then◌else◌}
use Rattle.std.proofs.lemmas.Option.{same_Some}
use mathlib.Core.Logic.{dite}
use native.Mathlib.Decide.{ℕ_discrete}
use Rattle.rgo_sound.specs.RegionMachine.Objects.{fill_of, with_fill}
use Rattle.rgo_sound.specs.RegionMachine.Regions.{is_live, same_region}
use Rattle.rgo_sound.specs.RegionMachine.declared.regions.Region.{Region}
use Rattle.rgo_sound.specs.RegionMachine.declared.regions.Region.TheVariants.{Global as GlobalRegion, Numbered}
use Rattle.rgo_sound.proofs.Progress.{fill_with}
use Rattle.rgo_sound.proofs.Tests.{split, eq_of}
use Rattle.rgo_core_memory.specs.declared.layout.TableSizes.{TableSizes}
use Rattle.rgo_core_memory.specs.Records.{Fill, Rec, HasRecord, Within, Owns, Claims}
use Rattle.rgo_core_memory.specs.Ground.{Ground, Held, MayUseRegion, Steady}
use Rattle.rgo_core_memory.specs.Parts.{OwnPagesFilled, slot_of, StakeAt}
use Rattle.rgo_core_memory.specs.Image.{MemoryImage, Where}
use Rattle.rgo_core_memory.proofs.image.Keeping.{was, owns_was, owns_mine, owns_other, owns_old}
use Rattle.rgo_core_memory.proofs.Rows.{at_set, set_here, set_else, below}
use Rattle.rgo_core_memory.proofs.regions.Slots.{live_info, one_region, uses_live}
use Rattle.rgo_core_memory.specs.Records.{Reserved}
use Rattle.rgo_core_memory.proofs.image.Keeping.{reserves, here, stays}
use Rattle.std.proofs.Common.{◌<◌}

-- two regions are one, or a test says that they are not
pub one_or_two : (r q : Region) → (r ≡ q) ⊎ (same_region r q ≡ false)
one_or_two GlobalRegion GlobalRegion = inl refl
one_or_two GlobalRegion (Numbered j) = inr refl
one_or_two (Numbered i) GlobalRegion = inr refl
one_or_two (Numbered i) (Numbered j) = split (nat_eq i j) (λ t. inl (ap Numbered (eq_of i j t))) (λ n. inr n)

-- what is filled of another region
pub fill_else : (fills : List (Region × ℕ)) (r q : Region) (n : ℕ) → same_region r q ≡ false → fill_of (with_fill fills r n) q ≡ fill_of fills q
fill_else [] r q n e = go (same_region r q) e
  where
    go : (b : Bool) → b ≡ false → (if b then Some n else None) ≡ None
    go true e = absurd (true≢false e)
    go false e = refl
fill_else (f ∷ fs) r q n e = ⊎_elim
    (λ (s : f.0 ≡ r). subst (λ (b : Bool). fill_of (if b then (r, n) ∷ fs else f ∷ with_fill fs r n) q ≡ fill_of (f ∷ fs) q) (sym (yes s)) (here s
    (same_region r q) e))
    (λ (d : same_region f.0 r ≡ false). subst (λ (b : Bool). fill_of (if b then (r, n) ∷ fs else f ∷ with_fill fs r n) q ≡ fill_of (f ∷ fs) q)
    (sym d) (there (same_region f.0 q) (fill_else fs r q n e)))
    (one_or_two f.0 r)
  where
    reflexive : (a : Region) → same_region a a ≡ true
    reflexive GlobalRegion = refl
    reflexive (Numbered i) = grind arith

    yes : f.0 ≡ r → same_region f.0 r ≡ true
    yes s = ap (λ (a : Region). same_region a r) s ∙ reflexive r

    here : f.0 ≡ r → (b : Bool) → same_region r q ≡ false
        → (if same_region r q then Some n else fill_of fs q) ≡ (if same_region f.0 q then Some f.1 else fill_of fs q)
    here s b e = ap (λ (b : Bool). if b then Some n else fill_of fs q) e
        ∙ sym (ap (λ (b : Bool). if b then Some f.1 else fill_of fs q) (ap (λ (a : Region). same_region a q) s ∙ e))

    there : (b : Bool) → fill_of (with_fill fs r n) q ≡ fill_of fs q
        → (if b then Some f.1 else fill_of (with_fill fs r n) q) ≡ (if b then Some f.1 else fill_of fs q)
    there true h = refl
    there false h = h

module _ (z : TableSizes) (words : List ℕ) (recs : List Rec) (x : Ground) (places : Where) (k : MemoryImage z words recs x places) (steady : Steady x)
    (g : ℕ) (h : Held) (hold : slice_get x.held g ≡ Some h) (r : Region) (used : MayUseRegion h r) (n : ℕ) where
  abbrev pub h2 : Held
  h2 = record h { fills = with_fill h.fills r n }

  abbrev pub held : List Held
  held = slice_set x.held g h2

  hold2 : slice_get held g ≡ Some h2
  hold2 = set_here x.held g h2 h hold

  live : is_live x.regions r ≡ true
  live = uses_live z words recs x places k steady g h r hold used

  uses_same : (q : Region) → MayUseRegion h q → MayUseRegion h2 q
  uses_same GlobalRegion u = tt
  uses_same (Numbered j) u = u

  uses_back : (q : Region) → MayUseRegion h2 q → MayUseRegion h q
  uses_back GlobalRegion u = tt
  uses_back (Numbered j) u = u

  was_held : (i : ℕ) (y : Held) → slice_get held i ≡ Some y → ((i ≡ g) × (h2 ≡ y)) ⊎ ((i ≢ g) × (slice_get x.held i ≡ Some y))
  was_held i y e = at_set x.held g i h2 y e

  pub stake_refilled : (i s : ℕ) → StakeAt z x.held places.slot i s → StakeAt z held places.slot i s
  stake_refilled i s st = dite (ℕ_discrete i g)
      (λ e.
      let same : st.0 ≡ h = same_Some st.0 h (sym st.2 ∙ (ap (slice_get x.held) e ∙ hold)) in
      (h2, st.1, ap (slice_get held) e ∙ hold2, uses_same st.1 (subst (λ (y : Held). MayUseRegion y st.1) same st.3), st.4))
      (λ m. (st.0, st.1, set_else x.held g i h2 m ∙ st.2, st.3, st.4))

  module _ (c d : Rec) (own : HasRecord recs g c) (e0 : Fill) (slotted : e0.slot ≡ slot_of z places.slot r) (filled : e0.fill ≡ n)
      (there : Within e0 d.fills)
      (only : (f : Fill) → Within f d.fills → (f ≡ e0) ⊎ (Within f c.fills × (f.slot ≢ slot_of z places.slot r)))
      (others : (f : Fill) → Within f c.fills → f.slot ≢ slot_of z places.slot r → Within f d.fills)
      (claims : (s : ℕ) → Claims d.claim s → StakeAt z x.held places.slot g s) (reserved : d.reserved ≡ c.reserved) where
    abbrev recs2 : List Rec
    recs2 = slice_set recs g d

    -- an own page afterwards
    which : (i : ℕ) (f : Fill) → Owns recs2 i f → ((i ≡ g) × (f ≡ e0)) ⊎ (Owns recs i f × (i ≡ g → f.slot ≢ slot_of z places.slot r))
    which i f w = ⊎_elim
        (λ (t : (i ≡ g) × Within f d.fills). ⊎_elim
        (λ (u : f ≡ e0). inl (t.0, u))
        (λ (u : Within f c.fills × (f.slot ≢ slot_of z places.slot r)). inr (subst (λ (m : ℕ). Owns recs m f) (sym t.0) (c, own, u.0), λ e. u.1))
        (only f t.1))
        (λ (t : (i ≢ g) × Owns recs i f). inr (t.1, λ e. absurd (t.0 e)))
        (owns_was recs g c d own i f w)

    -- two regions of different slots
    apart : (q : Region) → slot_of z places.slot q ≢ slot_of z places.slot r → same_region r q ≡ false
    apart q ne = ⊎_elim (λ (e : r ≡ q). absurd (ne (ap (slot_of z places.slot) (sym e)))) (λ (d : same_region r q ≡ false). d) (one_or_two r q)

    pub refilled : OwnPagesFilled z recs2 held (length x.regions) places.slot
    refilled = record {
      fills = λ i f w. ⊎_elim
          (λ (t : (i ≡ g) × (f ≡ e0)). (
            h2,
            r,
            ap (slice_get held) t.0 ∙ hold2,
            uses_same r used,
            sym slotted ∙ ap (λ (y : Fill). y.slot) (sym t.1),
            fill_with h.fills r n
                ∙ ap Some (sym filled ∙ ap (λ (y : Fill). y.fill) (sym t.1)),
          ))
          (λ (t : Owns recs i f × (i ≡ g → f.slot ≢ slot_of z places.slot r)).
          let o = k.filled.fills i f t.0 in
          dite (ℕ_discrete i g)
          (λ e.
          let same : o.0 ≡ h = same_Some o.0 h (sym o.2 ∙ (ap (slice_get x.held) e ∙ hold)) in (
            h2,
            o.1,
            ap (slice_get held) e ∙ hold2,
            uses_same o.1 (subst (λ (y : Held). MayUseRegion y o.1) same o.3),
            o.4,
            fill_else h.fills r o.1 n (apart o.1 (λ q. t.1 e (sym o.4 ∙ q))) ∙ subst (λ (y : Held). fill_of y.fills o.1 ≡ Some f.fill) same o.5,
          ))
          (λ m. (o.0, o.1, set_else x.held g i h2 m ∙ o.2, o.3, o.4, o.5)))
          (which i f w);
      owned = λ i m y q e u f. ⊎_elim
          (λ (t : (i ≡ g) × (h2 ≡ y)).
          let f2 : fill_of (with_fill h.fills r n) q ≡ Some m = subst (λ (v : Held). fill_of v.fills q ≡ Some m) (sym t.1) f in
          let u2 : MayUseRegion h q = uses_back q (subst (λ (v : Held). MayUseRegion v q) (sym t.1) u) in
          ⊎_elim
          (λ (s : r ≡ q).
          let now : n ≡ m = same_Some n m (sym (fill_with h.fills r n) ∙ (ap (fill_of (with_fill h.fills r n)) s ∙ f2)) in (
            e0,
            subst (λ (a : ℕ). Owns recs2 a e0) (sym t.0) (owns_mine recs g c d own e0 there),
            slotted ∙ ap (slot_of z places.slot) s,
            filled
                ∙ now,
          ))
          (λ (s : same_region r q ≡ false).
          let o = k.filled.owned g m h q hold u2 (sym (fill_else h.fills r q n s) ∙ f2) in
          let ne : (o.0).slot ≢ slot_of z places.slot r = λ v.
          let one : r ≡ q = one_region z words recs x places k r q live (uses_live z words recs x places k steady g h q hold u2) (sym v ∙ o.2) in
          differs r q one s in (
            o.0,
            subst (λ (a : ℕ). Owns recs2 a o.0) (sym t.0) (owns_mine recs g c d own o.0 (others o.0
                (owns_old recs g c d own g o.0 refl o.1) ne)),
            o.2,
            o.3,
          ))
          (one_or_two r q))
          (λ (t : (i ≢ g) × (slice_get x.held i ≡ Some y)). let o = k.filled.owned i m y q t.1 u f in
          (o.0, owns_other recs g c d own i o.0 t.0 o.1, o.2, o.3))
          (was_held i y e);
      single = λ i e f w v q. ⊎_elim
          (λ (t : (i ≡ g) × (e ≡ e0)). ⊎_elim
          (λ (u : (i ≡ g) × (f ≡ e0)). t.1 ∙ sym u.1)
          (λ (u : Owns recs i f × (i ≡ g → f.slot ≢ slot_of z places.slot r)). absurd (u.1 t.0 (sym q ∙ (ap (λ (y : Fill). y.slot) t.1 ∙ slotted))))
          (which i f v))
          (λ (t : Owns recs i e × (i ≡ g → e.slot ≢ slot_of z places.slot r)). ⊎_elim
          (λ (u : (i ≡ g) × (f ≡ e0)). absurd (t.1 u.0 (q ∙ (ap (λ (y : Fill). y.slot) u.1 ∙ slotted))))
          (λ (u : Owns recs i f × (i ≡ g → f.slot ≢ slot_of z places.slot r)). k.filled.single i e f t.0 u.0 q)
          (which i f v))
          (which i e w);
      claims = λ i s y e q. ⊎_elim
          (λ (t : (i ≡ g) × (d ≡ y)). stake_refilled i s (subst (λ (a : ℕ). StakeAt z x.held places.slot a s) (sym t.0) (claims s (subst (λ
          (v : Rec). Claims v.claim s) (sym t.1) q))))
          (λ (t : (i ≢ g) × HasRecord recs i y). stake_refilled i s (k.filled.claims i s y t.1 q))
          (was recs g c d own i y e);
      reserved = λ i y e q.
          let w = reserves recs g c d own reserved i y e in
          let o = k.filled.reserved i w.0 w.1 (subst (λ (v : Reserved). 0 < length v.pages) w.2 q) in
          let slot = o.4 ∙ ap (λ (v : Reserved). v.slot) (sym w.2) in
          let many = o.5 ∙ ap (λ (v : Reserved). length v.pages) (sym w.2) in
          dite (ℕ_discrete i g)
          (λ s.
          let same : o.0 ≡ h = same_Some o.0 h (sym o.2 ∙ (ap (slice_get x.held) s ∙ hold)) in (
            h2,
            o.1,
            ap (slice_get held) s ∙ hold2,
            uses_same o.1 (subst (λ (v : Held). MayUseRegion v o.1) same o.3),
            slot,
            ap (λ (v : Held). v.reserved) (sym same) ∙ many,
          ))
          (λ m. (o.0, o.1, set_else x.held g i h2 m ∙ o.2, o.3, slot, many));
      recorded = λ i y e q. ⊎_elim
          (λ (t : (i ≡ g) × (h2 ≡ y)).
          let m = ap (λ (v : Held). v.reserved) t.1 in
          let u = k.filled.recorded g h hold (omega (arith, m, q)) in (
            d,
            subst (λ (a : ℕ). HasRecord recs2 a d) (sym t.0) (here recs g c d own),
            sym m ∙ u.2 ∙ ap (λ (v : Reserved). length v.pages)
                (ap (λ (v : Rec). v.reserved) (same_Some u.0 c (sym u.1 ∙ own)) ∙ sym reserved),
          ))
          (λ (t : (i ≢ g) × (slice_get x.held i ≡ Some y)).
          let u = k.filled.recorded i y t.1 q in (u.0, stays recs g c d own i u.0 t.0 u.1, u.2))
          (was_held i y e);
      made = λ i j m y e f. ⊎_elim
          (λ (t : (i ≡ g) × (h2 ≡ y)).
          let f2 : fill_of (with_fill h.fills r n) (Numbered j) ≡ Some m = subst (λ (v : Held). fill_of v.fills (Numbered j) ≡ Some m) (sym t.1) f in
          ⊎_elim
          (λ (s : r ≡ Numbered j). let i = live_info x.regions j (subst (λ
          (a : Region). is_live x.regions a ≡ true) s live) in below x.regions j i.0 i.1)
          (λ (s : same_region r (Numbered j) ≡ false). k.filled.made g j m h hold (sym (fill_else h.fills r (Numbered j) n s) ∙ f2))
          (one_or_two r (Numbered j)))
          (λ (t : (i ≢ g) × (slice_get x.held i ≡ Some y)). k.filled.made i j m y t.1 f)
          (was_held i y e);
    }
      where
        reflexive : (a : Region) → same_region a a ≡ true
        reflexive GlobalRegion = refl
        reflexive (Numbered i) = grind arith

        differs : (a b : Region) → a ≡ b → same_region a b ≡ false → ⊥
        differs a b e s = true≢false (sym (ap (same_region a) (sym e) ∙ reflexive a) ∙ s)
