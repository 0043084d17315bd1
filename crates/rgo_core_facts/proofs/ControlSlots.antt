-- What a goroutine knows of regions, from numbers of regions to slots and back: lists are mapped, and tests commute for live regions.
use Rattle.std.proofs.Common.{◌≡◌, ◌∙◌, ◌<◌, ◌||◌, ℕ, zero, suc, Bool, true, false, List, [], ◌∷◌, map, Some, None, option_map, if◌then◌else◌, nat_eq, slice_get, refl, sym, ap, subst, arith, true≢false}
use Rattle.std.proofs.lemmas.Option.{same_Some, slice_get-map}
use Rattle.std.specs.List.{list_any}
use Rattle.rgo_core.proofs.Frames.steps.LocalActs.{mapped}
use Rattle.rgo_core.proofs.Frames.regions.SlotLemmas.{bound_slot}
use Rattle.rgo_core.specs.Frames.regions.Slots.{slotted_region, slot_environment, slot_environments, slot_names}
use Rattle.rgo_sound.specs.RegionMachine.Regions.{Bindings, bound, same_region}
use Rattle.rgo_sound.specs.RegionMachine.States.{RegionEnvironment}
use Rattle.rgo_sound.specs.RegionMachine.declared.regions.Region.{Region}
use Rattle.rgo_sound.proofs.duties.Attends.{same_reflexive}
use Rattle.rgo_sound.proofs.duties.Moves.{same_regions}
use Rattle.rgo_sound.proofs.Tests.{eq_of, nat_eq_refl, split}
use Rattle.rgo_sound.specs.Core.{AreStaked, AreUnique, AreUniqueIn, NamesStaked, RegionsStaked}
use Rattle.rgo_sound.specs.Stakes.{is_in, one_when, times_in}

-- ---- lists of numbers

in_rest : (b : Bool) (r : ℕ) (xs : List ℕ) → is_in r xs ≡ true → (if b then true else is_in r xs) ≡ true
in_rest true r xs e = refl
in_rest false r xs e = e

module _ (f : ℕ → ℕ) where
  pub in_mapped : (xs : List ℕ) (q : ℕ) → is_in q xs ≡ true → is_in (f q) (map f xs) ≡ true
  in_mapped [] q e = absurd (true≢false (sym e))
  in_mapped (x ∷ xs) q e = split (nat_eq q x)
      (λ t. ap (λ b. if b then true else is_in (f q) (map f xs))
      (ap (λ y. nat_eq (f q) (f y)) (sym (eq_of q x t)) ∙ nat_eq_refl (f q)))
      (λ n. in_rest (nat_eq (f q) (f x)) (f q) (map f xs)
      (in_mapped xs q (ap (λ b. if b then true else is_in q xs) (sym n) ∙ e)))

  pub in_unmapped : (xs : List ℕ) (p : ℕ) → is_in p (map f xs) ≡ true → (q : ℕ) × (f q ≡ p) × (is_in q xs ≡ true)
  in_unmapped [] p e = absurd (true≢false (sym e))
  in_unmapped (x ∷ xs) p e = split (nat_eq p (f x))
      (λ t. (x, sym (eq_of p (f x) t), ap (λ b. if b then true else is_in x xs) (nat_eq_refl x)))
      (λ n. let r = in_unmapped xs p (ap (λ b. if b then true else is_in p (map f xs)) (sym n) ∙ e) in
      (r.0, r.1, in_rest (nat_eq r.0 x) r.0 xs r.2))

  pub times_unmapped : (xs : List ℕ) (p : ℕ) → 0 < times_in p (map f xs) → (q : ℕ) × (f q ≡ p) × (0 < times_in q xs)
  times_unmapped [] p l = absurd (omega (arith, l))
  times_unmapped (x ∷ xs) p l = split (nat_eq p (f x))
      (λ t. let o : one_when (nat_eq x x) ≡ 1 = ap one_when (nat_eq_refl x) in (x, sym (eq_of p (f x) t), omega (arith, o)))
      (λ n. let o : one_when (nat_eq p (f x)) ≡ 0 = ap one_when n in
      let r = times_unmapped xs p (omega (arith, l, o)) in
      let m = r.2 in (r.0, r.1, omega (arith, m)))

-- ---- regions

module _ (slot_of : ℕ → ℕ) where
  any_there : (b c : Bool) → c ≡ true → (b || c) ≡ true
  any_there true c e = refl
  any_there false c e = e

  pub any_unslotted : (rs : List Region) (r : Region) → list_any (same_region r) (map (slotted_region slot_of) rs) ≡ true
      → (q : Region) × (slotted_region slot_of q ≡ r) × (list_any (same_region q) rs ≡ true)
  any_unslotted [] r e = absurd (true≢false (sym e))
  any_unslotted (x ∷ rs) r e = split (same_region r (slotted_region slot_of x))
      (λ t. (
        x,
        sym (same_regions r (slotted_region slot_of x) t),
        ap (λ b. b || list_any (same_region x) rs) (same_reflexive x),
      ))
      (λ n. let q = any_unslotted rs r (ap (λ b. b || list_any (same_region r) (map (slotted_region slot_of) rs)) (sym n) ∙ e) in
      (q.0, q.1, any_there (same_region q.0 x) (list_any (same_region q.0) rs) q.2))

  pub any_slotted : (rs : List Region) (q : Region) → list_any (same_region q) rs ≡ true
      → list_any (same_region (slotted_region slot_of q)) (map (slotted_region slot_of) rs) ≡ true
  any_slotted [] q e = absurd (true≢false (sym e))
  any_slotted (x ∷ rs) q e = split (same_region q x)
      (λ t. ap (λ b. b || list_any (same_region (slotted_region slot_of q)) (map (slotted_region slot_of) rs))
      (ap (λ y. same_region (slotted_region slot_of q) (slotted_region slot_of y)) (sym (same_regions q x t)) ∙ same_reflexive (slotted_region slot_of q)))
      (λ n. any_there (same_region (slotted_region slot_of q) (slotted_region slot_of x)) (list_any (same_region (slotted_region slot_of q)) (map (slotted_region slot_of) rs))
      (any_slotted rs q (ap (λ b. b || list_any (same_region q) rs) (sym n) ∙ e)))

  -- ---- names

  pub bound_unslotted : (names : Bindings) (k : ℕ) (r : Region) → bound (slot_names slot_of names) k ≡ Some r
      → (q : Region) × (bound names k ≡ Some q) × (slotted_region slot_of q ≡ r)
  bound_unslotted names k r e = mapped (slotted_region slot_of) (bound names k) r (sym (bound_slot slot_of names k) ∙ e)

  pub bound_slotted : (names : Bindings) (k : ℕ) (q : Region) → bound names k ≡ Some q
      → bound (slot_names slot_of names) k ≡ Some (slotted_region slot_of q)
  bound_slotted names k q e = bound_slot slot_of names k ∙ ap (option_map (slotted_region slot_of)) e

  pub unbound_slotted : (names : Bindings) (k : ℕ) → bound names k ≡ None → bound (slot_names slot_of names) k ≡ None
  unbound_slotted names k e = bound_slot slot_of names k ∙ ap (option_map (slotted_region slot_of)) e

  unique_slotted : (names : Bindings) → AreUnique names → AreUnique (slot_names slot_of names)
  unique_slotted [] u = tt
  unique_slotted (b ∷ bs) u = (unbound_slotted bs b.0 u.0, unique_slotted bs u.1)

  pub all_unique_slotted : (es : List RegionEnvironment) → AreUniqueIn es → AreUniqueIn (slot_environments slot_of es)
  all_unique_slotted [] u = tt
  all_unique_slotted (e ∷ es) u = (unique_slotted e.names u.0, all_unique_slotted es u.1)

  -- ---- environments

  pub environment_unslotted : (es : List RegionEnvironment) (i : ℕ) (e : RegionEnvironment) → slice_get (slot_environments slot_of es) i ≡ Some e
      → (f : RegionEnvironment) × (slice_get es i ≡ Some f) × (slot_environment slot_of f ≡ e)
  environment_unslotted es i e q =
      mapped (slot_environment slot_of) (slice_get es i) e (sym (slice_get-map (slot_environment slot_of) es i) ∙ q)

-- what is staked in all environments is staked in each
pub staked_at : (stakes : List ℕ) (es : List RegionEnvironment) (i : ℕ) (e : RegionEnvironment) → AreStaked stakes es → slice_get es i ≡ Some e
    → NamesStaked stakes e.names × RegionsStaked stakes e.protections
staked_at stakes [] i e s q = absurd (none e q)
  where
    none : (e : RegionEnvironment) → None ≡ Some e → ⊥
    none e q = cc
staked_at stakes (f ∷ fs) zero e s q =
    subst (λ (y : RegionEnvironment). NamesStaked stakes y.names × RegionsStaked stakes y.protections)
    (same_Some f e q) (s.0, s.1)
staked_at stakes (f ∷ fs) (suc i) e s q = staked_at stakes fs i e s.2 q
