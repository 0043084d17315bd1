-- What the rule on protections says of the lists of a call, in counts: the rule speaks of two positions, and the count of holding names
-- needs 'at most once'.
use Rattle.std.proofs.Common.{◌≡◌, ◌≢◌, ℕ, zero, suc, ◌+◌, ◌≤◌, Bool, true, false, not, ◌||◌, List, [], ◌∷◌, Option}
use Rattle.std.proofs.Common.{Some, refl, sym, ap, ◌∙◌, nat_eq, arith, ◌⊎◌, inl, inr, true≢false, slice_get, Contains}
use Rattle.std.specs.List.{list_any}
use Rattle.rgo_sound.proofs.Tests.{or_there, split, nat_eq_refl}
use Rattle.rgo_sound.proofs.Places.{get_contains, contains_cases, contains_nil}
use Rattle.rgo_sound.proofs.names.Edges.{is_named}
use Rattle.rgo_sound.proofs.calls.Passed.{times_named}
use Rattle.rgo_code.specs.Code.{Call, CodeFn}
use Rattle.rgo_code.specs.NameRules.{ProtectsUsed}
use Rattle.rgo_code.specs.Names.{IsPassedTwice, is_class_named, result_class}
use Rattle.rgo_sound.specs.Holding.{is_mine}
use Rattle.rgo_sound.specs.Stakes.{one_when}
use Rattle.rgo_tac.specs.declared.regions.Class.{Class}
use Rattle.rgo_tac.specs.declared.regions.Class.TheVariants.{Name}

pub any_contains : (ks : List ℕ) (k : ℕ) → Contains ks k → list_any (nat_eq k) ks ≡ true
any_contains [] k c = absurd (contains_nil k c)
any_contains (j ∷ ks) k c = go (contains_cases j ks k c) (any_contains ks k)
  where
    go : (j ≡ k) ⊎ Contains ks k → (Contains ks k → list_any (nat_eq k) ks ≡ true)
        → (nat_eq k j || list_any (nat_eq k) ks) ≡ true
    go (inl e) next = ap (λ x. nat_eq k x || list_any (nat_eq k) ks) e
        ∙ ap (λ x. x || list_any (nat_eq k) ks) (nat_eq_refl k)
    go (inr d) next = or_there (nat_eq k j) (list_any (nat_eq k) ks) (next d)

-- a name that is passed has a position
named_at : (k : ℕ) (cs : List Class) → 1 ≤ times_named k cs → (p : ℕ) × (slice_get cs p ≡ Some (Name k))
named_at k [] h = absurd (omega (arith, h))
named_at k (c ∷ cs) h = go (is_class_named k c) refl h (named_at k cs)
  where
    go : (b : Bool) → is_class_named k c ≡ b → 1 ≤ one_when b + times_named k cs
        → (1 ≤ times_named k cs → (p : ℕ) × (slice_get cs p ≡ Some (Name k))) → (p : ℕ)
        × (slice_get (c ∷ cs) p ≡ Some (Name k))
    go true e h next = (0, ap Some (is_named k c e))
    go false e h next = let x = next (omega (arith, h)) in (suc x.0, x.1)

-- a name that is passed more than once has two positions
named_twice : (k : ℕ) (cs : List Class) → 2 ≤ times_named k cs → IsPassedTwice cs k
named_twice k [] h = absurd (omega (arith, h))
named_twice k (c ∷ cs) h = go (is_class_named k c) refl h (named_twice k cs) (named_at k cs)
  where
    up : (p q : ℕ) → p ≢ q → suc p ≢ suc q
    up p q n e = n (omega (arith, e))

    zero_suc : (p : ℕ) → zero ≢ suc p
    zero_suc p e = omega (arith, e)

    go : (b : Bool) → is_class_named k c ≡ b → 2 ≤ one_when b + times_named k cs → (2 ≤ times_named k cs → IsPassedTwice cs k)
        → (1 ≤ times_named k cs → (p : ℕ) × (slice_get cs p ≡ Some (Name k))) → IsPassedTwice (c ∷ cs) k
    go true e h next at = let x = at (omega (arith, h)) in
        record { one = 0; other = suc x.0; differ = zero_suc x.0; first = ap Some (is_named k c e); second = x.1 }
    go false e h next at = let x = next (omega (arith, h)) in
        record {
          one = suc x.one;
          other = suc x.other;
          differ = up x.one x.other x.differ;
          first = x.first;
          second =
              x.second;
        }

module _ (fn : CodeFn) (i : ℕ) (to : Option ℕ) (n : ℕ) (from : List ℕ) (passes : List Class) (protects removes : List ℕ)
    (rule : ProtectsUsed fn i (Call to n from passes protects removes)) where
  -- what is passed twice is protected
  pub protects_twice : (k : ℕ) → list_any (nat_eq k) protects ≡ false → times_named k passes ≤ 1
  protects_twice k n = go (times_named k passes) refl
    where
      twice : 2 ≤ times_named k passes → ⊥
      twice h =
          let t = named_twice k passes h in
          true≢false (sym (any_contains protects k ((rule k).1
          (get_contains passes t.one (Name k) t.first, inr (inr t)))) ∙ n)

      go : (m : ℕ) → times_named k passes ≡ m → times_named k passes ≤ 1
      go zero e = omega (arith, e)
      go (suc zero) e = omega (arith, e)
      go (suc (suc m)) e = absurd (twice (omega (arith, e)))

  -- and so is the name of the caller's own result
  pub protects_result : (k : ℕ) → list_any (nat_eq k) protects ≡ false → 1 ≤ times_named k passes
      → is_mine (result_class fn) k ≡ true
  protects_result k n h = split (is_class_named k (result_class fn)) (λ t. absurd (lent t)) (λ f. ap (λ x. not x) f)
    where
      lent : is_class_named k (result_class fn) ≡ true → ⊥
      lent t =
          let p = named_at k passes h in
          true≢false (sym (any_contains protects k ((rule k).1
          (get_contains passes p.0 (Name k) p.1, inr (inl (is_named k (result_class fn) t))))) ∙ n)
