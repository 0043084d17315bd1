-- All states that a machine can reach, searched by computation: each pick of each state, down to a given depth. A search that passes is
-- a proof about every run, for it also checks that no run is longer than the depth.
use Rattle.std.proofs.Common.{◌≡◌, ◌<◌, ◌≤◌, ◌⊎◌, inl, inr, ℕ, zero, suc, ◌==◌, Bool, true, false, ◌&&◌, List, [], ◌∷◌}
use Rattle.std.proofs.Common.{length, Option, Some, None, refl, subst, arith, slice_get, if◌then◌else◌}
use Rattle.std.specs.Prelude.{option_and_then}
use Rattle.std.proofs.lemmas.Bool.{and_parts, cases_lt}
use Rattle.std.proofs.lemmas.Option.{slice_get_within}
use Rattle.rgo_machine.specs.declared.picks.Pick.{Pick}
use Rattle.rgo_machine.specs.declared.picks.Pick.TheVariants.{One, Meet}
use Rattle.rgo_machine.specs.Machines.{Machine, State, alone, meet, met_by, picked}
use Rattle.rgo_machine.specs.Runs.{run}

-- ---- tests

-- whether all numbers below n pass
abbrev pub all_below : (ℕ → Bool) → ℕ → Bool
all_below test zero = true
all_below test (suc n) = test n && all_below test n

pub below : (test : ℕ → Bool) (n k : ℕ) → all_below test n ≡ true → k < n → test k ≡ true
below test zero k all less = absurd (omega (arith, less))
below test (suc n) k all less = by (cases_lt k n) (below test n k)
  where
    by : (k < n) ⊎ (n ≤ k) → (all_below test n ≡ true → k < n → test k ≡ true) → test k ≡ true
    by (inl less) rest = rest (and_parts (test n) (all_below test n) all).1 less
    by (inr more) rest =
        let is : n ≡ k = omega (arith, less, more) in
        subst (λ j. test j ≡ true) is (and_parts (test n) (all_below test n) all).0

module _ {F : Type 0} where
  -- whether the state after a step passes, if the step exists
  abbrev pub leads_to : (State F → Bool) → Option (State F) → Bool
  leads_to test None = true
  leads_to test (Some s) = test s

  -- whether each state to which one step leads passes
  abbrev pub all_next : (State F → Pick → Option (State F)) → (State F → Bool) → State F → Bool
  all_next step test s =
      all_below (λ g. leads_to test (step s (One g))) (length s.goroutines)
      && all_below (λ r. all_below (λ t. leads_to test (step s (Meet r t))) (length s.goroutines))
      (length s.goroutines)

  -- whether the state and all states of its runs pass, and no run has as many steps as the depth
  abbrev pub all_within : (State F → Pick → Option (State F)) → (State F → Bool) → ℕ → State F → Bool
  all_within step test zero s = false
  all_within step test (suc n) s = test s && all_next step (all_within step test n) s

  -- each step is one of the machine, but for what it leads to
  abbrev pub IsOf : Machine F → (State F → Pick → Option (State F)) → Type 0
  IsOf m step = (s t : State F) (pick : Pick) → step s pick ≡ Some t → (u : State F) × (picked m s pick ≡ Some u)

  module _ (m : Machine F) (step : State F → Pick → Option (State F)) (is_of : IsOf m step) where
    there : {X Y : Type 0} (f : X → Option Y) (o : Option X) (y : Y) → option_and_then f o ≡ Some y
        → (x : X) × (o ≡ Some x) × (f x ≡ Some y)
    there f None y e = absurd cc
    there f (Some x) y e = (x, refl, e)

    unless_same : (s : State F) (r q : ℕ) (x : Bool) (u : State F) → (if x then None else meet m s r q) ≡ Some u
        → meet m s r q ≡ Some u
    unless_same s r q true u e = absurd cc
    unless_same s r q false u e = e

    next : (test : State F → Bool) (s t : State F) (pick : Pick) → all_next step test s ≡ true → step s pick ≡ Some t
        → test t ≡ true
    next test s t (One g) all e =
        let u = is_of s t (One g) e in
        let f = there (alone m s g) (slice_get s.goroutines g) u.0 u.1 in
        let all = and_parts (all_below (λ g. leads_to test (step s (One g))) (length s.goroutines)) _ all in
        let passes = below (λ g. leads_to test (step s (One g))) (length s.goroutines) g all.0
        (slice_get_within s.goroutines g f.0 f.1) in
        subst (λ o. leads_to test o ≡ true) e passes
    next test s t (Meet r q) all e =
        let u = is_of s t (Meet r q) e in
        let meets = unless_same s r q (r == q) u.0 u.1 in
        let f = there (λ f. option_and_then (met_by m s r q f) (slice_get s.goroutines q)) (slice_get s.goroutines r)
        u.0 meets in
        let h = there (met_by m s r q f.0) (slice_get s.goroutines q) u.0 f.2 in
        let all = and_parts (all_below (λ g. leads_to test (step s (One g))) (length s.goroutines)) _ all in
        let passes = below (λ r. all_below (λ q. leads_to test (step s (Meet r q))) (length s.goroutines))
        (length s.goroutines) r all.1 (slice_get_within s.goroutines r f.0 f.1) in
        let passes = below (λ q. leads_to test (step s (Meet r q))) (length s.goroutines) q passes
        (slice_get_within s.goroutines q h.0 h.1) in
        subst (λ o. leads_to test o ≡ true) e passes

    -- each state of each run passes, and the run is short
    pub found : (test : State F → Bool) (n : ℕ) (picks : List Pick) (s t : State F) → all_within step test n s ≡ true
        → run step s picks ≡ Some t → (test t ≡ true) × (length picks < n)
    found test zero picks s t all e = absurd cc
    found test (suc n) [] s t all e =
        let passes = (and_parts (test s) (all_next step (all_within step test n) s) all).0 in
        let is : s ≡ t = cc in
        (subst (λ u. test u ≡ true) is passes, omega arith)
    found test (suc n) (pick ∷ picks) s t all e = by (step s pick) refl e (λ u. found test n picks u t)
      where
        by : (o : Option (State F)) → step s pick ≡ o
            → option_and_then (λ u. run step u picks) o ≡ Some t
            → ((u : State F) → all_within step test n u ≡ true → run step u picks ≡ Some t
            → (test t ≡ true) × (length picks < n))
            → (test t ≡ true) × (length (pick ∷ picks) < suc n)
        by None is e rest = absurd cc
        by (Some u) is e rest =
            let each = (and_parts (test s) (all_next step (all_within step test n) s) all).1 in
            let r = rest u (next (all_within step test n) s u pick each is) e in
            (r.0, omega (arith, r.1))
