-- The permits by which a worker steals, one for each deque. A permit has one part of its deque and puts nothing, so what it has
-- taken is all that the owner has to learn from it.
use Rattle.std.specs.Prelude.{◌≡◌, ℕ, zero, suc, ◌+◌, ◌≤◌, List, [], length}
use mathlib.Core.Option.{some}
use lib.ListN.{get_elem?}
use Rattle.crossbeam_deque.specs.Handles.{view, IsPassOf, stealer_deque}
use Rattle.rgo_sched.specs.declared.deques.Permit.{Permit}
use Rattle.rgo_sched.specs.Accounts.{total_weight}
use Rattle.rgo_sched.specs.Deques.{TaskStealer}

-- how many permits for deque i a worker has if it has permits for the first n deques: 1 or 0
abbrev pub permits_for : ℕ → ℕ → ℕ
permits_for i zero = 0
permits_for zero (suc n) = 1
permits_for (suc i) (suc n) = permits_for i n

module _ {T B : Type 0} where
  -- a permit for the deque of this stealer, with one part, by which nothing was put
  pub record Fits (s : TaskStealer) (p : Permit T B) : Type 0 where
    pub table : IsPassOf (stealer_deque s) p.pass
    pub part : (view p.pass).parts ≡ 1
    pub none : (view p.pass).put ≡ []

  -- the permit at each index is one for the deque of that index
  pub record AllFit (stealers : List TaskStealer) (permits : List (Permit T B)) : Type 0 where
    pub few : length permits ≤ length stealers
    pub each : (i : ℕ) (s : TaskStealer) (p : Permit T B) → get_elem? stealers i ≡ some s → get_elem? permits i ≡ some p
        → Fits s p

  -- the weight of what was taken by these permits
  abbrev pub stolen : (ℕ → ℕ) → List (Permit T B) → ℕ
  stolen w permits = total_weight (λ (p : Permit T B). total_weight w (view p.pass).taken) permits

  -- What was taken by the permits from ps to qs is what was done from ds to es. The two are added crosswise, since ps may have taken and
  -- ds may be done from before.
  pub record TakenWasDone (ps qs : List (Permit T B)) (ds es : List ℕ) : Type 0 where
    pub moved : (w : ℕ → ℕ) → stolen w qs + total_weight w ds ≡ stolen w ps + total_weight w es
    pub same : length qs ≡ length ps
