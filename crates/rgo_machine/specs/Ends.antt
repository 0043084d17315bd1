-- How a run may end, and what it has written by then.
use Rattle.std.specs.Prelude.{◌≡◌, ◌≤◌, ◌<◌, ℕ, max, List, length, take, Option, Some, None, ⊤}
use Rattle.std.specs.Io.KnownBytes.{Appends}
use Rattle.rgo_machine.specs.declared.ends.RunEnd.{RunEnd}
use Rattle.rgo_machine.specs.declared.ends.RunEnd.TheVariants as run_end
use Rattle.rgo_machine.specs.declared.limits.Limits.{Limits}
use Rattle.rgo_machine.specs.declared.picks.Pick.{Pick}
use Rattle.rgo_machine.specs.Deadlocks.{IsDeadlock}
use Rattle.rgo_machine.specs.Limits.{LeadsWithin, IsCallTooDeep, IsFull}
use Rattle.rgo_machine.specs.Machines.{Machine, State}

-- Why a run ended so in a state: `steps` were taken, and the limit of steps was last found not reached after `before` of them. A law that
-- fixes `before`, as that of recorded runs does by their rounds, bounds how far a run goes beyond its limit. `RunsFreely` leaves it open,
-- and 0 always fits, so there only `limits.steps ≤ steps` counts; the bound is `spent` of `IsOneRun` in rgo_run. With a limit of 0 there
-- is still a first round. A write and an allocation may fail at any moment, so these two ends say nothing of the state.
abbrev pub RunEndsAs : {F : Type 0} → Machine F → Limits → (before steps : ℕ) → State F → RunEnd → Type 0
RunEndsAs machine limits before steps s (run_end.Ended e) = s.ended ≡ Some e
RunEndsAs machine limits before steps s run_end.Deadlock = IsDeadlock machine s
RunEndsAs machine limits before steps s run_end.CallsTooDeep = (s.ended ≡ None) × IsCallTooDeep machine s
RunEndsAs machine limits before steps s run_end.StepsSpent =
    (s.ended ≡ None) × (limits.steps ≤ steps) × (before < max 1 limits.steps)
RunEndsAs machine limits before steps s run_end.GoroutinesSpent = (s.ended ≡ None) × IsFull machine limits s
-- room is not a notion of machines: what is lacking is stated by the code that runs one
RunEndsAs machine limits before steps s (run_end.NoRoom shortage) = s.ended ≡ None
RunEndsAs machine limits before steps s run_end.WriteFault = ⊤
RunEndsAs machine limits before steps s run_end.NoMemory = ⊤

-- the first bytes of these were added, some, all or none
abbrev pub AppendsSome : Option (List ℕ) → Option (List ℕ) → List ℕ → Type 0
AppendsSome old new bytes = (n : ℕ) × Appends old new (take n bytes)

-- the whole print was written; some of it if a write failed
abbrev pub RunPrints : RunEnd → List ℕ → Option (List ℕ) → Option (List ℕ) → Type 0
RunPrints run_end.WriteFault print old new = AppendsSome old new print
RunPrints _ print old new = Appends old new print

-- Some run from a state ends so, within the limits, and its print was written; its goroutines have stepped in any
-- order. `tested` is the `before` of `RunEndsAs`, and limits nothing here, since 0 always fits.
pub record RunsFreely
    {F : Type 0} (machine : Machine F) (limits : Limits) (start : State F) (end : RunEnd) (old new : Option (List ℕ))
    : Type 0 where
  pub picks : List Pick
  pub tested : ℕ
  pub state : State F
  pub ran : LeadsWithin machine limits start picks state
  pub early : tested ≤ length picks
  pub ends : RunEndsAs machine limits tested (length picks) state end
  pub gives : RunPrints end state.printed old new
