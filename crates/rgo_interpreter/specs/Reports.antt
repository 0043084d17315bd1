-- What the code reports of goroutines that wait, and of deadlocks. Both results are claimed: a deadlock that is not reported would be a run
-- that never ends.
use Rattle.std.specs.Prelude.{◌≡◌, ℕ, Bool, true, false, None}
use Rattle.std.specs.Option.{is_some}
use Rattle.rgo_memory.specs.Channels.{receive, send}
use Rattle.rgo_memory.specs.Memory.{Memory}
use Rattle.rgo_machine.specs.declared.picks.Pick.TheVariants.{One}
use Rattle.rgo_machine.specs.Deadlocks.{IsDeadlock}
use Rattle.rgo_machine.specs.Machines.{Machine, State, step_by}
use Rattle.rgo_interpreter.specs.declared.machines.Stand.{Stand as CodeStand}
use Rattle.rgo_interpreter.specs.declared.machines.Stand.TheVariants as code

-- whether a goroutine that is there has a step alone: only a receive and a send can have none
abbrev pub has_step_alone : Memory → CodeStand → Bool
has_step_alone m (code.Receive channel blank) = is_some (receive m channel blank)
has_step_alone m (code.Send channel v place) = is_some (send m channel v)
has_step_alone m _ = true

module _ {F : Type 0} where
  -- whether no goroutine has a step alone
  abbrev pub ReportsWaiting : Machine F → State F → Bool → Type 0
  ReportsWaiting machine s true = (g : ℕ) → step_by machine s (One g) ≡ None
  ReportsWaiting machine s false = (g : ℕ) × (step_by machine s (One g) ≡ None → ⊥)

  -- whether there is a deadlock
  abbrev pub ReportsDeadlock : Machine F → State F → Bool → Type 0
  ReportsDeadlock machine s true = IsDeadlock machine s
  ReportsDeadlock machine s false = IsDeadlock machine s → ⊥
