use Rattle.std.proofs.Common.{◌≡◌, ◌<◌, ℕ, None}
use Rattle.rgo_machine.specs.Machines.{step_by}
use Rattle.rgo_machine.specs.declared.picks.Pick.TheVariants.{One}
use Rattle.rgo_interpreter.proofs.deadlocks.all_wait.Given as goal

-- no goroutine so far has a step alone
abbrev pub invariant-loop-g : goal.invariant-loop-g
invariant-loop-g g l = (h : ℕ) → h < l.g → step_by (g.M.Machine.machine l.machine) l.state (One h) ≡ None
