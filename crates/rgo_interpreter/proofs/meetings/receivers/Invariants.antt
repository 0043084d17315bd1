use Rattle.std.proofs.Common.{nat_eq}
use Rattle.std.specs.HashMap.{get}
use Rattle.rgo_interpreter.specs.Meetings.{FindsReceivers}
use Rattle.rgo_interpreter.proofs.meetings.receivers.Given as goal

-- those so far
abbrev pub invariant-loop-g : goal.invariant-loop-g
invariant-loop-g g l = FindsReceivers (g.M.Machine.machine l.machine) l.state l.g (get nat_eq l.found)
