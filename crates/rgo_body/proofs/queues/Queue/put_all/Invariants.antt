use Rattle.std.proofs.Common.{◌≡◌, ◌≤◌, ◌+◌, ◌++◌, drop, length, map}
use Rattle.rgo_body.specs.Queues as spec
use Rattle.rgo_body.proofs.queues.Queue.put_all.Given as goal

-- the duties of the names from the i-th on are put
abbrev pub invariant-loop-i : goal.invariant-loop-i
invariant-loop-i l = (l.i ≤ length l.names)
    × (l.self.duties ≡ map (spec.duty_with l.kind) (drop l.i l.names) ++ l.initial.self.duties)
    × (l.self.room + length l.names ≡ l.initial.self.room + l.i)

abbrev pub decreases-loop-i : goal.decreases-loop-i
decreases-loop-i l = l.i
