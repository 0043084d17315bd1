use Rattle.std.proofs.Common.{length}
use Rattle.rgo_goroutine.proofs.Attending.{HasAttendedSome}
use Rattle.rgo_goroutine.proofs.goroutine.Goroutine.attend_each.Given as goal

abbrev pub invariant-loop-self : goal.invariant-loop-self
invariant-loop-self g l = HasAttendedSome l.run l.fn.self l.self l.fn.turning l.turning

-- the duties that are left
abbrev pub decreases-loop-self : goal.decreases-loop-self
decreases-loop-self g l = length l.self.actor.body.queue.duties
