use Rattle.std.proofs.Common.{None}
use Rattle.rgo_goroutine.specs.Acting.{GoroutineActs, room_in_turn}
use Rattle.rgo_goroutine.proofs.goroutine.Goroutine.proceed.Given as goal

abbrev pub invariant-loop-turning : goal.invariant-loop-turning
invariant-loop-turning g l = GoroutineActs l.run l.fn.self l.self l.fn.turning l.turning None

abbrev pub decreases-loop-turning : goal.decreases-loop-turning
decreases-loop-turning g l = room_in_turn l.turning
