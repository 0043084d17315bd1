use Rattle.std.proofs.Common.{◌≡◌, ◌+◌, ◌<◌, length}
use Rattle.rgo_goroutine.specs.Goroutines.{printed_byte_count}
use Rattle.rgo_goroutine.proofs.goroutine.hold_much.Given as goal

abbrev pub invariant-loop-first : goal.invariant-loop-first
invariant-loop-first l = record {
  some : 0 < l.left;
  rest : printed_byte_count l.prints + l.left ≡ 65536 + printed_byte_count l.rest;
}

abbrev pub decreases-loop-first : goal.decreases-loop-first
decreases-loop-first l = length l.rest
