use Rattle.std.proofs.Common.{◌≡◌, ◌≤◌, ◌-◌, ◌++◌, reverse, vec_capacity, vec_len}
use Rattle.rgo_goroutine.specs.Goroutines.{valid}
use Rattle.rgo_goroutine.proofs.goroutine.move_valid.Given as goal

-- those that have moved, and those that are still to move, which come from the end
abbrev pub invariant-loop-print : goal.invariant-loop-print
invariant-loop-print l = record {
  moved : l.into.items ++ valid (reverse l.prints.items) ≡ l.fn.into.items ++ valid l.fn.prints.items;
  room : vec_len l.prints ≤ vec_capacity l.into - vec_len l.into;
}

abbrev pub decreases-loop-print : goal.decreases-loop-print
decreases-loop-print l = vec_len l.prints
