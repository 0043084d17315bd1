-- The count is at most the place, so it does not overflow.
use Rattle.std.proofs.Common.{◌≤◌}
use Rattle.rgo_crew.proofs.driving.filled.Given as goal

abbrev pub invariant-loop-i : goal.invariant-loop-i
invariant-loop-i l = l.filled ≤ l.i
