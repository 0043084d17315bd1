use Rattle.std.proofs.Common.{◌≡◌}
use Rattle.rgo_crew.proofs.driving.turns.Given as goal

abbrev pub invariant-loop-listed : goal.invariant-loop-listed
invariant-loop-listed g l = l.crew ≡ l.fn.crew
