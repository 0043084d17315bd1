use Rattle.std.proofs.Common.{◌≡◌}
use Rattle.rgo_crew.proofs.driving.play_out.Given as goal

abbrev pub invariant-loop : goal.invariant-loop
invariant-loop g l = l.crew ≡ l.fn.crew
