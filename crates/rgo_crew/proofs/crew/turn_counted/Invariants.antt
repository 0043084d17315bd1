use Rattle.rgo_goroutine.specs.Goroutines.{IsOf}
use Rattle.rgo_crew.proofs.crew.turn_counted.Given as goal

abbrev pub invariant-loop : goal.invariant-loop
invariant-loop g l = IsOf l.fn.run l.goroutine
