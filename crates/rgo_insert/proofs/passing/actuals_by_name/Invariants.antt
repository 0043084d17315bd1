use Rattle.rgo_insert.specs.Passing.{AreActuals}
use Rattle.rgo_insert.proofs.passing.actuals_by_name.Given as goal

abbrev pub invariant-loop-at : goal.invariant-loop-at
invariant-loop-at l = AreActuals l.found l.formals l.actuals l.at
