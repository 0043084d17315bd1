use Rattle.rgo_checker.specs.Parameters.{ArePlacesBelow}
use Rattle.rgo_checker.proofs.parameters.places_of.Given as goal

abbrev pub invariant-loop-p : goal.invariant-loop-p
invariant-loop-p l = ArePlacesBelow l.classes l.p l.places
