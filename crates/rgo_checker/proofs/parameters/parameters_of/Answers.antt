use Rattle.std.proofs.Common.{subst}
use Rattle.rgo_checker.specs.ClassTests.{ArePlaces}
use Rattle.rgo_checker.proofs.decides.PassingLaws.{distinct_of}
use Rattle.rgo_checker.proofs.parameters.parameters_of.Goals as goal

pub invariant_of-result : goal.invariant_of-result
invariant_of-result c = record {
  distinct = distinct_of c.args.f.now c.in_ok-classes.classes.items c.in_ok-classes.ensures;
  placed = subst (λ cs. ArePlaces cs c.in_ok-places.places) c.deref.ensures.value c.in_ok-places.ensures;
}
