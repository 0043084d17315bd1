-- A round of the loop changes one element, so that `All-set` carries the list; the failing way needs the same step as the other.
use Rattle.std.proofs.lemmas.List.Elements.{All-set}
use Rattle.rgo_goroutine.specs.Goroutines.{IsOf}
use Rattle.rgo_crew.proofs.crew.collect_all.Goals as goal

pub returns-in_err-collect-clause-all : goal.returns-in_err-collect-clause-all
returns-in_err-collect-clause-all c =
    All-set (IsOf c.args.run.now) c.loop-place.goroutines c.loop-place.place _ c.collect.ensures.of c.loop-place.invariant.all

pub loop-place-preserved : goal.loop-place-preserved
loop-place-preserved c = record {
  all = All-set (IsOf c.args.run.now) c.loop-place.goroutines c.loop-place.place _ c.collect.ensures.of c.loop-place.invariant.all;
  born = c.collect.ensures.born;
}
