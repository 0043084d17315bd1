-- Both lists stay of the run at every place, since an allocation may fail in the middle and the clauses speak of that, too.
use Rattle.std.specs.List.{All}
use Rattle.rgo_goroutine.specs.Goroutines.{IsOf}
use Rattle.rgo_crew.proofs.crew.collect_all.Given as goal

abbrev pub invariant-loop-place : goal.invariant-loop-place
invariant-loop-place l = record {
  all : All (IsOf l.fn.run) l.goroutines;
  born : All (IsOf l.fn.run) l.born.items;
}
