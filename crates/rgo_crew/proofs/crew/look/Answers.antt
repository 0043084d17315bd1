-- A look changes one element of the slice, and the call keeps that one of the run.
use Rattle.std.proofs.lemmas.List.Elements.{All-set}
use Rattle.rgo_goroutine.specs.Goroutines.{IsOf}
use Rattle.rgo_crew.proofs.crew.look.Goals as goal

pub returns : goal.returns
returns c = All-set (IsOf c.args.run.now) c.args.goroutines.now 0 _ c.look.ensures.of c.requires.all
