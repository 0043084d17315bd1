-- Each way out changes at most the element at `place`. The ways differ in the call that was last, whose clause `of` is used.
use Rattle.std.proofs.lemmas.List.Elements.{All-set}
use Rattle.rgo_goroutine.specs.Goroutines.{IsOf}
use Rattle.rgo_crew.proofs.crew.turn_one.Goals as goal

pub returns-in_err-started-in-Some-clause-all : goal.returns-in_err-started-in-Some-clause-all
returns-in_err-started-in-Some-clause-all g c =
    All-set (IsOf c.args.run.now) c.args.goroutines.now c.args.place _ c.collect.ensures.of c.requires.all

pub returns-in_ok-started-in-Some-clause-all : goal.returns-in_ok-started-in-Some-clause-all
returns-in_ok-started-in-Some-clause-all g c =
    All-set (IsOf c.args.run.now) c.args.goroutines.now c.args.place _ c.collect.ensures.of c.requires.all

pub returns-in-None-clause-all : goal.returns-in-None-clause-all
returns-in-None-clause-all g c =
    All-set (IsOf c.args.run.now) c.args.goroutines.now c.args.place _ c.turn.ensures.of c.requires.all
