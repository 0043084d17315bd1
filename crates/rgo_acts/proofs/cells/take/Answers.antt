use Rattle.std.proofs.Common.{refl, subst, sym}
use Rattle.rgo_core_steps.specs.Accesses.{Loads}
use Rattle.rgo_acts.specs.Actors.{now}
use Rattle.rgo_acts.specs.Runs.{Run}
use Rattle.rgo_acts.proofs.accesses.Loading.{loaded}
use Rattle.rgo_acts.proofs.cells.take.Goals as goal

pub load-found-requires-clause-loads : goal.load-found-requires-clause-loads
load-found-requires-clause-loads g c =
    subst (λ (r : Run). Loads r.setup (now r.setup c.args.actor.now) c.args.word) (sym c.run.view_is) c.requires.loads

pub returns : goal.returns
returns g c =
    let a = c.args.actor.now in
    let b = record a { seat = c.load-found.new.seat; behind = 0; body = c.acted.new.self } in
    loaded _ c.args.run.now c.run.view_is a b c.args.next.now c.requires.before c.load-found.ensures.own.0 refl
    c.load-found.ensures.possible c.args.word c.load-found.result c.load-found.ensures.leaves c.acted.ensures
