use Rattle.std.proofs.Common.{refl, subst, sym}
use Rattle.rgo_core_steps.specs.Accesses.{Stores}
use Rattle.rgo_acts.specs.Actors.{now}
use Rattle.rgo_acts.specs.Runs.{Run}
use Rattle.rgo_acts.proofs.accesses.Loading.{stored}
use Rattle.rgo_acts.proofs.cells.put.Goals as goal

pub store-requires-clause-stores : goal.store-requires-clause-stores
store-requires-clause-stores g c =
    subst (λ (r : Run). Stores r.setup (now r.setup c.args.actor.now) c.args.word c.args.value) (sym c.run.view_is) c.requires.stores

pub returns : goal.returns
returns g c =
    let a = c.args.actor.now in
    let b = record a { seat = c.store.new.seat; behind = 0; body = c.acted.new.self } in
    stored _ c.args.run.now c.run.view_is a b c.args.next.now c.requires.before c.store.ensures.own.0 refl
    c.store.ensures.possible c.args.word c.args.value c.store.ensures.leaves c.acted.ensures
