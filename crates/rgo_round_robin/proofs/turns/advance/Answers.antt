use Rattle.std.proofs.Common.{arith, subst}
use Rattle.rgo_interpreter.specs.Turns.{IsOver}
use Rattle.rgo_round_robin.proofs.Composed.{some_steps}
use Rattle.rgo_round_robin.proofs.Left.{itself}
use Rattle.rgo_round_robin.proofs.Taken.{advances_by, rest_on}
use Rattle.rgo_round_robin.proofs.turns.advance.Goals as goal

pub rest-requires : goal.rest-requires
rest-requires g c =
    let run = g.R.Running.view c.args.run.now in
    let on = c.requires.on in
    let took = c.in-Ok.ensures.steps run.machine on.given on.state (itself run on.given on.state on.shown) on.on in
    record { given = on.given; state = took.moves.state; shown = took.moves.at.shown; on = took.moves.moved.on }

pub returns-in-Waits-clause-went : goal.returns-in-Waits-clause-went
returns-in-Waits-clause-went g c = λ machine given s at on.
    let mid = g.R.Running.view c.take_steps.new.run in
    let turned = c.in-Ok.turned in
    let took = c.in-Ok.ensures.steps machine given s at on in
    let over =
    subst (λ x. IsOver machine c.args.limits took.moves.state c.args.g c.args.left turned.steps x) c.in-Waits.is
    took.over in
    rest_on mid (g.R.Running.view c.rest.new.run) machine c.args.limits c.args.g given s c.args.driver.now
    c.take_steps.new.driver turned.steps took.moves c.rest.new.driver c.args.left c.rest.result c.in-Ok.ensures.within
    (c.rest.ensures.went machine given took.moves.state took.moves.at took.moves.moved.on over.1)

pub returns-in_default-clause-went : goal.returns-in_default-clause-went
returns-in_default-clause-went g c = λ machine given s at on.
    advances_by (g.R.Running.view c.take_steps.new.run) machine c.args.limits c.args.g given s c.args.driver.now
    c.take_steps.new.driver c.args.left c.in-Ok.turned.steps c.in-Ok.ensures.within
    (c.in-Ok.ensures.steps machine given s at on).moves

pub returns-in_default-clause-less : goal.returns-in_default-clause-less
returns-in_default-clause-less g c =
    let run = g.R.Running.view c.args.run.now in
    let on = c.requires.on in
    let turned = c.in-Ok.turned in
    let took = c.in-Ok.ensures.steps run.machine on.given on.state (itself run on.given on.state on.shown) on.on in
    let some = some_steps run.machine c.args.limits took.moves.state c.args.g c.args.left turned.steps turned.stop
    took.none c.in_default.not-Waits took.over c.requires.some in
    omega (arith, some, c.requires.some)
