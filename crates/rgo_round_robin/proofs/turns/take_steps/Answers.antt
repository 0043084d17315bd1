use Rattle.std.proofs.Common.{arith, sym, ◌∙◌}
use Rattle.rgo_round_robin.proofs.Composed.{counts_saturating}
use Rattle.rgo_round_robin.proofs.Left.{has_memory, turn_at}
use Rattle.rgo_round_robin.proofs.Taken.{steps_to, stops_turn, stops_waking}
use Rattle.rgo_round_robin.proofs.turns.take_steps.Goals as goal

pub returns-in-Some-clause-steps : goal.returns-in-Some-clause-steps
returns-in-Some-clause-steps g c = λ machine given s at on.
    let new = g.R.Running.view c.turn-turned.new.self in
    let turned = c.turn-turned.result in
    stops_turn new machine c.args.limits c.args.g given s c.args.left turned c.in-Some.end
    (c.turn-turned.ensures.machine ∙ at.is) (sym c.end_of.ensures ∙ c.in-Some.is)
    (turn_at (g.R.Running.view c.args.run.now) new machine c.args.limits given s c.args.g c.args.left turned at on
    c.turn-turned.ensures.turns)

pub returns-in-Err-clause-steps : goal.returns-in-Err-clause-steps
returns-in-Err-clause-steps g c = λ machine given s at on.
    let new = g.R.Running.view c.turn-turned.new.self in
    let turned = c.turn-turned.result in
    stops_waking new machine c.args.limits c.args.g given s c.args.left turned (c.turn-turned.ensures.machine ∙ at.is)
    (turn_at (g.R.Running.view c.args.run.now) new machine c.args.limits given s c.args.g c.args.left turned at on
    c.turn-turned.ensures.turns)

pub returns-in-Ok-clause-steps : goal.returns-in-Ok-clause-steps
returns-in-Ok-clause-steps g c = λ machine given s at on.
    let new = g.R.Running.view c.turn-turned.new.self in
    let turned = c.turn-turned.result in
    let woke = c.in-Ok.ensures in
    let none = sym c.end_of.ensures ∙ c.in_default.is in
    let taken = turn_at (g.R.Running.view c.args.run.now) new machine c.args.limits given s c.args.g c.args.left turned
    at on c.turn-turned.ensures.turns in
    let from = c.goroutines-from.ensures given s at.shown in
    let to = c.goroutines-to.ensures given taken.state (taken.shows (has_memory turned.stop none)) in
    steps_to new machine c.args.limits c.args.g given s c.args.driver.now c.wake.new.driver c.args.left turned
    (c.turn-turned.ensures.machine ∙ at.is) on none taken
    (counts_saturating c.args.driver.now.steps c.wake.new.driver.steps turned.steps
    (woke.steps ∙ c.saturating_add-driver.ensures))
    woke.stay
    (λ h past lt. woke.fresh h (omega (arith, past, from)) (omega (arith, lt, to)))
    woke.woken woke.others

pub returns-in-Ok-clause-within : goal.returns-in-Ok-clause-within
returns-in-Ok-clause-within g c =
    let taken = c.turn-turned.ensures.turns c.requires.given c.requires.state c.requires.shown c.requires.on in
    taken.turns.within
