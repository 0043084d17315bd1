use Rattle.std.proofs.Common.{false, arith, subst, sym, ◌∙◌}
use Rattle.rgo_round_robin.specs.Taking.{WaitsTo}
use Rattle.rgo_round_robin.proofs.Keepers.{sleeps_forever}
use Rattle.rgo_round_robin.specs.Points.{listed_at_channel}
use Rattle.rgo_round_robin.proofs.Taken.{advances_still, advances_asleep, advances_by, stops_within}
use Rattle.rgo_round_robin.proofs.turns.rest.Goals as goal

pub returns-in_default-clause-went : goal.returns-in_default-clause-went
returns-in_default-clause-went g c = λ machine given s at on still.
    let d = c.args.driver.now in
    advances_still (g.R.Running.view c.args.run.now) machine c.args.limits c.args.g given s d c.args.left at on
    (sleeps_forever machine c.args.limits c.args.g s (listed_at_channel d.waiting) still
    (sym (c.channel_of.ensures machine given s at) ∙ c.in_default.is))

pub returns-in-Ok-true-clause-went : goal.returns-in-Ok-true-clause-went
returns-in-Ok-true-clause-went g c = λ machine given s at on still.
    let run = g.R.Running.view c.wait.new.run in
    let waits = c.in-Ok-true.ensures.waits machine given s at on still
    (sym (c.channel_of.ensures machine given s at) ∙ c.in-Some.is) in
    advances_by run machine c.args.limits c.args.g given s c.args.driver.now c.wait.new.driver c.args.left 1
    (omega (arith, c.if-left-eq0.false))
    (subst (WaitsTo run machine c.args.limits c.args.g given s c.args.driver.now c.wait.new.driver)
    c.in-Ok-true.field-0-test waits)

pub returns-in-Ok-false-clause-went : goal.returns-in-Ok-false-clause-went
returns-in-Ok-false-clause-went g c = λ machine given s at on still.
    let run = g.R.Running.view c.wait.new.run in
    let waits = c.in-Ok-false.ensures.waits machine given s at on still
    (sym (c.channel_of.ensures machine given s at) ∙ c.in-Some.is) in
    let sleeps : WaitsTo run machine c.args.limits c.args.g given s c.args.driver.now c.wait.new.driver false =
    subst (WaitsTo run machine c.args.limits c.args.g given s c.args.driver.now c.wait.new.driver)
    c.in-Ok-false.field-0-test waits in
    advances_asleep run machine c.args.limits c.args.g given s c.args.driver.now c.wait.new.driver c.args.left 0
    (omega arith) sleeps.0 sleeps.1

pub returns-in-Err-clause-went : goal.returns-in-Err-clause-went
returns-in-Err-clause-went g c = λ machine given s at on still.
    stops_within (g.R.Running.view c.wait.new.run) machine c.args.limits c.args.g given s 1 c.args.left c.in-Err.end
    (omega (arith, c.if-left-eq0.false))
    (c.in-Err.ensures.waits machine given s at on still
    (sym (c.channel_of.ensures machine given s at) ∙ c.in-Some.is))
