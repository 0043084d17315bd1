use Rattle.rgo_round_robin.proofs.Given.{writes_whole}
use Rattle.rgo_round_robin.proofs.Rounded.{finishes, spent}
use Rattle.rgo_round_robin.proofs.rounds.round_and_test.Goals as goal

pub returns-in-Err-clause-plays : goal.returns-in-Err-clause-plays
returns-in-Err-clause-plays g c = λ machine given s at between.
    finishes machine c.args.limits (g.R.Running.view c.whole_round.new.run) given s c.args.driver.now.steps c.in-Err.end
    (g.K.Sink.contents c.args.out.now) (g.K.Sink.contents c.whole_round.new.out)
    (c.in-Err.ensures.plays machine given s at between)

pub returns-then-driver-limits-clause-plays : goal.returns-then-driver-limits-clause-plays
returns-then-driver-limits-clause-plays g c = λ machine given s at between.
    let after = c.whole_round.new.run in
    spent machine c.args.limits (g.R.Running.view after) given s c.args.driver.now c.whole_round.new.driver
    (g.K.Sink.contents c.args.out.now) (g.K.Sink.contents c.whole_round.new.out)
    (record { prints = g.met.R.Running.shown_prints after; leaves = g.met.R.Running.shown_leaves after })
    (c.in-Ok.ensures.plays machine given s at between) c.if-driver-limits.true

pub returns-then-driver-limits-clause-sink : goal.returns-then-driver-limits-clause-sink
returns-then-driver-limits-clause-sink g c = writes_whole _ _ _ _ _ _ _ (λ e. cc) (λ e. cc) c.in-Ok.ensures.sink
