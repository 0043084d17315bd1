use Rattle.std.proofs.Common.{◌++◌, arith}
use Rattle.rgo_round_robin.specs.Points.{point_of}
use Rattle.rgo_round_robin.proofs.Given.{writes_whole}
use Rattle.rgo_round_robin.proofs.Left.{itself}
use Rattle.rgo_round_robin.proofs.Played.{meets_no_fault}
use Rattle.rgo_round_robin.proofs.Rounded.{plays_round, met_or_ends, met_counts}
use Rattle.rgo_round_robin.proofs.rounds.whole_round.Goals as goal

pub returns-then-driver-before-clause-plays : goal.returns-then-driver-before-clause-plays
returns-then-driver-before-clause-plays g c = λ machine given s at between.
    let d = c.args.driver.now in
    let all = c.in-Ok.ensures.plays machine given s at between.ready in
    record {
      state = all.state;
      bytes = all.bytes;
      at = all.at;
      ready = all.ready;
      plays = plays_round machine c.args.limits (point_of s d) (point_of all.state c.round.new.driver) d.ready.items
          all.bytes
          (g.K.Sink.contents c.args.out.now) (g.K.Sink.contents c.round.new.out) between.watches (λ g m. m) all.plays;
      watches = all.watches between.watches;
    }

pub meet_any-requires : goal.meet_any-requires
meet_any-requires g c =
    let run = g.R.Running.view c.args.run.now in
    let given = c.requires.given in
    let start = c.requires.state in
    let all = c.in-Ok.ensures.plays run.machine given start (itself run given start c.requires.shown)
    c.requires.between.ready in
    record { given = given ++ all.bytes; state = all.state; shown = all.at.shown; running = all.ready.on.running }

pub returns-clause-plays : goal.returns-clause-plays
returns-clause-plays g c = λ machine given s at between.
    let after = c.meet_any.new.run in
    let all = c.in-Ok.ensures.plays machine given s at between.ready in
    met_or_ends machine c.args.limits (g.R.Running.view c.round.new.run) (g.R.Running.view after) given s
    c.args.driver.now c.round.new.driver c.meet_any.new.driver c.meet_any.result (g.K.Sink.contents c.args.out.now)
    (g.K.Sink.contents c.round.new.out)
    (record { prints = g.met.R.Running.shown_prints after; leaves = g.met.R.Running.shown_leaves after })
    between all (omega (arith, c.if-driver-before.false))
    (c.meet_any.ensures.meets machine (given ++ all.bytes) all.state all.at all.ready.on.running)

pub returns-clause-on : goal.returns-clause-on
returns-clause-on g c =
    let run = g.R.Running.view c.args.run.now in
    let given = c.requires.given in
    let start = c.requires.state in
    let all = c.in-Ok.ensures.plays run.machine given start (itself run given start c.requires.shown)
    c.requires.between.ready in
    met_counts run.machine c.args.limits (g.R.Running.view c.round.new.run) (g.R.Running.view c.meet_any.new.run) given
    start c.args.driver.now c.round.new.driver c.meet_any.new.driver c.meet_any.result
    (g.K.Sink.contents c.args.out.now) (g.K.Sink.contents c.round.new.out) c.requires.between.counting all
    (omega (arith, c.if-driver-before.false))
    (c.meet_any.ensures.meets run.machine (given ++ all.bytes) all.state all.at all.ready.on.running)

pub returns-clause-sink : goal.returns-clause-sink
returns-clause-sink g c =
    let run = g.R.Running.view c.args.run.now in
    let given = c.requires.given in
    let start = c.requires.state in
    let all = c.in-Ok.ensures.plays run.machine given start (itself run given start c.requires.shown)
    c.requires.between.ready in
    writes_whole _ _ _ _ _ _ _ (λ e. cc)
    (meets_no_fault (g.R.Running.view c.meet_any.new.run) run.machine (given ++ all.bytes) all.state c.round.new.driver
    c.meet_any.new.driver c.meet_any.result
    (c.meet_any.ensures.meets run.machine (given ++ all.bytes) all.state all.at all.ready.on.running))
    c.in-Ok.ensures.sink
