-- The turn lies between two meetings, so `turns_between` applies. Without a turn nothing has changed, and `Moved` asks for nothing but that
-- it had none.
use Rattle.std.proofs.Common.{◌≡◌, ◌<◌, ◌≤◌, ◌^◌, ◌∙◌, ap, arith}
use Rattle.rgo_core.specs.Records.{steps_of}
use Rattle.rgo_table_runs.specs.Goroutine.Goroutines.{record_of_goroutine}
use Rattle.rgo_runtime.proofs.passes.Meetings.{met_by}
use Rattle.rgo_runtime.proofs.crews.Turning.{no_turn, turns_between}
use Rattle.rgo_runtime.proofs.deadlock.step_once.Goals as goal

pub returns-clause-turns : goal.returns-clause-turns
returns-clause-turns g c =
    let run = c.args.run.now in
    let a = c.args.goroutine.now in
    let b = c.meet.new.self in
    let x = c.turn-turned.new.self in
    let d = c.meet-2.new.self in
    let before = c.args.seat.now.me.0.seen in
    let between = c.meet.new.seat.me.0.seen in
    let after = c.meet-2.new.seat.me.0.seen in
    let counted = c.tally.ensures run c.requires.of in
    let same : c.behind-goroutine.inside.steps ≡ steps_of (record_of_goroutine run.setup a) = ap (λ s. s.steps) (c.behind-goroutine.view_is ∙ counted) in
    let few : steps_of (record_of_goroutine run.setup a) ≤ 2 ^ 42 = omega (arith, same, c.if-tally-gt-MOST_STEPS.false) in
    turns_between run a b x d before between after c.turn-turned.result
    (record {
      few = few;
      first = met_by run a b before between c.requires.of c.meet.ensures.of (ap (λ me. me.0.seen) c.meet.ensures.seat) c.meet.ensures.seen
          c.meet.ensures.rest c.meet.ensures.record;
      turns = c.turn-turned.ensures.turned;
      second = met_by run x d between after c.turn-turned.ensures.of c.meet-2.ensures.of (ap (λ me. me.0.seen) c.meet-2.ensures.seat)
          c.meet-2.ensures.seen c.meet-2.ensures.rest c.meet-2.ensures.record;
      behind = c.requires.behind;
      tidy = c.turn-turned.ensures.tidy;
    })
    c.by.result
    c.by.ensures

pub returns-then-tally-gt-MOST_STEPS-clause-turns : goal.returns-then-tally-gt-MOST_STEPS-clause-turns
returns-then-tally-gt-MOST_STEPS-clause-turns g c =
    let run = c.args.run.now in
    let go = c.args.goroutine.now in
    let counted = c.tally.ensures run c.requires.of in
    let same : c.behind-goroutine.inside.steps ≡ steps_of (record_of_goroutine run.setup go) = ap (λ s. s.steps) (c.behind-goroutine.view_is ∙ counted) in
    let many : 2 ^ 42 < steps_of (record_of_goroutine run.setup go) = omega (arith, same, c.if-tally-gt-MOST_STEPS.true) in
    no_turn run c.args.seat.now.me.0.seen go many c.requires.behind
