use Rattle.std.proofs.Common.{ap}
use Rattle.rgo_runtime.proofs.passes.Meetings.{looks_between, met_by}
use Rattle.rgo_runtime.proofs.deadlock.look_once.Goals as goal

pub returns-clause-looks : goal.returns-clause-looks
returns-clause-looks c =
    let run = c.args.run.now in
    let a = c.args.goroutine.now in
    let b = c.meet.new.self in
    let x = c.look.new.self in
    let d = c.meet-2.new.self in
    let before = c.args.seat.now.me.0.seen in
    let between = c.meet.new.seat.me.0.seen in
    let after = c.meet-2.new.seat.me.0.seen in
    looks_between run a b x d before between after c.look.result
    (met_by run a b before between c.requires.of c.meet.ensures.of (ap (λ me. me.0.seen) c.meet.ensures.seat) c.meet.ensures.seen
    c.meet.ensures.rest c.meet.ensures.record)
    c.look.ensures.looks
    (met_by run x d between after c.look.ensures.of c.meet-2.ensures.of (ap (λ me. me.0.seen) c.meet-2.ensures.seat) c.meet-2.ensures.seen
    c.meet-2.ensures.rest c.meet-2.ensures.record)
    c.requires.behind
