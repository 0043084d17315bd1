use Rattle.std.proofs.Common.{◌-◌, arith, refl}
use Rattle.rgo_goroutine.proofs.Concluding.{counted, talk_done, talk_ends, talk_lost, talk_offered, talk_trap, talk_waits}
use Rattle.rgo_goroutine.proofs.goroutine.Goroutine.after_talk.Goals as goal

pub trap-requires-clause-traps : goal.trap-requires-clause-traps
trap-requires-clause-traps c =
    (talk_trap c.args.run.now c.requires.talked.0 c.args.self.now c.args.turning.now c.args.turning.now c.args.done c.args.talked
    c.requires.talked.1 c.in-Trap.trap c.in-Trap.is).1

pub returns-in-Done : goal.returns-in-Done
returns-in-Done c first has =
    let t = c.args.turning.now in
    let u = c.note.new.self in
    let few = has.few in
    let some = has.some in
    let less = counted t c.count.new.self c.args.done (omega (arith, few, some)) c.count.ensures in
    let a = less.changed in
    let b = c.note.ensures.count in
    let d = c.note.ensures.less in
    talk_done c.args.run.now first c.args.self.now t u c.args.done c.args.talked has c.in-Done.at
    (u.changed.count - t.changed.count) c.in-Done.is
    (record {
      left = (let l = less.left in let s = c.note.ensures.same.0 in omega (arith, l, s));
      changed = omega (arith, a, b.0);
      moved = c.note.ensures.same.1;
    })
    (omega (arith, a, b.0, d)) (omega (arith, a, b.1))

pub returns-in-Offered : goal.returns-in-Offered
returns-in-Offered c first has =
    talk_offered c.args.run.now first c.args.self.now c.args.turning.now c.note-in-Offered.new.self c.args.done c.args.talked has
    c.in-Offered.at c.in-Offered.is
    (record {
      left = (let b = c.note-in-Offered.ensures.same.0 in omega (arith, b));
      changed = (let b = c.note-in-Offered.ensures.count.1 in let d = c.note-in-Offered.ensures.less in omega (arith, b, d));
      moved = c.note-in-Offered.ensures.same.1;
    })

pub returns-in-Waits : goal.returns-in-Waits
returns-in-Waits c first has =
    talk_waits c.args.run.now first c.args.self.now c.args.turning.now c.args.turning.now c.args.done c.args.talked has c.in-Waits.at
    c.args.operation c.in-Waits.is refl

pub returns-in-Lost : goal.returns-in-Lost
returns-in-Lost c first has =
    talk_lost c.args.run.now first c.args.self.now c.args.turning.now c.args.turning.now c.args.done c.args.talked has c.in-Lost.at
    c.in-Lost.is refl

pub returns-in-Trap : goal.returns-in-Trap
returns-in-Trap c first has =
    talk_ends c.args.run.now first c.args.self.now c.args.turning.now c.count-in-Trap.new.self c.args.done c.args.talked has c.in-Trap.trap
    c.trap.new.self c.trap.result c.in-Trap.is c.trap.ensures
    (counted c.args.turning.now c.count-in-Trap.new.self 1 has.some c.count-in-Trap.ensures)
