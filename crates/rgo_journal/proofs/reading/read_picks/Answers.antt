use Rattle.std.proofs.Common.{inr, sym, ◌+◌, arith}
use Rattle.rgo_journal.specs.Reading.{read_pick}
use Rattle.rgo_journal.proofs.Walking.{ends, goes_on, none_after, none_seen, shorter, stops}
use Rattle.rgo_journal.proofs.reading.read_picks.Goals as goal

pub returns-in-Some-after : goal.returns-in-Some-after
returns-in-Some-after c =
    rw c.new.ensures (ends c.args.bytes.now c.lines.picks.items c.lines.rest.now c.in-Some-after.text.now c.lines.invariant
    (sym c.in-Some-after.ensures))

pub lines-smaller : goal.lines-smaller
lines-smaller c =
    shorter c.lines.rest.now c.in-Some-read_pick.pick c.in-Some-read_pick.next.now (sym c.in-Some-read_pick.ensures)

pub lines-preserved : goal.lines-preserved
lines-preserved c =
    goes_on c.args.bytes.now c.lines.picks.items c.push.new.self.items c.lines.rest.now c.in-Some-read_pick.pick
    c.in-Some-read_pick.next.now c.lines.invariant (sym c.in-Some-read_pick.ensures)
    c.in_ok-push-in-Some-read_pick.ensures.items

pub returns-in-None : goal.returns-in-None
returns-in-None c = inr
    (stops c.args.bytes.now c.lines.picks.items c.lines.rest.now (c.len.result + 2) c.lines.invariant
    (none_after c.after-in-lines.result _ c.after-in-lines.ensures c.in_default-after.not-Some)
    (none_seen c.read_pick.result (read_pick c.lines.rest.now) c.read_pick.ensures c.in-None.is) (omega (arith, c.len.ensures, c.lines.picks.ok)))
