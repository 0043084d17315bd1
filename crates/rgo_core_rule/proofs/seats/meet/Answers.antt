use Rattle.std.proofs.Common.{rules}
use Rattle.rgo_core_rule.proofs.Meetings.{joins, joins_informed}
use Rattle.rgo_core_rule.proofs.seats.meet.Goals as goal

pub join_seat-requires : goal.join_seat-requires
join_seat-requires g c =
    let key = c.args.table.now.shared.key in
    (search rules, search rules, search rules, c.requires.own.2, joins_informed g.X.Explanation.accesses (g.X.Explanation.explains key) (g.X.Explanation.opening key) c.args.other.now.id c.args.other.now.me.0 c.note-word.result.id c.note-word.result.me.0)

pub join_seat-requires-2 : goal.join_seat-requires-2
join_seat-requires-2 g c =
    let key = c.args.table.now.shared.key in
    (search rules, search rules, search rules, c.requires.own.2, joins g.X.Explanation.accesses (g.X.Explanation.explains key) (g.X.Explanation.opening key) c.note-word.new.seat.id c.note-word.new.seat.me.0 c.note-answer.result.id c.note-answer.result.me.0)
