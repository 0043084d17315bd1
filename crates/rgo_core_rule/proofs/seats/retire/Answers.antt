use Rattle.rgo_core_rule.proofs.Meetings.{joins}
use Rattle.rgo_core_rule.proofs.seats.retire.Goals as goal

pub join_seat-requires : goal.join_seat-requires
join_seat-requires g c =
    let key = c.args.table.now.shared.key in
    (c.requires.own.0, c.requires.own.1, c.requires.empty, c.requires.own.2, joins g.X.Explanation.accesses (g.X.Explanation.explains key) (g.X.Explanation.opening key) c.args.seat.now.id c.args.seat.now.me.0 c.args.other.id c.args.other.me.0)
