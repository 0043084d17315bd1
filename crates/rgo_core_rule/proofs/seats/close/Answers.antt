use Rattle.rgo_core_rule.proofs.Meetings.{closes}
use Rattle.rgo_core_rule.proofs.seats.close.Goals as goal

pub returns-clause-end : goal.returns-clause-end
returns-clause-end g c =
    let key = c.args.table.shared.key in
    closes g.X.Explanation.accesses (g.X.Explanation.explains key) (g.X.Explanation.opening key) c.args.seat.id c.args.seat.me.0 _ _ c.close_with.ensures.values.2
