use Rattle.rgo_core_rule.proofs.Meetings.{splits_empty}
use Rattle.rgo_core_rule.proofs.seats.note.Goals as goal

pub cut_as-requires-clause-rule : goal.cut_as-requires-clause-rule
cut_as-requires-clause-rule g c =
    let key = c.args.table.now.shared.key in
    splits_empty g.X.Explanation.accesses (g.X.Explanation.explains key) (g.X.Explanation.opening key) c.args.seat.now.id c.args.seat.now.me.0
