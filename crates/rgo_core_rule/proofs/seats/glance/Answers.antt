use Rattle.rgo_core_rule.proofs.Lift.{lifts_glance}
use Rattle.rgo_core_rule.proofs.seats.glance.Goals as goal

pub load-requires : goal.load-requires
load-requires g c =
    let key = c.args.table.now.shared.key in
    (c.requires.own.0, c.requires.own.1, lifts_glance g.X.Explanation.accesses (g.X.Explanation.explains key) (g.X.Explanation.opening key) _ _ c.args.seat.now.me)
