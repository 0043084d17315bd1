use Rattle.rgo_graphs.proofs.Marking.{visits_new}
use Rattle.rgo_graphs.specs.Visits.{Visits}
use Rattle.std.proofs.Common.{List, ℕ, subst, sym, set, ◌∷◌, []}
use Rattle.rgo_graphs.proofs.reach.visit.Goals as goal

pub returns-in_ok-push-clause-visits : goal.returns-in_ok-push-clause-visits
returns-in_ok-push-clause-visits c =
    subst (λ (f : List ℕ). Visits c.args.stamp c.args.found.now.items c.args.marks.now f
    (set c.args.marks.now c.args.p c.args.stamp) (c.args.p ∷ [])) (sym c.in_ok-push.ensures.items)
    (visits_new c.args.stamp c.args.found.now.items c.args.marks.now c.args.p c.requires.inside c.if-marks-p.true)
