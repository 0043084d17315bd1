use Rattle.std.proofs.Common.{sym, subst}
use Rattle.std.specs.Result.{IfOk}
use Rattle.rgo_tac.specs.Flow.{targets_of}
use Rattle.rgo_flow.specs.Graphs.{HasTargets}
use Rattle.rgo_flow.proofs.graphs.target_row.Goals as goal

pub returns-in-Nowhere : goal.returns-in-Nowhere
returns-in-Nowhere c = subst (λ t. IfOk c.targets_below.result
    (λ row. HasTargets row.items (targets_of t) c.args.count))
    (sym c.in-Nowhere.is) c.targets_below.ensures

pub returns-in-One : goal.returns-in-One
returns-in-One c =
    subst (λ t. IfOk c.targets_below-in-One.result (λ row. HasTargets row.items (targets_of t) c.args.count))
    (sym c.in-One.is) c.targets_below-in-One.ensures

pub returns-in-Either : goal.returns-in-Either
returns-in-Either c =
    subst (λ t. IfOk c.targets_below-in-Either.result (λ row. HasTargets row.items (targets_of t) c.args.count))
    (sym c.in-Either.is) c.targets_below-in-Either.ensures
