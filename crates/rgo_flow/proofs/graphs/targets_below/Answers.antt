use Rattle.std.proofs.Common.{ℕ, List, subst}
use Rattle.std.proofs.lemmas.List.{take_all}
use Rattle.rgo_flow.specs.Graphs.{HasTargets}
use Rattle.rgo_flow.proofs.Targets.{more_targets}
use Rattle.rgo_flow.proofs.graphs.targets_below.Goals as goal

pub loop-target-preserved : goal.loop-target-preserved
loop-target-preserved c = more_targets c.loop-target.row.items c.add_target.new.row.items c.args.targets.now
    c.loop-target.target-index c.args.count c.loop-target-test.true c.loop-target.invariant c.in_ok-add_target.ensures

pub returns : goal.returns
returns c = subst (λ (l : List ℕ). HasTargets c.loop-target.row.items l c.args.count)
    (take_all c.loop-target.target-index c.args.targets.now c.loop-target-test.false) c.loop-target.invariant
