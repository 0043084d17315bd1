use Rattle.std.proofs.Common.{◌↔◌, ◌<◌, ℕ, List, sym, subst, arith}
use Rattle.std.specs.List.{Contains}
use Rattle.rgo_region_sets.specs.Dying.{Dies}
use Rattle.rgo_region_sets.proofs.Tables.{none_before, one_branch, all_branches}
use Rattle.rgo_region_sets.proofs.dying.ends_of.Goals as goal

pub loop-b-init : goal.loop-b-init
loop-b-init c =
    subst (λ (l : List ℕ). (j : ℕ) → Contains l j ↔ ((j < c.branches_in-first.result.0)
    × Dies c.args.spans.now c.args.points.now c.args.targets.now c.args.span j)) (sym c.new-ends.ensures.items)
    (none_before c.args.spans.now c.args.points.now c.args.targets.now c.args.span c.branches_in-first.result.0
    c.branches_in-first.result.1 c.branches_in-first.ensures)

pub loop-b-preserved : goal.loop-b-preserved
loop-b-preserved c =
    one_branch c.args.spans.now c.args.points.now c.args.targets.now c.args.span c.branches_in-first.result.0
    c.branches_in-first.result.1 c.branches_in-first.ensures c.loop-b.ends.items c.push_if.new.names.items c.loop-b.b
    c.is_spanned-dies.result c.loop-b.auto.b c.loop-b-test.true
    (omega (arith, c.loop-b-test.true, c.branches_in-first.ensures.bound)) c.loop-b.invariant c.is_spanned-dies.ensures
    c.in_ok-push_if.ensures

pub returns : goal.returns
returns c =
    all_branches c.args.spans.now c.args.points.now c.args.targets.now c.args.span c.branches_in-first.result.0
    c.branches_in-first.result.1 c.branches_in-first.ensures c.loop-b.ends.items c.loop-b.b c.loop-b-test.false
    c.loop-b.invariant
