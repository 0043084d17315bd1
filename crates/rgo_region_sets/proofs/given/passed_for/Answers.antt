use Rattle.std.proofs.Common.{◌↔◌, ◌∙◌, ℕ, List, [], sym, subst, arith}
use Rattle.std.specs.List.{Contains}
use Rattle.rgo_region_sets.specs.Asked.{IsNamePassedFor}
use Rattle.rgo_region_sets.proofs.Members.{for_none, for_more, for_same, for_all, set_with}
use Rattle.rgo_region_sets.proofs.given.passed_for.Goals as goal
use Rattle.rgo_region_sets.proofs.given.passed_for.Goals.{in-Some+in_ok-push_if, in_default}

pub loop-at-init : goal.loop-at-init
loop-at-init c =
    subst (λ (l : List ℕ). (k : ℕ) → Contains l k ↔ IsNamePassedFor c.args.regions.now c.args.result_class [] k)
    (sym c.new-names.ensures.items) (for_none c.args.regions.now c.args.result_class)

pub loop-at-preserved : goal.loop-at-preserved
loop-at-preserved c =
    let regions = c.args.regions.now in
    let class = c.args.result_class in
    let at = c.loop-at.at in
    elim c.match-name_of.branch [
      | in-Some+in_ok-push_if w ↦ rw w.names-is (for_more regions class c.args.passes.now at _ c.loop-at-test.true
          c.loop-at.names.items c.loop-at.invariant w.push_if.new.names.items w.is_at-lent.result w.in-Some.name
          (sym c.name_of.ensures ∙ w.in-Some.is) w.is_at-lent.ensures w.in_ok-push_if.ensures)
      | in_default w ↦ rw w.names-is (for_same regions class c.args.passes.now at _ c.loop-at-test.true
          c.loop-at.names.items c.loop-at.invariant (sym c.name_of.ensures ∙ w.in_default.is))
    ]

pub returns : goal.returns
returns c =
    let all = for_all c.args.regions.now c.args.result_class c.args.passes.now c.loop-at.at c.loop-at.names.items
    (omega (arith, c.loop-at-test.false)) c.loop-at.invariant in
    set_with c.set_of.result.items (Contains c.loop-at.names.items)
    (IsNamePassedFor c.args.regions.now c.args.result_class c.args.passes.now) c.set_of.ensures all
