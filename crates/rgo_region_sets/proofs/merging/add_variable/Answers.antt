use Rattle.std.proofs.Common.{◌↔◌, ℕ, List, sym, subst, ap, ◌∙◌}
use Rattle.rgo_flow.specs.declared.ranges.Range.{Range}
use Rattle.rgo_flow.specs.Ranges.{IsCovered}
use Rattle.rgo_flow.specs.Table.{IsLive}
use Rattle.rgo_region_sets.specs.Used.{name_of}
use Rattle.rgo_region_sets.proofs.Variables.{variable_added, variable_skipped}
use Rattle.rgo_region_sets.proofs.merging.add_variable.Goals as goal

pub returns-in_ok-add_ranges : goal.returns-in_ok-add_ranges
returns-in_ok-add_ranges c =
    let live = subst
    (λ (l : List Range). (at : ℕ) → IsCovered l at ↔ IsLive c.args.liveness.now c.args.variable at)
    (sym c.deref.ensures.value) c.in_ok-ranges.ensures in
    variable_added c.args.f.now c.args.liveness.now c.args.variable c.args.spans.now.items c.add_ranges.new.spans.items
    c.in-Some.name c.deref.result.now (ap name_of (sym c.class_of.ensures) ∙ sym c.in-Some.ensures) live
    c.in_ok-add_ranges.ensures

pub returns-in_default : goal.returns-in_default
returns-in_default c =
    variable_skipped c.args.f.now c.args.liveness.now c.args.variable c.args.spans.now.items
    (ap name_of (sym c.class_of.ensures) ∙ sym c.in_default.ensures)
