use Rattle.std.proofs.Common.{◌≡◌, ◌<◌, ◌↔◌, ◌∙◌, ℕ, List, sym, subst, ap, length, arith}
use Rattle.std.proofs.lemmas.List.{length-map}
use Rattle.rgo_flow.specs.Live.{Live}
use Rattle.rgo_flow.specs.Table.{IsLive}
use Rattle.rgo_tac.specs.Code.{TacFn}
use Rattle.rgo_code.specs.Code.{Slot}
use Rattle.rgo_region_sets.specs.declared.spans.Span.{Span}
use Rattle.rgo_region_sets.specs.Spans.{IsSpanned, IsNamed}
use Rattle.rgo_region_sets.proofs.Variables.{no_variables, variables_more, all_variables}
use Rattle.rgo_region_sets.proofs.merging.all_spans.Goals as goal

pub loop-variable-init : goal.loop-variable-init
loop-variable-init c =
    subst (λ (l : List Span). (k at : ℕ) → IsSpanned l k at
    ↔ ((v : ℕ) × (v < 0) × IsNamed c.args.f.now c.in_ok-liveness.liveness v k at))
    (sym c.new-spans.ensures.items) (no_variables c.args.f.now c.in_ok-liveness.liveness)

pub loop-variable-preserved : goal.loop-variable-preserved
loop-variable-preserved c =
    variables_more c.args.f.now c.in_ok-liveness.liveness c.loop-variable.spans.items c.add_variable.new.spans.items
    c.loop-variable.variable c.loop-variable.invariant c.in_ok-add_variable.ensures

pub returns : goal.returns
returns c =
    let live = subst (λ (t : TacFn). (v at : ℕ) → IsLive c.in_ok-liveness.liveness v at ↔ Live t v at)
    c.tac.ensures c.in_ok-liveness.ensures in
    let long : c.variable_count-variable-end.result ≡ length c.args.f.now.variables =
    c.variable_count-variable-end.ensures.count ∙ ap (λ (t : TacFn). length t.variables) c.tac-2.ensures
    ∙ length-map c.args.f.now.variables (λ (s : Slot). s.ty) in
    all_variables c.args.f.now c.in_ok-liveness.liveness c.loop-variable.spans.items c.loop-variable.variable
    (omega (arith, long, c.loop-variable-test.false)) live c.loop-variable.invariant
