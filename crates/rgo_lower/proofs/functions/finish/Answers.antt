use Rattle.std.proofs.Common.{◌≡◌, map, ap, ◌∙◌}
use Rattle.std.proofs.lemmas.Result.{IfOk-weaker}
use Rattle.rgo_typed.specs.Views.{typed_function_of}
use Rattle.rgo_lower.specs.declared.builder.Line.{Line}
use Rattle.rgo_lower.specs.Emitted.{made_of, leads_by, resolved_instr}
use Rattle.rgo_lower.proofs.Finished.{function_is}
use Rattle.rgo_lower.proofs.functions.finish.Goals as goal

pub returns : goal.returns
returns c =
    let b = c.args.b in
    let lines : c.deref.result.now ≡ b.lines.items = c.deref.ensures.value in
    let labels : c.deref-2.result.now ≡ b.labels.items = c.deref-2.ensures.value in
    let same : c.deref-3.result.now ≡ b.lines.items = c.deref-3.ensures.value in
    let instrs =
    c.in_ok-instrs.ensures
    ∙ (λ i. map (λ (x : Line). resolved_instr (leads_by (labels i)) x.instr) (lines i)) in
    let places = c.in_ok-places.ensures ∙ ap (map (λ (x : Line). x.place)) same in
    IfOk-weaker c.made.result _ _
    (λ f h. function_is (typed_function_of c.args.function.now) (made_of b) f c.in_ok-name.name
    c.in_ok-result_type.result_type c.new-3.result c.in_ok-instrs.instrs c.in_ok-places.places c.new.result
    c.new-2.result
    h c.in_ok-name.ensures c.in_ok-result_type.ensures c.new-3.ensures instrs places c.new.ensures c.new-2.ensures)
    c.made.ensures
