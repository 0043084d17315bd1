use Rattle.std.proofs.Common.{◌≡◌, ◌++◌, ◌∷◌, ◌∙◌, List, [], length, ap, sym, arith}
use Rattle.std.proofs.lemmas.List.{length-map}
use Rattle.rgo_tac.specs.Code.{TacFn}
use Rattle.rgo_tac.specs.declared.regions.Class.{Class}
use Rattle.rgo_code.specs.Code.{CodeFn}
use Rattle.rgo_code.specs.Erasure.{erased_fn}
use Rattle.rgo_code.specs.Names.{parameter_classes}
use Rattle.rgo_region_sets.proofs.Members.{classes_more, classes_all}
use Rattle.rgo_region_sets.proofs.regions.parameter_classes.Goals as goal

-- as many types as variables
as_many : (f : CodeFn) (t : TacFn) → t ≡ erased_fn f → length t.variables ≡ length f.variables
as_many f t is = ap (λ (u : TacFn). length u.variables) is ∙ length-map f.variables (λ s. s.ty)

pub loop-variable-preserved : goal.loop-variable-preserved
loop-variable-preserved c =
    let f = c.args.f.now in
    let v = c.loop-variable.variable in
    let many = c.variable_count.ensures.count ∙ as_many f c.tac-2.result.now c.tac-2.ensures in
    let more = classes_more v f.variables (omega (arith, many, c.min-count.ensures)) in
    c.in_ok-push.ensures.items ∙ ap (λ (l : List Class). l ++ c.class_of.result ∷ []) c.loop-variable.invariant
    ∙ ap (λ class. parameter_classes v f.variables ++ class ∷ []) c.class_of.ensures ∙ sym more

pub returns : goal.returns
returns c =
    let f = c.args.f.now in
    let many = c.variable_count.ensures.count ∙ as_many f c.tac-2.result.now c.tac-2.ensures in
    let params = c.params.ensures ∙ ap (λ (t : TacFn). t.params) c.tac.ensures in
    c.loop-variable.invariant
    ∙ classes_all f.params c.loop-variable.variable f.variables (omega (arith, many, params, c.min-count.ensures))
