use Rattle.std.proofs.Common.{◌≤◌, ◌<◌, ◌∙◌, ⊎_elim, inl, inr, List, length, nat_eq, ap, subst, arith, Contains}
use Rattle.std.proofs.lemmas.Bool.{cases_lt}
use Rattle.std.proofs.lemmas.List.{length-map}
use Rattle.std.specs.Bool.{Decides}
use Rattle.std.specs.HashSet.{contains}
use Rattle.rgo_typed.specs.declared.types.Type.{«Type»}
use Rattle.rgo_tac.specs.declared.regions.Class.TheVariants.{Name}
use Rattle.rgo_checker.proofs.decides.RegionLaws.{names_more, parameters_all, no_parameters}
use Rattle.rgo_checker.proofs.regions.parameter_names.Goals as goal

pub loop-v-init : goal.loop-v-init
loop-v-init c = no_parameters c.new-names.result c.new-names.ensures.empty

pub loop-v-preserved : goal.loop-v-preserved
loop-v-preserved c =
    let f = c.args.f.now in
    let long = ap (λ (tys : List «Type»). length tys)
    (c.variables-types.ensures ∙ ap (λ x. x.variables) c.tac-function.ensures) ∙ length-map f.variables (λ s. s.ty) in
    names_more f.variables (λ k. contains nat_eq c.loop-v.names k) (λ k. contains nat_eq c.add_name.new.names k)
    c.loop-v.v c.class_at.result c.loop-v.invariant (omega (arith, long, c.min-count.ensures)) c.class_at.ensures
    c.in_ok-add_name.ensures

pub returns : goal.returns
returns c = λ k.
    let f = c.args.f.now in
    let long = ap (λ (tys : List «Type»). length tys)
    (c.variables-types.ensures ∙ ap (λ x. x.variables) c.tac-function.ensures) ∙ length-map f.variables (λ s. s.ty) in
    let params = c.params-params.ensures ∙ ap (λ x. x.params) c.tac-function.ensures in
    subst (λ cs. Decides (contains nat_eq c.loop-v.names k) (Contains cs (Name k)))
    (parameters_all f.params c.loop-v.v f.variables
    (⊎_elim
    (λ (l : f.params < length f.variables). inl (omega (arith, l, long, params, c.min-count.ensures)))
    (λ (g : length f.variables ≤ f.params). inr
    (omega (arith, g, long, params, c.min-count.ensures), omega (arith, g, long, params, c.min-count.ensures)))
    (cases_lt f.params (length f.variables))))
    (c.loop-v.invariant k)
