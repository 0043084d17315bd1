use Rattle.std.proofs.Common.{◌≡◌, ap, sym, subst, ◌∙◌}
use Rattle.rgo_region_interpreter.specs.Calls.{bound_first}
use Rattle.rgo_region_interpreter.specs.Holders.{bound_in}
use Rattle.rgo_region_interpreter.proofs.passing.Lists.{first_kept, first_new, first_none, on_ok}
use Rattle.rgo_region_interpreter.proofs.calls.bind_first.Goals as goal

pub returns-in_default : goal.returns-in_default
returns-in_default c = λ k. first_none c.args.names.now.items c.args.name c.args.passed k c.in_default.not-Some

pub returns-in-Some-region_of : goal.returns-in-Some-region_of
returns-in-Some-region_of c = λ k.
    first_kept c.args.names.now.items c.args.name c.args.passed c.in-Some-region_of.field-0 k
    (ap (λ v. bound_in v c.args.name) (sym c.deref.ensures.value) ∙ sym c.region_of.ensures ∙ c.in-Some-region_of.is)

pub returns-in-None : goal.returns-in-None
returns-in-None c =
    let names = c.args.names.now.items in
    let after = c.bind.new.names.items in
    on_ok c.bind.result _ _
    (λ h k. subst (λ p. bound_in after k ≡ bound_first names c.args.name p k) (sym c.in-Some.is)
    (first_new names after c.args.name c.in-Some.region k
    (ap (λ v. bound_in v c.args.name) (sym c.deref.ensures.value) ∙ sym c.region_of.ensures ∙ c.in-None.is) (h k)))
    c.bind.ensures.binds
