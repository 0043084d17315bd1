use Rattle.std.proofs.Common.{List, ℕ, sym, subst, ap, ◌∙◌}
use Rattle.rgo_region_sets.specs.Used.{AddsName, name_of}
use Rattle.rgo_region_sets.proofs.Naming.{adds_name, adds_no_name}
use Rattle.rgo_region_sets.proofs.used.add_name.Goals as goal

pub returns-in_ok-push : goal.returns-in_ok-push
returns-in_ok-push c =
    subst (λ (l : List ℕ). AddsName c.args.f.now c.args.names.now.items l c.args.variable)
    (sym c.in_ok-push.ensures.items)
    (adds_name c.args.f.now c.args.names.now.items c.args.variable c.in-Some.name
    (ap name_of (sym c.class_of.ensures) ∙ sym c.in-Some.ensures))

pub returns-in_default : goal.returns-in_default
returns-in_default c =
    adds_no_name c.args.f.now c.args.names.now.items c.args.variable
    (ap name_of (sym c.class_of.ensures) ∙ sym c.in_default.ensures)
