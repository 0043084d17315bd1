use Rattle.std.proofs.Common.{ℕ, Option, option_to_list, sym, subst}
use Rattle.std.proofs.lemmas.Result.{on_ok_weaker}
use Rattle.rgo_region_sets.specs.Used.{AddsNames}
use Rattle.rgo_region_sets.proofs.Naming.{none_named, one_named}
use Rattle.rgo_region_sets.proofs.used.add_written.Goals as goal

pub returns-in-Some : goal.returns-in-Some
returns-in-Some c =
    on_ok_weaker c.add_name.result (λ h. subst
    (λ (o : Option ℕ). AddsNames c.args.f.now c.args.names.now.items c.add_name.new.names.items (option_to_list o))
    (sym c.in-Some.is)
    (one_named c.args.f.now c.args.names.now.items c.add_name.new.names.items c.in-Some.variable h))
    c.add_name.ensures

pub returns-in-None : goal.returns-in-None
returns-in-None c =
    subst (λ (o : Option ℕ). AddsNames c.args.f.now c.args.names.now.items c.args.names.now.items (option_to_list o))
    (sym c.in-None.is) (none_named c.args.f.now c.args.names.now.items)
