use Rattle.std.proofs.Common.{◌∙◌, sym, ap, refl}
use Rattle.rgo_region_sets.specs.Used.{name_of}
use Rattle.rgo_region_sets.proofs.Naming.{own_named, own_other}
use Rattle.rgo_region_sets.proofs.names.is_own.Goals as goal

pub returns-in-Some : goal.returns-in-Some
returns-in-Some c =
    own_named _ c.in-Some.k c.args.name _ (ap name_of (sym c.result_class.ensures) ∙ sym c.in-Some.ensures) refl

pub returns-in-None : goal.returns-in-None
returns-in-None c =
    own_other _ c.args.name (ap name_of (sym c.result_class.ensures) ∙ sym c.in-None.ensures)
