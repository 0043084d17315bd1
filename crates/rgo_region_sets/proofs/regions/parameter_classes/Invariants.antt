use Rattle.std.proofs.Common.{◌≡◌}
use Rattle.rgo_code.specs.Names.{parameter_classes}
use Rattle.rgo_region_sets.proofs.regions.parameter_classes.Given as goal

abbrev pub invariant-loop-variable : goal.invariant-loop-variable
invariant-loop-variable l =
    l.classes.items ≡ parameter_classes l.variable l.f.variables
