use Rattle.std.proofs.Common.{◌≡◌, map, take}
use Rattle.rgo_code.specs.Names.{class_of}
use Rattle.rgo_insert.proofs.passing.actual_classes.Given as goal

abbrev pub invariant-loop-variable : goal.invariant-loop-variable
invariant-loop-variable l = l.classes.items ≡ map (class_of l.f) (take l.variable-index l.from)
