use Rattle.std.proofs.Common.{◌≡◌, map, drop}
use Rattle.rgo_typing_rules.specs.Shapes.{has_pointer}
use Rattle.rgo_typing_rules.specs.Views.{shape_of}
use Rattle.rgo_typing_rules.proofs.values.has_pointer.Given as goal

abbrev pub invariant-loop-value : goal.invariant-loop-value
invariant-loop-value l = has_pointer (map shape_of (drop l.value-index l.values)) ≡ has_pointer (map shape_of l.values)
