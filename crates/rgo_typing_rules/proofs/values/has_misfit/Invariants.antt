use Rattle.std.proofs.Common.{◌≡◌, ◌-◌, map, drop, length}
use Rattle.rgo_typing_rules.specs.Shapes.{has_misfit}
use Rattle.rgo_typing_rules.specs.Views.{type_of_kind, shape_of}
use Rattle.rgo_typing_rules.proofs.values.has_misfit.Given as goal

abbrev pub invariant-loop-i : goal.invariant-loop-i
invariant-loop-i l =
    has_misfit (map type_of_kind (drop l.i l.wanted)) (map shape_of (drop l.i l.given))
    ≡ has_misfit (map type_of_kind l.wanted) (map shape_of l.given)

abbrev pub decreases-loop-i : goal.decreases-loop-i
decreases-loop-i l = length l.wanted - l.i
