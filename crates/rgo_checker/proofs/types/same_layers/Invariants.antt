use Rattle.std.proofs.Common.{◌≡◌, drop}
use Rattle.rgo_checker.specs.TypeTests.{equal_layer_lists}
use Rattle.rgo_checker.proofs.types.same_layers.Given as goal

abbrev pub invariant-loop-i : goal.invariant-loop-i
invariant-loop-i l = equal_layer_lists (drop l.i l.a) (drop l.i l.b) ≡ equal_layer_lists l.a l.b
