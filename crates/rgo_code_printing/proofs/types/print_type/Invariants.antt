use Rattle.std.proofs.Common.{◌≡◌, ◌++◌, drop}
use Rattle.std.specs.List.{flat_map}
use Rattle.rgo_code_printing.specs.Words.{layer_word}
use Rattle.rgo_code_printing.proofs.types.print_type.Given as goal

abbrev pub invariant-loop-layer : goal.invariant-loop-layer
invariant-loop-layer l =
    l.out.items ++ flat_map layer_word (drop l.layer-index l.ty.layers)
    ≡ l.fn.out.items ++ flat_map layer_word l.ty.layers
