use Rattle.std.proofs.Common.{◌≡◌, take}
use Rattle.rgo_tac.proofs.copies.copy_types.Given as goal

abbrev pub invariant-loop-ty : goal.invariant-loop-ty
invariant-loop-ty l = l.items.items ≡ take l.ty-index l.types
