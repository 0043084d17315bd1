use Rattle.std.proofs.Common.{◌≡◌, take}
use Rattle.rgo_tac.proofs.copies.copy_structs.Given as goal

abbrev pub invariant-loop-declared : goal.invariant-loop-declared
invariant-loop-declared l = l.items.items ≡ take l.declared-index l.structs
