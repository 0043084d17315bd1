use Rattle.std.proofs.Common.{◌≡◌, take}
use Rattle.rgo_tac.proofs.copying.copy_prints.Given as goal

abbrev pub invariant-loop-pieces : goal.invariant-loop-pieces
invariant-loop-pieces l = l.items.items ≡ take l.pieces-index l.prints
