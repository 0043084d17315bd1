use Rattle.std.proofs.Common.{◌≡◌, take}
use Rattle.rgo_tac.proofs.copies.copy_pieces.Given as goal

abbrev pub invariant-loop-piece : goal.invariant-loop-piece
invariant-loop-piece l = l.items.items ≡ take l.piece-index l.pieces
