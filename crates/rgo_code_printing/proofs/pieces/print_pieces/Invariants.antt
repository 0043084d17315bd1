use Rattle.std.proofs.Common.{◌≡◌, ◌≤◌, ◌++◌, drop}
use Rattle.rgo_code_printing.specs.Words.{piece_words}
use Rattle.rgo_code_printing.specs.Printing.{listed_from}
use Rattle.rgo_code_printing.proofs.pieces.print_pieces.Given as goal

abbrev pub invariant-loop-i : goal.invariant-loop-i
invariant-loop-i l = record {
  within : l.n ≤ l.i;
  printed : l.out.items ++ listed_from l.i (piece_words (drop l.i l.pieces) l.from l.n)
      ≡ l.fn.out.items ++ listed_from 0 (piece_words l.pieces l.from 0);
}
