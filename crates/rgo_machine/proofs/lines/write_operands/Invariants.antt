use Rattle.std.proofs.Common.{◌≡◌, ◌++◌, drop, take, length}
use Rattle.rgo_machine.specs.Lines.{printed_operands, spaced}
use Rattle.rgo_machine.proofs.lines.write_operands.Given as goal

abbrev pub invariant-loop-piece : goal.invariant-loop-piece
invariant-loop-piece l = record {
  operands : l.out.items ++ spaced (printed_operands (drop l.piece-index l.pieces) l.rest)
      ≡ l.fn.out.items ++ spaced (printed_operands l.pieces l.values);
  begins : take (length l.fn.out.items) l.out.items ≡ l.fn.out.items;
}
