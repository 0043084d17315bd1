use Rattle.std.proofs.Common.{◌≡◌, ◌++◌, drop}
use Rattle.std.specs.List.{flat_map}
use Rattle.rgo_code_printing.specs.Words.{byte_word}
use Rattle.rgo_code_printing.proofs.pieces.print_string_bytes.Given as goal

abbrev pub invariant-loop-byte : goal.invariant-loop-byte
invariant-loop-byte l =
    l.out.items ++ flat_map byte_word (drop l.byte-index l.bytes) ≡ l.fn.out.items ++ flat_map byte_word l.bytes
