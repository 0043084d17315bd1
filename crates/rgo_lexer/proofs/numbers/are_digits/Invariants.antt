use Rattle.std.proofs.Common.{◌≡◌, drop}
use Rattle.rgo_lexer.specs.Numbers.{are_digits}
use Rattle.rgo_lexer.proofs.numbers.are_digits.Given as goal

abbrev pub invariant-loop-i : goal.invariant-loop-i
invariant-loop-i l = are_digits l.base (drop l.i l.bytes) ≡ are_digits l.base l.bytes
