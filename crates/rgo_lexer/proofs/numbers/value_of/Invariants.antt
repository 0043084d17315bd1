use Rattle.std.proofs.Common.{◌≡◌, ◌<◌, ◌^◌, drop}
use Rattle.rgo_lexer.specs.Numbers.{value_after, value_of}
use Rattle.rgo_lexer.proofs.numbers.value_of.Given as goal

-- the rest of the digits after the number so far write what all of them write
abbrev pub invariant-loop-b : goal.invariant-loop-b
invariant-loop-b l = record {
  fits : l.number < 2 ^ 63;
  rest : value_after l.base l.number (drop l.b-index l.digits) ≡ value_of l.base l.digits;
}
