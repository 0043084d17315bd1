use Rattle.std.proofs.Common.{◌≡◌, ◌≤◌, ◌+◌, ◌-◌, length, drop}
use Rattle.rgo_lexer.specs.Strings.{items_len}
use Rattle.rgo_lexer.proofs.strings.items_len.Given as goal

abbrev pub invariant-loop-width : goal.invariant-loop-width
invariant-loop-width l = record {
  within : l.at ≤ length l.text;
  rest : l.at + items_len (drop l.at l.text) ≡ items_len l.text;
}

abbrev pub decreases-loop-width : goal.decreases-loop-width
decreases-loop-width l = length l.text - l.at
