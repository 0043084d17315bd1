use Rattle.std.proofs.Common.{◌≡◌, ◌≤◌, ◌-◌, ◌++◌, length, drop, map}
use Rattle.rgo_lexer.specs.Strings.{items, item_value}
use Rattle.rgo_lexer.proofs.strings.item_values.Given as goal

abbrev pub invariant-loop-width : goal.invariant-loop-width
invariant-loop-width l = record {
  within : l.at ≤ length l.text;
  rest : l.values.items ++ map item_value (items (drop l.at l.text)) ≡ map item_value
      (items l.text);
}

abbrev pub decreases-loop-width : goal.decreases-loop-width
decreases-loop-width l = length l.text - l.at
