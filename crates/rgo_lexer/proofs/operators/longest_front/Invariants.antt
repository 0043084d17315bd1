use Rattle.std.proofs.Common.{◌≡◌, drop, true}
use Rattle.rgo_lexer.specs.Operators.{longer_first, longest_front}
use Rattle.rgo_lexer.specs.Words.{entries}
use Rattle.rgo_lexer.proofs.operators.longest_front.Given as goal

abbrev pub invariant-loop-entry : goal.invariant-loop-entry
invariant-loop-entry l = record {
  order : longer_first (entries (drop l.entry-index l.table)) ≡ true;
  rest : longest_front (entries (drop l.entry-index l.table)) l.text ≡ longest_front
      (entries l.table) l.text;
}
