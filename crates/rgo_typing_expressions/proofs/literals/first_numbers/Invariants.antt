use Rattle.std.proofs.Common.{◌≡◌}
use Rattle.rgo_typing_expressions.specs.Terms.{first_numbers}
use Rattle.rgo_typing_expressions.proofs.literals.first_numbers.Given as goal

abbrev pub invariant-loop-number : goal.invariant-loop-number
invariant-loop-number l = l.numbers.items ≡ first_numbers l.number
