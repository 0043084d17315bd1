use Rattle.std.proofs.Common.{◌≡◌, ◌≤◌, drop}
use Rattle.rgo_grammar.specs.Nesting.{deep_at, deep_from, terminals}
use Rattle.rgo_grammar.proofs.nesting.deep_at.Given as goal

abbrev pub invariant-loop-at : goal.invariant-loop-at
invariant-loop-at l =
    (deep_at l.fn.limit l.fn.lexemes ≡ deep_from l.fn.limit l.before l.nesting.levels.items l.at (terminals (drop l.at l.fn.lexemes)))
    × (l.nesting.total ≤ l.fn.limit)
