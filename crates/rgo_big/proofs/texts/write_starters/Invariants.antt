use Rattle.std.proofs.Common.{◌≡◌, ◌++◌}
use Rattle.rgo_big.specs.Big.{starter, starters}
use Rattle.rgo_big.proofs.Lines.{lines_from}
use Rattle.rgo_big.proofs.texts.write_starters.Given as goal

abbrev pub invariant-loop-k : goal.invariant-loop-k
invariant-loop-k l = l.text.items ++ lines_from starter l.n l.k ≡ l.fn.text.items ++ starters l.n
