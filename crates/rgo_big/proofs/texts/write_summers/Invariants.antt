use Rattle.std.proofs.Common.{◌≡◌, ◌++◌}
use Rattle.rgo_big.specs.Big.{summer, summers}
use Rattle.rgo_big.proofs.Lines.{lines_from}
use Rattle.rgo_big.proofs.texts.write_summers.Given as goal

abbrev pub invariant-loop-k : goal.invariant-loop-k
invariant-loop-k l = l.text.items ++ lines_from summer l.n l.k ≡ l.fn.text.items ++ summers l.n
