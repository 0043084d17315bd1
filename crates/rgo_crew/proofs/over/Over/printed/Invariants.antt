-- What was joined so far and the bytes of the prints that follow are always the whole.
use Rattle.std.proofs.Common.{◌≡◌, ◌++◌, drop}
use Rattle.rgo_crew.specs.Overs.{joined_prints}
use Rattle.rgo_crew.proofs.over.Over.printed.Given as goal

abbrev pub invariant-loop-print : goal.invariant-loop-print
invariant-loop-print l = l.bytes.items ++ joined_prints (drop l.print-index l.fn.self.prints.items) ≡ joined_prints l.fn.self.prints.items
