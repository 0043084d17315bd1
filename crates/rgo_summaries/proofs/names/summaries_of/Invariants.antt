use Rattle.rgo_summaries.proofs.Taking.{AreTaken}
use Rattle.rgo_summaries.proofs.names.summaries_of.Given as goal

abbrev pub invariant-loop-n : goal.invariant-loop-n
invariant-loop-n l = AreTaken l.functions l.fn.nodes l.nodes l.all.items l.n
