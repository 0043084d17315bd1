use Rattle.std.proofs.Common.{take}
use Rattle.rgo_flow.specs.Solved.{AreHeads}
use Rattle.rgo_flow.proofs.solving.heads.Given as goal

abbrev pub invariant-loop-p : goal.invariant-loop-p
invariant-loop-p l = AreHeads
    (take l.p-index l.points) l.wanted l.readers l.writers l.first l.last l.heads.items
