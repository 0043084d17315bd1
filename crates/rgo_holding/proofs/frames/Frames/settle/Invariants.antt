use Rattle.std.proofs.Common.{◌≡◌, vec_len}
use Rattle.rgo_holding.specs.Naming.{cut}
use Rattle.rgo_holding.specs.Tables.{IsOrdered, named_frames}
use Rattle.rgo_holding.proofs.frames.Frames.settle.Given as goal

abbrev pub invariant-loop-self : goal.invariant-loop-self
invariant-loop-self l = IsOrdered l.fn.self → IsOrdered l.self × (cut l.kept (named_frames l.self) ≡ cut l.kept (named_frames l.fn.self))

abbrev pub decreases-loop-self : goal.decreases-loop-self
decreases-loop-self l = vec_len l.self.tables
