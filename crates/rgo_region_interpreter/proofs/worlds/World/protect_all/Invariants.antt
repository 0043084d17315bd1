use Rattle.rgo_region_interpreter.specs.Works.{SameRun}
use Rattle.rgo_region_interpreter.proofs.owing.Preparing.{ProtectsSo}
use Rattle.rgo_region_interpreter.proofs.worlds.World.protect_all.Given as goal

abbrev pub invariant-loop-i : goal.invariant-loop-i
invariant-loop-i l = ProtectsSo l.fn.self l.self l.g l.created l.names l.i × SameRun l.fn.self l.self
