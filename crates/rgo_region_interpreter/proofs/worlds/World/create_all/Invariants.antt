use Rattle.rgo_region_interpreter.specs.Works.{SameRun}
use Rattle.rgo_region_interpreter.proofs.owing.Preparing.{CreatesSo}
use Rattle.rgo_region_interpreter.proofs.worlds.World.create_all.Given as goal

abbrev pub invariant-loop-i : goal.invariant-loop-i
invariant-loop-i l = CreatesSo l.fn.self l.self l.g l.names l.i × SameRun l.fn.self l.self
