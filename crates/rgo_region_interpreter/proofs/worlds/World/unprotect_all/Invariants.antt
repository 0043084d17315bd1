use Rattle.rgo_region_machine.specs.States.{Unprotect}
use Rattle.rgo_region_interpreter.proofs.owing.Preparing.{DoesSo}
use Rattle.rgo_region_interpreter.proofs.worlds.World.unprotect_all.Given as goal

abbrev pub invariant-loop-name : goal.invariant-loop-name
invariant-loop-name l = DoesSo Unprotect l.fn.self l.self l.g l.names l.name-index
