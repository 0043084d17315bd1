use Rattle.rgo_region_machine.specs.States.{Remove}
use Rattle.rgo_region_interpreter.proofs.owing.Preparing.{DoesSo}
use Rattle.rgo_region_interpreter.proofs.worlds.World.remove_all.Given as goal

abbrev pub invariant-loop-name : goal.invariant-loop-name
invariant-loop-name l = DoesSo Remove l.fn.self l.self l.g l.names l.name-index
