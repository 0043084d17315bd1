use Rattle.std.proofs.Common.{length}
use Rattle.rgo_region_interpreter.specs.Attending.{base_regions_of}
use Rattle.rgo_region_interpreter.proofs.owing.Attending.{EndsSo}
use Rattle.rgo_region_interpreter.proofs.worlds.World.end_base.Given as goal

abbrev pub invariant-loop-holder : goal.invariant-loop-holder
invariant-loop-holder l = EndsSo l.fn.self l.self l.g

abbrev pub decreases-loop-holder : goal.decreases-loop-holder
decreases-loop-holder l = length (base_regions_of l.self l.g)
