use Rattle.std.proofs.Common.{drop}
use Rattle.rgo_region_interpreter.specs.Attending.{has_key}
use Rattle.rgo_region_interpreter.specs.Works.{SameRun}
use Rattle.rgo_region_interpreter.proofs.owing.Preparing.{SharedSo}
use Rattle.rgo_region_interpreter.proofs.worlds.World.share_all.Given as goal

abbrev pub invariant-loop-class : goal.invariant-loop-class
invariant-loop-class l =
    SharedSo l.fn.self l.self l.g l.passes (drop l.class-index l.passes) (has_key l.shared) × SameRun l.fn.self l.self
