-- What a driver knows of a run with its regions.
use Rattle.rgo_machine.specs.declared.limits.Sizes.{Sizes}
use Rattle.rgo_tac.specs.Frames.{TacFrame}
use Rattle.rgo_tac.specs.Tac.{tac}
use Rattle.rgo_code.specs.Code.{Code}
use Rattle.rgo_code.specs.Erasure.{erased}
use Rattle.rgo_round_robin.specs.Running.{View}
use Rattle.rgo_region_interpreter.specs.declared.worlds.World.{World}
use Rattle.rgo_region_interpreter.specs.Worlds.{WorldLacks, WorldReaches, IsWorldAt}

-- it is a run of the three-address machine over the erased code; what no call changes are the code and the sizes
abbrev pub view_of : World → View TacFrame (Code × Sizes)
view_of w = record {
  machine = tac (erased w.code.now);
  shows = IsWorldAt w;
  leaves = WorldReaches w;
  lacks = WorldLacks w;
  print = w.state.printed;
  fixed = (w.code.now, w.sizes);
}
