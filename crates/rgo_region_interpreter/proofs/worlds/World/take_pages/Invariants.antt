use Rattle.std.proofs.Common.{◌-◌}
use Rattle.rgo_region_interpreter.specs.Works.{SameRun}
use Rattle.rgo_region_interpreter.proofs.acts.Rooms.{AllRoomier}
use Rattle.rgo_region_interpreter.proofs.worlds.World.take_pages.Given as goal

abbrev pub invariant-loop : goal.invariant-loop
invariant-loop l = AllRoomier l.fn.self l.self l.g l.next l.making l.region (l.end - l.counter)
    × SameRun l.fn.self l.self
