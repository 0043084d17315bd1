use Rattle.std.proofs.Common.{◌≡◌, ◌++◌, length, map, take}
use Rattle.rgo_runtime.specs.Crews.{AreRetired, end_mark}
use Rattle.rgo_runtime.specs.Leaving.{turn_row}
use Rattle.rgo_runtime.proofs.crew.Crew.snapshot.Given as goal

-- the snapshot has what those have counted that have retired, and those before the place of the loop
abbrev pub invariant-loop-turn : goal.invariant-loop-turn
invariant-loop-turn l = record {
  places : length l.snapshot.shares ≡ length l.fn.self.shares;
  retired : AreRetired (l.fn.self.me.0.records ++ map (turn_row l.fn.self.run.setup) (take l.turn-index l.fn.self.ready))
      l.snapshot.shares (end_mark l.snapshot.first);
}
