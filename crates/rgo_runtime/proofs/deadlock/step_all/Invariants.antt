-- So far all have stood still. What each lacks was found when the driver had seen less (`passed`); it stays so as long as nothing moves,
-- which is why the loop leaves at the first move.
use Rattle.std.proofs.Common.{◌≡◌, ◌++◌, List, take}
use Rattle.std.specs.List.{All}
use Rattle.rgo_core.specs.Rule.declared.accesses.Access.{Access}
use Rattle.rgo_table_runs.specs.Goroutine.Goroutines.{IsOf}
use Rattle.rgo_runtime.proofs.crews.Turning.{HavePassed}
use Rattle.rgo_runtime.specs.Boxes.{in_boxes}
use Rattle.rgo_runtime.specs.Passing.{HasStoodStill, IsBehind, IsKnownBy, IsTidyIn}
use Rattle.rgo_runtime.proofs.lists.Sweeps.{Swept}
use Rattle.rgo_runtime.proofs.deadlock.step_all.Given as goal

abbrev pub invariant-loop-i : goal.invariant-loop-i
invariant-loop-i g l = record {
  all : All (IsOf l.fn.run) (in_boxes l.goroutines);
  own : l.seat.table_id ≡ l.fn.seat.table_id;
  rows : (l.seat.me.0.records ≡ l.fn.seat.me.0.records) × (l.seat.me.1 ≡ l.fn.seat.me.1);
  seen : (es : List Access) × (l.seat.me.0.seen ≡ l.fn.seat.me.0.seen ++ es);
  known : All (IsKnownBy l.fn.run.setup l.seat.me.0.seen) (in_boxes l.goroutines);
  behind : All (IsBehind l.seat.me.0.seen) (in_boxes l.goroutines);
  tidy : All (IsTidyIn l.fn.run.setup) (in_boxes l.fn.goroutines) → All (IsTidyIn l.fn.run.setup) (in_boxes l.goroutines);
  still : Swept (HasStoodStill l.fn.run) (in_boxes l.fn.goroutines) (in_boxes l.goroutines) l.i;
  passed : HavePassed l.fn.run.setup l.fn.seat.me.0.seen l.seat.me.0.seen (take l.i (in_boxes l.goroutines)) l.passed;
}
