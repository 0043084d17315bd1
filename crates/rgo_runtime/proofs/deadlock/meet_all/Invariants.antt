-- Only the first `i` are known to be behind: a later meeting adds to what the driver has seen, so who was behind stays so. That is also why
-- `behind` speaks of the driver now, and not at the start.
use Rattle.std.proofs.Common.{◌≡◌, take}
use Rattle.std.specs.List.{All}
use Rattle.rgo_table_runs.specs.Goroutine.Goroutines.{IsOf}
use Rattle.rgo_runtime.specs.Boxes.{in_boxes}
use Rattle.rgo_runtime.specs.Passing.{HasMet, IsBehind}
use Rattle.rgo_runtime.proofs.lists.Sweeps.{Swept}
use Rattle.rgo_runtime.proofs.deadlock.meet_all.Given as goal

abbrev pub invariant-loop-i : goal.invariant-loop-i
invariant-loop-i l = record {
  all : All (IsOf l.fn.run) (in_boxes l.goroutines);
  own : l.seat.table_id ≡ l.fn.seat.table_id;
  rows : (l.seat.me.0.records ≡ l.fn.seat.me.0.records) × (l.seat.me.1 ≡ l.fn.seat.me.1);
  met : Swept (HasMet l.fn.run.setup) (in_boxes l.fn.goroutines) (in_boxes l.goroutines) l.i;
  behind : All (IsBehind l.seat.me.0.seen) (take l.i (in_boxes l.goroutines));
}
