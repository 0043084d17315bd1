-- `behind` holds of all, since all have met before; `known` only of those that have looked. What the driver has seen only grows (`seen`),
-- so what was known stays known.
use Rattle.std.proofs.Common.{◌≡◌, ◌++◌, List, take}
use Rattle.std.specs.List.{All}
use Rattle.rgo_core.specs.Rule.declared.accesses.Access.{Access}
use Rattle.rgo_table_runs.specs.Goroutine.Goroutines.{IsOf}
use Rattle.rgo_runtime.specs.Boxes.{in_boxes}
use Rattle.rgo_runtime.specs.Passing.{HasLookedOnce, IsBehind, IsKnownBy}
use Rattle.rgo_runtime.proofs.lists.Sweeps.{Swept}
use Rattle.rgo_runtime.proofs.deadlock.look_all.Given as goal

abbrev pub invariant-loop-i : goal.invariant-loop-i
invariant-loop-i l = record {
  all : All (IsOf l.fn.run) (in_boxes l.goroutines);
  own : l.seat.table_id ≡ l.fn.seat.table_id;
  rows : (l.seat.me.0.records ≡ l.fn.seat.me.0.records) × (l.seat.me.1 ≡ l.fn.seat.me.1);
  looked : Swept (HasLookedOnce l.fn.run.setup) (in_boxes l.fn.goroutines) (in_boxes l.goroutines) l.i;
  seen : (es : List Access) × (l.seat.me.0.seen ≡ l.fn.seat.me.0.seen ++ es);
  known : All (IsKnownBy l.fn.run.setup l.seat.me.0.seen) (take l.i (in_boxes l.goroutines));
  behind : All (IsBehind l.seat.me.0.seen) (in_boxes l.goroutines);
}
