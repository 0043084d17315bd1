use Rattle.std.proofs.Common.{◌≡◌, ◌≤◌, ◌-◌, ◌++◌, map, reverse, vec_capacity, vec_len}
use Rattle.std.specs.List.{All}
use Rattle.rgo_runtime.specs.Boxes.{in_boxes}
use Rattle.rgo_runtime.specs.Crews.{MayTurn}
use Rattle.rgo_runtime.specs.Turns.{first_turn}
use Rattle.rgo_runtime.proofs.crew.refill_ready.Given as goal

-- some goroutines have come back, the last first
abbrev pub invariant-loop-goroutine : goal.invariant-loop-goroutine
invariant-loop-goroutine l = record {
  rest : All (MayTurn l.fn.run) (in_boxes l.goroutines.items);
  back : l.ready.items ++ map (first_turn l.fn.run) (reverse (in_boxes l.goroutines.items))
      ≡ map (first_turn l.fn.run) (reverse (in_boxes l.fn.goroutines.items));
  room : vec_len l.goroutines ≤ vec_capacity l.ready - vec_len l.ready;
}

abbrev pub decreases-loop-goroutine : goal.decreases-loop-goroutine
decreases-loop-goroutine l = vec_len l.goroutines
