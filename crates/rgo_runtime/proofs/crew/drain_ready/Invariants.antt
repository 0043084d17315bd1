use Rattle.std.proofs.Common.{◌≡◌, ◌≤◌, ◌-◌, ◌++◌, ℕ, map, reverse, vec_capacity, vec_len}
use Rattle.std.specs.List.{All}
use Rattle.rgo_runtime.specs.Boxes.{in_boxes}
use Rattle.rgo_runtime.specs.Crews.{IsOfCrew, MayTurn, its_goroutine}
use Rattle.rgo_runtime.proofs.crew.drain_ready.Given as goal

-- some goroutines have come out, the last first
abbrev pub invariant-loop-turn : goal.invariant-loop-turn
invariant-loop-turn l = record {
  crew : (n : ℕ) × All (IsOfCrew l.fn.run n) l.ready.items;
  taken : in_boxes l.goroutines.items ++ reverse (map its_goroutine l.ready.items) ≡ reverse (map its_goroutine l.fn.ready.items);
  rest : All (MayTurn l.fn.run) (in_boxes l.goroutines.items);
  capacity : vec_capacity l.ready ≡ vec_capacity l.fn.ready;
  room : vec_len l.ready ≤ vec_capacity l.goroutines - vec_len l.goroutines;
}

abbrev pub decreases-loop-turn : goal.decreases-loop-turn
decreases-loop-turn l = vec_len l.ready
