use Rattle.std.proofs.Common.{◌≡◌, ◌≤◌, ◌-◌, vec_capacity, vec_len}
use Rattle.rgo_runtime.specs.Crew.{IsRunCrew, KeepsAll}
use Rattle.rgo_runtime.specs.CrewView.{crew_view}
use Rattle.rgo_runtime.proofs.crew.Crew.enqueue_newborns.Given as goal

abbrev pub invariant-loop-goroutine : goal.invariant-loop-goroutine
invariant-loop-goroutine l = record {
  is : IsRunCrew (crew_view l.self-inside);
  kept : KeepsAll l.fn.self (crew_view l.self-inside);
  run : l.self-inside.run.now ≡ l.fn.self.run;
  next : l.self-inside.prints.next ≡ l.fn.self.next;
  room : vec_len l.self-inside.born ≤ vec_capacity l.self-inside.ready - vec_len l.self-inside.ready;
}

abbrev pub decreases-loop-goroutine : goal.decreases-loop-goroutine
decreases-loop-goroutine l = vec_len l.self-inside.born
