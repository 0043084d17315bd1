use Rattle.std.proofs.Common.{◌≡◌, ◌≤◌, length}
use Rattle.rgo_runtime.specs.Crew.{KeepsAll}
use Rattle.rgo_runtime.proofs.crew.Crew.park_and_retire.Given as goal

abbrev pub invariant-loop-place : goal.invariant-loop-place
invariant-loop-place l = record {
  kept : KeepsAll l.fn.self l.self;
  run : l.self.run ≡ l.fn.self.run;
  next : l.self.next ≡ l.fn.self.next;
  place : l.place ≤ length l.self.ready;
  turns : l.place ≤ l.turns;
}

abbrev pub decreases-loop-place : goal.decreases-loop-place
decreases-loop-place l = l.place
