use Rattle.std.proofs.Common.{◌≡◌}
use Rattle.rgo_runtime.specs.Crew.{KeepsAll}
use Rattle.rgo_runtime.proofs.crew.Crew.wake_each.Given as goal

abbrev pub invariant-loop-place : goal.invariant-loop-place
invariant-loop-place l = record {
  kept : KeepsAll l.fn.self l.self;
  run : l.self.run ≡ l.fn.self.run;
  next : l.self.next ≡ l.fn.self.next;
}
