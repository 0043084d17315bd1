use Rattle.std.proofs.Common.{◌≤◌, ◌<◌, ℕ, Contains}
use Rattle.rgo_round_robin.proofs.waiting.admit.Given as goal

-- those that were ready, and those so far
abbrev pub invariant-loop-g : goal.invariant-loop-g
invariant-loop-g l = record {
  stay : (g : ℕ) → Contains l.initial.ready.items g → Contains l.ready.items g;
  fresh : (g : ℕ) → l.from ≤ g → g < l.g → Contains l.ready.items g;
}
