use Rattle.std.proofs.Common.{◌≡◌, ◌<◌, ℕ, length, get_or}
use Rattle.rgo_lower.proofs.functions.first_slots.Given as goal

abbrev pub invariant-loop-n : goal.invariant-loop-n
invariant-loop-n l = record {
  count : length l.slots.items ≡ l.n;
  each : (k : ℕ) → k < l.n → get_or l.slots.items k 0 ≡ k;
}
