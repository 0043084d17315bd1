use Rattle.std.proofs.Common.{◌≡◌, ◌<◌, ◌≤◌, ◌+◌, ℕ, true, false, length, vec_len, get_or}
use Rattle.rgo_flow.proofs.blocks.lasts.Given as goal

abbrev pub invariant-loop-i : goal.invariant-loop-i
invariant-loop-i l = record {
  size : vec_len l.lasts ≡ length l.joins;
  within : l.i ≤ length l.joins;
  here : l.i < length l.joins → get_or l.lasts.items l.i 0 ≡ l.last;
  same : (k : ℕ) → l.i ≤ k → k + 1 < length l.joins → get_or l.joins k false ≡ true
      → get_or l.lasts.items k 0 ≡ get_or l.lasts.items (k + 1) 0;
  end : (k : ℕ) → l.i ≤ k → k < length l.joins → get_or l.joins k false ≡ false → get_or l.lasts.items k 0 ≡ k;
}

abbrev pub decreases-loop-i : goal.decreases-loop-i
decreases-loop-i l = l.i
