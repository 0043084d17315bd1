use Rattle.std.proofs.Common.{◌≡◌, ◌<◌, ◌+◌, ◌-◌, ℕ, true, false, vec_len, get_or}
use Rattle.rgo_flow.proofs.blocks.firsts.Given as goal

abbrev pub invariant-loop-i : goal.invariant-loop-i
invariant-loop-i l = record {
  size : vec_len l.firsts ≡ l.i;
  none : l.i ≡ 0 → l.joined ≡ false;
  flag : 0 < l.i → l.joined ≡ get_or l.joins (l.i - 1) false;
  here : 0 < l.i → get_or l.firsts.items (l.i - 1) 0 ≡ l.first;
  start : 0 < l.i → get_or l.firsts.items 0 0 ≡ 0;
  same : (k : ℕ) → k + 1 < l.i → get_or l.joins k false ≡ true
      → get_or l.firsts.items (k + 1) 0 ≡ get_or l.firsts.items k 0;
  new : (k : ℕ) → k + 1 < l.i → get_or l.joins k false ≡ false → get_or l.firsts.items (k + 1) 0 ≡ k + 1;
}
