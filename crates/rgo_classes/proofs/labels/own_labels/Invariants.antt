use Rattle.std.proofs.Common.{◌≡◌, ◌<◌, ℕ, vec_len, get_or}
use Rattle.rgo_classes.proofs.labels.own_labels.Given as goal

abbrev pub invariant-loop-m : goal.invariant-loop-m
invariant-loop-m l = record {
  len : vec_len l.labels ≡ l.m;
  own : (k : ℕ) → k < l.m → get_or l.labels.items k 0 ≡ k;
}
