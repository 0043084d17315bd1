use Rattle.std.proofs.Common.{◌≡◌, ◌<◌, ◌∷◌, [], ℕ, vec_len}
use Rattle.rgo_classes.specs.Moves.{members_of_label, member_rows}
use Rattle.rgo_classes.proofs.labels.own_rows.Given as goal

abbrev pub invariant-loop-m : goal.invariant-loop-m
invariant-loop-m l = record {
  len : vec_len l.rows ≡ l.m;
  own : (k : ℕ) → k < l.m → members_of_label (member_rows l.rows.items) k ≡ k ∷ [];
}
