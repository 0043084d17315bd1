use Rattle.std.proofs.Common.{ℕ, take}
use Rattle.std.specs.List.{Contains}
use Rattle.rgo_flow.proofs.queries.enters.Given as goal

abbrev pub invariant-loop-j : goal.invariant-loop-j
invariant-loop-j l = (j : ℕ) → Contains (take l.j-index l.row) j → Contains l.solved j → ⊥
