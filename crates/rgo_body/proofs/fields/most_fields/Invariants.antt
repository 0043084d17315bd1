use Rattle.std.proofs.Common.{◌≡◌, ◌≤◌, drop, length}
use Rattle.rgo_body.specs.Programs as spec
use Rattle.rgo_body.proofs.fields.most_fields.Given as goal

-- the structs from the i-th on are counted
abbrev pub invariant-loop-i : goal.invariant-loop-i
invariant-loop-i l = (l.i ≤ length l.structs) × (l.most ≡ spec.most_fields (drop l.i l.structs))

abbrev pub decreases-loop-i : goal.decreases-loop-i
decreases-loop-i l = l.i
