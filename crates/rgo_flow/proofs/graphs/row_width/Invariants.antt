use Rattle.std.proofs.Common.{◌<◌, ℕ, take}
use Rattle.std.specs.List.{Contains}
use Rattle.rgo_flow.proofs.graphs.row_width.Given as goal

abbrev pub invariant-loop-x : goal.invariant-loop-x
invariant-loop-x l = (x : ℕ) → Contains (take l.x-index l.row) x → x < l.width
