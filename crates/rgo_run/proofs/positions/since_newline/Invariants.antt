use Rattle.std.proofs.Common.{◌≡◌, ◌≤◌, take}
use Rattle.std.specs.List.{suffix_len}
use Rattle.rgo_run.specs.Positions.{is_in_line}
use Rattle.rgo_run.proofs.positions.since_newline.Given as goal

abbrev pub invariant-loop-b : goal.invariant-loop-b
invariant-loop-b l = (l.count ≡ suffix_len is_in_line (take l.b-index l.bytes)) × (l.count ≤ l.b-index)
