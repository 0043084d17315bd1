use Rattle.std.proofs.Common.{take, All}
use Rattle.rgo_round_robin.proofs.Given.{IsOther}
use Rattle.rgo_round_robin.proofs.lines.line_length.Given as goal

-- no newline so far
abbrev pub invariant-loop-i : goal.invariant-loop-i
invariant-loop-i l = All IsOther (take l.i l.bytes)
