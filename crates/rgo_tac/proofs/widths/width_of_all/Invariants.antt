use Rattle.std.proofs.Common.{ℕ, ◌≤◌, drop}
use Rattle.rgo_tac.specs.Widths.{OpsFitWidth}
use Rattle.rgo_tac.proofs.widths.width_of_all.Given as goal

abbrev pub invariant-loop-instr : goal.invariant-loop-instr
invariant-loop-instr l =
    (w : ℕ) → l.width ≤ w → OpsFitWidth l.body.lists l.body.pieces w (drop l.instr-index l.body.instrs)
    → OpsFitWidth l.body.lists l.body.pieces w l.body.instrs
