use Rattle.std.proofs.Common.{take, All}
use Rattle.rgo_code_words.specs.Worded.{PieceFits}
use Rattle.rgo_run.proofs.constants.pieces_fit.Given as goal

abbrev pub invariant-loop-i : goal.invariant-loop-i
invariant-loop-i l = All PieceFits (take l.i l.pieces)
