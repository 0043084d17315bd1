use Rattle.std.proofs.Common.{◌≡◌, ◌++◌, drop}
use Rattle.rgo_recording.proofs.Texts.{lines_in}
use Rattle.rgo_recording.proofs.printing.print_notes.Given as goal

abbrev pub invariant-loop-i : goal.invariant-loop-i
invariant-loop-i l = l.out.items ++ lines_in (drop l.i l.notes) ≡ l.fn.out.items ++ lines_in l.notes
