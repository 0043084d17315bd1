use Rattle.std.proofs.Common.{◌≡◌, ◌++◌, replicate}
use Rattle.rgo_journal.specs.declared.picks.TacPick.{TacPick}
use Rattle.rgo_journal.specs.Text.{pick_line, pick_lines}
use Rattle.rgo_recording.proofs.printing.print_times.Given as goal

abbrev pub invariant-loop-taken : goal.invariant-loop-taken
invariant-loop-taken l =
    (pick : TacPick) → l.line ≡ pick_line pick → l.out.items ≡ l.fn.out.items ++ pick_lines (replicate l.taken pick)
