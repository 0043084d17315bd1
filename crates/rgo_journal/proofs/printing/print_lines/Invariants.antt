use Rattle.std.proofs.Common.{◌≡◌, ◌++◌, drop}
use Rattle.rgo_journal.specs.Text.{pick_lines}
use Rattle.rgo_journal.proofs.printing.print_lines.Given as goal

abbrev pub invariant-loop-pick : goal.invariant-loop-pick
invariant-loop-pick l = l.out.items ++ pick_lines (drop l.pick-index l.picks) ≡ l.fn.out.items ++ pick_lines l.picks
