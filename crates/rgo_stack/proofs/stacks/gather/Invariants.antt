use Rattle.std.proofs.Common.{◌≡◌, map, take}
use Rattle.rgo_compact.specs.Runs.{word_or_zero}
use Rattle.rgo_stack.proofs.stacks.gather.Given as goal

abbrev pub invariant-loop-i : goal.invariant-loop-i
invariant-loop-i l = l.words.items ≡ map (word_or_zero l.variables) (take l.i l.from)
