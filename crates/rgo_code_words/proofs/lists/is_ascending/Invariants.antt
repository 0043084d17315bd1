use Rattle.std.proofs.Common.{◌≡◌, ◌-◌, drop}
use Rattle.rgo_code_words.specs.Readers.{is_ascending}
use Rattle.rgo_code_words.proofs.lists.is_ascending.Given as goal

abbrev pub invariant-loop-i : goal.invariant-loop-i
invariant-loop-i l = is_ascending (drop (l.i - 1) l.numbers) ≡ is_ascending l.numbers
