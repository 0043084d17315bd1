use Rattle.std.proofs.Common.{◌≡◌, ◌-◌, drop, take}
use Rattle.rgo_code_words.specs.Cuts.{nows}
use Rattle.rgo_code_text.proofs.numbers.Numbers.names_from.Given as goal

abbrev pub invariant-loop-n : goal.invariant-loop-n
invariant-loop-n l = l.names.items ≡ take (l.n - l.first) (drop l.first (nows l.self-inside.names.items))
