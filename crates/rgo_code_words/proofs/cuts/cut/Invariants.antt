use Rattle.std.proofs.Common.{◌≡◌, ◌≤◌, ◌++◌, length, drop}
use Rattle.rgo_code_words.specs.Cuts.{nows, cut_line}
use Rattle.rgo_code_words.proofs.cuts.cut.Given as goal

abbrev pub invariant-words : goal.invariant-words
invariant-words l = record {
  within : l.at ≤ length l.line;
  cut_is : nows l.words.items ++ cut_line l.left (drop l.at l.line) ≡ cut_line l.n l.line;
}

abbrev pub decreases-words : goal.decreases-words
decreases-words l = l.left
