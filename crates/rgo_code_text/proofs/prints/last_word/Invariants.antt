use Rattle.std.proofs.Common.{◌≡◌, ◌<◌, ◌≤◌, ◌⊎◌, ◌++◌, ◌∷◌, ◌-◌, length, take, drop}
use Rattle.rgo_code_text.proofs.prints.last_word.Given as goal

abbrev pub invariant-words : goal.invariant-words
invariant-words l = record {
  within : l.at ≤ length l.bytes;
  before : (l.at ≡ 0) ⊎ ((0 < l.at) × (l.bytes ≡ take (l.at - 1) l.bytes ++ 32 ∷ drop l.at l.bytes));
}

abbrev pub decreases-words : goal.decreases-words
decreases-words l = length l.bytes - l.at
