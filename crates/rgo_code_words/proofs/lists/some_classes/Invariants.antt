use Rattle.std.proofs.Common.{◌≡◌, ◌≤◌, ◌-◌, length, drop}
use Rattle.rgo_code_words.specs.Readers.{read_some, read_class}
use Rattle.rgo_code_words.proofs.Listing.{added}
use Rattle.rgo_code_words.proofs.lists.some_classes.Given as goal

abbrev pub invariant-words : goal.invariant-words
invariant-words l = record {
  within : l.at ≤ length l.list;
  read : added l.classes.items (read_some (read_class) (drop l.at l.list)) ≡ read_some (read_class) l.list;
}

abbrev pub decreases-words : goal.decreases-words
decreases-words l = length l.list - l.at
