use Rattle.std.proofs.Common.{◌≡◌, ◌≤◌, ◌-◌, length, drop}
use Rattle.rgo_code_text.specs.Lines.{read_fields}
use Rattle.rgo_code_words.specs.Views.{named_types_of}
use Rattle.rgo_code_words.proofs.Listing.{added}
use Rattle.rgo_code_text.proofs.items.fields.Given as goal

abbrev pub invariant-types : goal.invariant-types
invariant-types l = record {
  within : l.at ≤ length l.list;
  read : added (named_types_of l.types) (read_fields (drop l.at l.list)) ≡ read_fields l.list;
}

abbrev pub decreases-types : goal.decreases-types
decreases-types l = length l.list - l.at
