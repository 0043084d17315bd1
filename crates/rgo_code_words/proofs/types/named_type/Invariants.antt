use Rattle.std.proofs.Common.{◌≡◌, ◌≤◌, ◌-◌, length, drop}
use Rattle.rgo_code_words.specs.Readers.{read_type}
use Rattle.rgo_code_words.proofs.TypeSteps.{with_layers}
use Rattle.rgo_code_words.proofs.types.named_type.Given as goal

abbrev pub invariant-loop-l : goal.invariant-loop-l
invariant-loop-l l = record {
  within : l.at ≤ length l.word;
  read : with_layers l.layers.items (read_type (drop l.at l.word)) ≡ read_type l.word;
}

abbrev pub decreases-loop-l : goal.decreases-loop-l
decreases-loop-l l = length l.word - l.at
