use Rattle.rgo_grammar.proofs.Whole.{one_tree, one_of_both}
use Rattle.rgo_grammar.proofs.OneReading.{one_refusal, never_both}
use Rattle.rgo_grammar.proofs.laws.one_reading.Goals as goal

pub returns : goal.returns
returns c = record { tree = one_tree; refusal = one_refusal; never_both = never_both; one_of_both = one_of_both }
