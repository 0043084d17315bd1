use Rattle.rgo_parser.proofs.Answered.{one_tree, one_refusal, never_both, one_of_both}
use Rattle.rgo_parser.proofs.laws.one_answer.Goals as goal

pub returns : goal.returns
returns c = record { tree = one_tree; refusal = one_refusal; never_both = never_both; one_of_both = one_of_both }
