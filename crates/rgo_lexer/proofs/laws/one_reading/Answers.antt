use Rattle.rgo_lexer.proofs.OneReading.{never_both, one_of_both, one_list, one_refusal}
use Rattle.rgo_lexer.proofs.Placing.{of_text}
use Rattle.rgo_lexer.proofs.Order.{in_order}
use Rattle.rgo_lexer.proofs.laws.one_reading.Goals as goal

pub returns : goal.returns
returns c = record {
  never_both = never_both;
  one_of_both = one_of_both;
  one_list = one_list;
  one_refusal = one_refusal;
  of_text = of_text;
  in_order = in_order;
}
