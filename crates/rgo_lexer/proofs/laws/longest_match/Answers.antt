use Rattle.rgo_lexer.proofs.Fronts.{longest_match}
use Rattle.rgo_lexer.proofs.laws.longest_match.Goals as goal

pub returns : goal.returns
returns c = longest_match
