use Rattle.rgo_core_rule.proofs.Adding.{add_moves}
use Rattle.rgo_core_rule.proofs.counting.add_law.Goals as goal

pub returns : goal.returns
returns c = add_moves
