use Rattle.rgo_core_rule.proofs.Adding.{start_moves}
use Rattle.rgo_core_rule.proofs.counting.start_law.Goals as goal

pub returns : goal.returns
returns c = start_moves
