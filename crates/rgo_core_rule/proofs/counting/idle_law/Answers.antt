use Rattle.rgo_core_rule.proofs.Adding.{idle_still}
use Rattle.rgo_core_rule.proofs.counting.idle_law.Goals as goal

pub returns : goal.returns
returns c = idle_still
