use Rattle.rgo_core_rule.proofs.Settled as settled
use Rattle.rgo_core_rule.proofs.laws.turn_looks.Goals as goal

pub returns : goal.returns
returns c = settled.turn_looks
