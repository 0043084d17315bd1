use Rattle.rgo_core_rule.proofs.Passes as passes
use Rattle.rgo_core_rule.proofs.laws.two_passes.Goals as goal

pub returns : goal.returns
returns c = passes.two_passes
