use Rattle.rgo_core_rule.proofs.Passes as passes
use Rattle.rgo_core_rule.proofs.laws.nobody_ahead.Goals as goal

pub returns : goal.returns
returns c = passes.nobody_ahead
