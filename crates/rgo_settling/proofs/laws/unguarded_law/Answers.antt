use Rattle.rgo_settling.proofs.Steps.{unguarded_law}
use Rattle.rgo_settling.proofs.laws.unguarded_law.Goals as goal

pub returns : goal.returns
returns c = unguarded_law
