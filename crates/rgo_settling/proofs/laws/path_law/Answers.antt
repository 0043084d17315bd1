use Rattle.rgo_settling.proofs.Steps.{path_law}
use Rattle.rgo_settling.proofs.laws.path_law.Goals as goal

pub returns : goal.returns
returns c = path_law
