use Rattle.rgo_settling.proofs.Steps.{run_law}
use Rattle.rgo_settling.proofs.laws.run_law.Goals as goal

pub returns : goal.returns
returns c = run_law
