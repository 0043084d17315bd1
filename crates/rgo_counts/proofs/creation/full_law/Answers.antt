use Rattle.rgo_counts.proofs.Vain.{full_law}
use Rattle.rgo_counts.proofs.creation.full_law.Goals as goal

pub returns : goal.returns
returns c = full_law
