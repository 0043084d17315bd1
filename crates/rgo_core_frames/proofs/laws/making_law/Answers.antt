use Rattle.rgo_core_frames.proofs.regions.Making.{making_law}
use Rattle.rgo_core_frames.proofs.laws.making_law.Goals as goal

pub returns : goal.returns
returns c = making_law
