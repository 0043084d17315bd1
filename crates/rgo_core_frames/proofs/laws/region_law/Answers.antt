use Rattle.rgo_core_frames.proofs.regions.Making.{region_law}
use Rattle.rgo_core_frames.proofs.laws.region_law.Goals as goal

pub returns : goal.returns
returns c = region_law
