use Rattle.rgo_core_frames.proofs.regions.Reserving.{reserved_law}
use Rattle.rgo_core_frames.proofs.laws.reserved_law.Goals as goal

pub returns : goal.returns
returns c = reserved_law
