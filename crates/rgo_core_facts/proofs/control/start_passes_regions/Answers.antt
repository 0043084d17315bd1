use Rattle.rgo_core_facts.proofs.ControlPasses.{start_passes as is}
use Rattle.rgo_core_facts.proofs.control.start_passes_regions.Goals as goal

pub returns : goal.returns
returns c = is
