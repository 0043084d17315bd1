use Rattle.rgo_core_facts.proofs.ControlPasses.{call_passes as is}
use Rattle.rgo_core_facts.proofs.control.call_passes_regions.Goals as goal

pub returns : goal.returns
returns c = is
