use Rattle.rgo_core_facts.proofs.ControlRegions.{regions_known as is}
use Rattle.rgo_core_facts.proofs.control.regions_known.Goals as goal

pub returns : goal.returns
returns c = is
