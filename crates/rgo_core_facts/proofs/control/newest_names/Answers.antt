use Rattle.rgo_core_facts.proofs.ControlRegions.{newest_names as is}
use Rattle.rgo_core_facts.proofs.control.newest_names.Goals as goal

pub returns : goal.returns
returns c = is
