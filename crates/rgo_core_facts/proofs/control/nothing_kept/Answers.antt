use Rattle.rgo_core_facts.proofs.ControlRegions.{nothing_kept as is}
use Rattle.rgo_core_facts.proofs.control.nothing_kept.Goals as goal

pub returns : goal.returns
returns c = is
