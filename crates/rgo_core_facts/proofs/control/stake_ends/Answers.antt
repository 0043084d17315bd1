use Rattle.rgo_core_facts.proofs.ControlRegions.{stake_ends as is}
use Rattle.rgo_core_facts.proofs.control.stake_ends.Goals as goal

pub returns : goal.returns
returns c = is
