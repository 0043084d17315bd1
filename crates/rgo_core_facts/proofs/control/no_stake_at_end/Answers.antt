use Rattle.rgo_core_facts.proofs.ControlRegions.{no_stake_at_end as is}
use Rattle.rgo_core_facts.proofs.control.no_stake_at_end.Goals as goal

pub returns : goal.returns
returns c = is
