use Rattle.rgo_core_facts.proofs.ControlPasses.{start_shares as is}
use Rattle.rgo_core_facts.proofs.control.start_shares_regions.Goals as goal

pub returns : goal.returns
returns c = is
