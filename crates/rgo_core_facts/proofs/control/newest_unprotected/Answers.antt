use Rattle.rgo_core_facts.proofs.ControlPasses.{newest_unprotected as is}
use Rattle.rgo_core_facts.proofs.control.newest_unprotected.Goals as goal

pub returns : goal.returns
returns c = is
