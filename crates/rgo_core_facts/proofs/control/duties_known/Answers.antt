use Rattle.rgo_core_facts.proofs.ControlDuties.{duties_known as is}
use Rattle.rgo_core_facts.proofs.control.duties_known.Goals as goal

pub returns : goal.returns
returns c = is
