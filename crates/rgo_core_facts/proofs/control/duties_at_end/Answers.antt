use Rattle.rgo_core_facts.proofs.ControlDuties.{duties_at_end as is}
use Rattle.rgo_core_facts.proofs.control.duties_at_end.Goals as goal

pub returns : goal.returns
returns c = is
