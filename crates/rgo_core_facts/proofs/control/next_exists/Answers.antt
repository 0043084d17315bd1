use Rattle.rgo_core_facts.proofs.ControlCode.{next_exists as is}
use Rattle.rgo_core_facts.proofs.control.next_exists.Goals as goal

pub returns : goal.returns
returns c = is
