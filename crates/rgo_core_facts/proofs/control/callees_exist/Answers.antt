use Rattle.rgo_core_facts.proofs.ControlCode.{callees_exist as is}
use Rattle.rgo_core_facts.proofs.control.callees_exist.Goals as goal

pub returns : goal.returns
returns c = is
