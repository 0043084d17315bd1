use Rattle.rgo_core_facts.proofs.ControlCode.{variables_exist as is}
use Rattle.rgo_core_facts.proofs.control.variables_exist.Goals as goal

pub returns : goal.returns
returns c = is
