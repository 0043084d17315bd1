use Rattle.rgo_core_facts.proofs.ControlPrints.{operands_printed as is}
use Rattle.rgo_core_facts.proofs.control.operands_printed.Goals as goal

pub returns : goal.returns
returns c = is
