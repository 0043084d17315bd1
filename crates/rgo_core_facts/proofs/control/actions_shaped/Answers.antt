use Rattle.rgo_core_facts.proofs.ControlShapes.{actions_shaped as is}
use Rattle.rgo_core_facts.proofs.control.actions_shaped.Goals as goal

pub returns : goal.returns
returns c = is
