use Rattle.rgo_core_facts.proofs.ControlCode.{bodies_begin as is}
use Rattle.rgo_core_facts.proofs.control.bodies_begin.Goals as goal

pub returns : goal.returns
returns c = is
