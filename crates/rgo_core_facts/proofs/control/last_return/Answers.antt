use Rattle.rgo_core_facts.proofs.ControlFrames.{last_return as is}
use Rattle.rgo_core_facts.proofs.control.last_return.Goals as goal

pub returns : goal.returns
returns c = is
