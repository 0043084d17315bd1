use Rattle.rgo_core_facts.proofs.ControlFrames.{next_known as is}
use Rattle.rgo_core_facts.proofs.control.next_known.Goals as goal

pub returns : goal.returns
returns c = is
