use Rattle.rgo_core_facts.proofs.ControlFrames.{callers_wait as is}
use Rattle.rgo_core_facts.proofs.control.callers_wait.Goals as goal

pub returns : goal.returns
returns c = is
