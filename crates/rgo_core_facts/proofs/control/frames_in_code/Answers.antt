use Rattle.rgo_core_facts.proofs.ControlFrames.{all_in_code as is}
use Rattle.rgo_core_facts.proofs.control.frames_in_code.Goals as goal

pub returns : goal.returns
returns c = is
