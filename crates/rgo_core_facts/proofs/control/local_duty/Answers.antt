use Rattle.rgo_core_facts.proofs.ControlSteps.{local_duty_steps as is}
use Rattle.rgo_core_facts.proofs.control.local_duty.Goals as goal

pub returns : goal.returns
returns c = is
