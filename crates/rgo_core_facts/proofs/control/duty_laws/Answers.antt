use Rattle.rgo_core_facts.proofs.ControlSteps.{duty_laws as is}
use Rattle.rgo_core_facts.proofs.control.duty_laws.Goals as goal

pub returns : goal.returns
returns c = is
