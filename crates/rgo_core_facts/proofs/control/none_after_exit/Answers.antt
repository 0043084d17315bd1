use Rattle.rgo_core_facts.proofs.ControlSteps.{none_after_exit as is}
use Rattle.rgo_core_facts.proofs.control.none_after_exit.Goals as goal

pub returns : goal.returns
returns c = is
