use Rattle.rgo_core_facts.proofs.ControlCode.{results_returned as is}
use Rattle.rgo_core_facts.proofs.control.results_returned.Goals as goal

pub returns : goal.returns
returns c = is
