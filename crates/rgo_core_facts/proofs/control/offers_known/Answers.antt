use Rattle.rgo_core_facts.proofs.ControlFrames.{offers_known as is}
use Rattle.rgo_core_facts.proofs.control.offers_known.Goals as goal

pub returns : goal.returns
returns c = is
