use Rattle.rgo_run.proofs.Accepting as accepting
use Rattle.rgo_run.proofs.laws.emitted_passes.Goals as goal

pub returns : goal.returns
returns c = accepting.emitted_passes
