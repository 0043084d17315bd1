use Rattle.rgo_runtime.proofs.leaving.All.{leaving}
use Rattle.rgo_runtime.proofs.retiring.leaving_examples.Goals as goal

pub returns : goal.returns
returns c = leaving
