use Rattle.rgo_runtime.proofs.examples.Passes.{passing}
use Rattle.rgo_runtime.proofs.deadlock.examples.Goals as goal

pub returns : goal.returns
returns c = passing
