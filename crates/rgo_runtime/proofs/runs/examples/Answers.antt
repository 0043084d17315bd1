use Rattle.rgo_runtime.proofs.examples.Runs.{run_examples}
use Rattle.rgo_runtime.proofs.runs.examples.Goals as goal

pub returns : goal.returns
returns c = run_examples
