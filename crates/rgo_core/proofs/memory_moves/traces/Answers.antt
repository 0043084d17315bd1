use Rattle.rgo_core.proofs.runs.Traces.{trace_examples}
use Rattle.rgo_core.proofs.memory_moves.traces.Goals as goal

pub returns : goal.returns
returns c = trace_examples
