use Rattle.rgo_run.proofs.OneCompiled as compiled
use Rattle.rgo_run.proofs.laws.one_compiled.Goals as goal

pub returns : goal.returns
returns c = compiled.one_compiled
