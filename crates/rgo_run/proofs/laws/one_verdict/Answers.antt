use Rattle.rgo_run.proofs.VerdictLemmas as verdicts
use Rattle.rgo_run.proofs.laws.one_verdict.Goals as goal

pub returns : goal.returns
returns c = verdicts.one_verdict
