use Rattle.rgo_run.proofs.CodeVerdictLemmas.{one_code_verdict}
use Rattle.rgo_run.proofs.laws.one_code_verdict.Goals as goal

pub returns : goal.returns
returns c = one_code_verdict
