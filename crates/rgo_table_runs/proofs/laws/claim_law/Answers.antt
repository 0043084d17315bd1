use Rattle.rgo_table_runs.proofs.claims.Claimed.{gives_claim}
use Rattle.rgo_table_runs.proofs.laws.claim_law.Goals as goal

pub returns : goal.returns
returns c = gives_claim
