use Rattle.rgo_claim_examples.proofs.RegionRuns.{region_run_examples}
use Rattle.rgo_claim_examples.proofs.laws.region_run_examples.Goals as goal

pub returns : goal.returns
returns g = region_run_examples
