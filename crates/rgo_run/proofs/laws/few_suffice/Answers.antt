use Rattle.rgo_run.proofs.Sufficing as sufficing
use Rattle.rgo_run.proofs.laws.few_suffice.Goals as goal

pub returns : goal.returns
returns c = sufficing.few_suffice
