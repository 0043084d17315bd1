use Rattle.rgo_claim_examples.proofs.ProgramsSuffice.{programs_suffice}
use Rattle.rgo_claim_examples.proofs.laws.programs_suffice.Goals as goal

pub returns : goal.returns
returns g = programs_suffice
