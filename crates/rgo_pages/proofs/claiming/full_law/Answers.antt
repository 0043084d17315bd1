use Rattle.rgo_pages.proofs.Vain.{full_law}
use Rattle.rgo_pages.proofs.claiming.full_law.Goals as goal

pub returns : goal.returns
returns c = full_law
