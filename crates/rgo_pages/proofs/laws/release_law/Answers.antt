use Rattle.rgo_pages.proofs.Moments.{release_law}
use Rattle.rgo_pages.proofs.laws.release_law.Goals as goal

pub returns : goal.returns
returns c = release_law
