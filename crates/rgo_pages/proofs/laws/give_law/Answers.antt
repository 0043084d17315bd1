use Rattle.rgo_pages.proofs.Giving as lemmas
use Rattle.rgo_pages.proofs.laws.give_law.Goals as goal

pub returns : goal.returns
returns c = lemmas.give_law
