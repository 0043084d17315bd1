use Rattle.rgo_stack.proofs.Lookups as made
use Rattle.rgo_stack.proofs.laws.places_law.Goals as goal

pub returns : goal.returns
returns c = made.places
