-- How many terms there are.
use Rattle.std.proofs.Common.{◌≡◌, List, [], ◌∷◌, map, length, suc, refl, ap}
use Rattle.rgo_typed.specs.declared.terms.Term.{Term as CodeTerm}
use Rattle.rgo_typed.specs.Tree.{terms_of}
use Rattle.rgo_typed.specs.Views.{term_of}
use Rattle.rgo_meaning.specs.Todos.{term_count}

pub counted : (l : List CodeTerm) → term_count (terms_of (map term_of l)) ≡ length l
counted [] = refl
counted (t ∷ l) = ap suc (counted l)
