-- Numbers in order, and how many terms there are.
use Rattle.std.proofs.Common.{◌≡◌, ◌+◌, ◌++◌, ℕ, suc, List, [], ◌∷◌, map, length, refl, ap, arith}
use Rattle.rgo_typed.specs.declared.terms.Term.{Term as CodeTerm}
use Rattle.rgo_typed.specs.Tree.{terms_of}
use Rattle.rgo_typed.specs.Views.{term_of}
use Rattle.rgo_typing_expressions.specs.Terms.{first_numbers, number_of_terms}

pub more_numbers : (n : ℕ) → first_numbers (n + 1) ≡ first_numbers n ++ n ∷ []
more_numbers n = let more : n + 1 ≡ suc n = omega arith in ap first_numbers more

pub counted : (l : List CodeTerm) → number_of_terms (terms_of (map term_of l)) ≡ length l
counted [] = refl
counted (t ∷ l) = ap suc (counted l)

pub ruleset numbers = (more_numbers, counted)
