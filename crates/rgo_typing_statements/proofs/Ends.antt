-- The write at the end of an assignment's operands.
use Rattle.std.proofs.Common.{◌≡◌, List, [], ◌∷◌, ◌++◌, refl, ap}
use Rattle.rgo_typed.specs.Tree.{Term, terms_of, a_term}
use Rattle.rgo_typing_statements.specs.TypedStatements.{with_last}

pub ended_terms : (l : List Term) (t : Term) → with_last (terms_of l) t ≡ terms_of (l ++ t ∷ [])
ended_terms [] t = refl
ended_terms (u ∷ l) t = ap (a_term u) (ended_terms l t)
