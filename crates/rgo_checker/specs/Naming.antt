-- The set of the names so far. It is known by its members only, since the order in which a hash set keeps them says nothing.
use Rattle.std.specs.Prelude.{ℕ, List, [], ◌∷◌, ◌++◌, map, Bool, Contains, bytes_eq}
use Rattle.std.specs.Bool.{Decides}
use Rattle.std.specs.HashSet.{HashSet, contains_by}
use Rattle.rgo_code.specs.Code.{Code}
use Rattle.rgo_code.specs.Erasure.{erased}
use denote.Ref.{Bor}

-- the set has these names
abbrev pub SetHasNames : {S : Type 0} → HashSet (Bor (List ℕ)) S → List (List ℕ) → Type 0
SetHasNames names seen = (q : List ℕ) → Decides (contains_by (λ k. bytes_eq q k.now) names) (Contains seen q)

-- one name more, and whether it is new
pub record AddsToNames {S : Type 0} (old : HashSet (Bor (List ℕ)) S) (name : List ℕ) (fresh : Bool)
    (new : HashSet (Bor (List ℕ)) S) : Type 0 where
  pub is_new : (seen : List (List ℕ)) → SetHasNames old seen → Decides fresh (Contains seen name → ⊥)
  pub names : (seen : List (List ℕ)) → SetHasNames old seen → SetHasNames new (seen ++ name ∷ [])

-- the names of the functions
abbrev pub fn_names : Code → List (List ℕ)
fn_names code = map (λ f. f.name) (erased code).functions
