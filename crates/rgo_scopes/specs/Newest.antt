-- What the map of the newest declarations says of a name, and what an insertion changes. Contracts speak of look-ups alone: the order
-- of a map's entries says nothing.
use Rattle.std.specs.Prelude.{◌≡◌, ℕ, List, Option, None, Some, bytes_eq, if◌then◌else◌}
use Rattle.std.specs.Borrow.{Bor}
use Rattle.rgo_scopes.specs.declared.newest.Seen.{Seen}
use Rattle.indexmap.specs.IndexMap.{IndexMap, get_by}

-- a name without an entry means nothing, as does one that was declared and is out of scope
abbrev pub flat : {T : Type 0} → Option (Option (Seen T)) → Option (Seen T)
flat None = None
flat (Some seen) = seen

-- each name that was ever declared, with its newest declaration that is still in scope, if any
abbrev pub Newest : Type 0 → Type 0 → Type 0
Newest T S = IndexMap (Bor (List ℕ)) (Option (Seen T)) S

module _ {T S : Type 0} where
  -- what a name means
  abbrev pub noted_meaning : Newest T S → List ℕ → Option (Seen T)
  noted_meaning m name = flat (get_by (λ k. bytes_eq name k.now) m)

  -- the name means this, and others what they did
  abbrev pub Notes : Newest T S → List ℕ → Option (Seen T) → Newest T S → Type 0
  Notes old name seen new =
      (q : List ℕ) → noted_meaning new q ≡ (if bytes_eq name q then seen else noted_meaning old q)
