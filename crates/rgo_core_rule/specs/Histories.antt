-- Histories: the accesses to a table's words, in the order in which they were made.
use Rattle.std.specs.Prelude.{◌≡◌, ◌==◌, ℕ, Bool, false, List, [], ◌∷◌, Option, Some, None, slice_index, slice_set, count_by}
use Rattle.rgo_core_rule.specs.declared.accesses.Access.{Access}
use Rattle.rgo_core_rule.specs.declared.accesses.Kind.{Kind}

-- an access by goroutine g
abbrev pub access : ℕ → Kind → (word found left : ℕ) → Access
access g kind word found left = record { by = Some g; kind = kind; word = word; found = found; left = left }

-- a load of word 0 that no goroutine's record counts
abbrev pub glance : Kind → ℕ → Access
glance kind found = record { by = None; kind = kind; word = 0; found = found; left = found }

-- the words after these accesses
abbrev pub replay : List ℕ → List Access → List ℕ
replay words [] = words
replay words (a ∷ history) = replay (slice_set words a.word a.left) history

-- each access found what the word held when it was made
abbrev pub Sound : List ℕ → List Access → Type 0
Sound words [] = Unit {0}
Sound words (a ∷ history) = (a.found ≡ slice_index words a.word) × Sound (slice_set words a.word a.left) history

abbrev pub is_number : ℕ → Option ℕ → Bool
is_number g None = false
is_number g (Some h) = h == g

-- how many of the accesses goroutine g made
abbrev pub accesses_by : ℕ → List Access → ℕ
accesses_by g history = count_by (λ (a : Access). is_number g a.by) history
