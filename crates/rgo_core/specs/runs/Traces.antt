-- Accesses in a row: the words after each of them, and the records at the end. It is a small simulator of the table, on which the laws'
-- words and records can be computed and compared by eye.
use Rattle.std.specs.Prelude.{◌==◌, ℕ, zero, suc, List, [], ◌∷◌, if◌then◌else◌, slice_index, slice_set}
use Rattle.rgo_core.specs.Records.{Record}

-- An access of a goroutine: the word, what it leaves there by what it finds, and what its record becomes.
pub record Step : Type 0 where
  pub by : ℕ
  pub word : ℕ
  pub leaves : ℕ → ℕ
  pub becomes : ℕ → Record → Record

abbrev pub changed_at : List Record → ℕ → (Record → Record) → List Record
changed_at [] g f = []
changed_at (c ∷ cs) zero f = f c ∷ cs
changed_at (c ∷ cs) (suc g) f = c ∷ changed_at cs g f

-- words and records after an access
abbrev pub words_after : Step → List ℕ → List ℕ
words_after s words = slice_set words s.word (s.leaves (slice_index words s.word))

abbrev pub records_after : Step → List ℕ → List Record → List Record
records_after s words recs = changed_at recs s.by (s.becomes (slice_index words s.word))

-- the words that are not 0, by their positions
abbrev pub filled_from : ℕ → List ℕ → List (ℕ × ℕ)
filled_from i [] = []
filled_from i (w ∷ ws) = if w == 0 then filled_from (suc i) ws else (i, w) ∷ filled_from (suc i) ws

abbrev pub filled : List ℕ → List (ℕ × ℕ)
filled words = filled_from 0 words

-- these words after each access
abbrev pub words_of_each : List Step → List ℕ → List (List (ℕ × ℕ))
words_of_each [] words = []
words_of_each (s ∷ steps) words = filled (words_after s words) ∷ words_of_each steps (words_after s words)

-- and the records after all
abbrev pub records_at_last : List Step → List ℕ → List Record → List Record
records_at_last [] words recs = recs
records_at_last (s ∷ steps) words recs = records_at_last steps (words_after s words) (records_after s words recs)
