-- The numbers of names: where each is first among the names of its kind.
use Rattle.std.specs.Prelude.{ℕ, nat_lt, if◌then◌else◌, List, [], ◌∷◌, ◌++◌, length, Option, Some, None}
use Rattle.rgo_code_text.specs.Written.{number_of_name}
use Rattle.rgo_code_words.specs.Worded.{is_among}

-- the number of a name, if it is among the names; `number_of_name` has the length of the list for others
abbrev pub number_if_known : List (List ℕ) → List ℕ → Option ℕ
number_if_known names name = if nat_lt (number_of_name names name) (length names) then Some (number_of_name names name) else None

-- one more name, unless it is among them
abbrev pub with_name : List (List ℕ) → List ℕ → List (List ℕ)
with_name names name = if is_among names name then names else names ++ name ∷ []
