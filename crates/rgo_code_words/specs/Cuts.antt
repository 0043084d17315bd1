-- Lines, cut into words.
use Rattle.std.specs.Prelude.{ℕ, zero, suc, ◌==◌, nat_lt, Bool, if◌then◌else◌, List, [], ◌∷◌, map, length, get_or}
use Rattle.std.specs.List.{position_or_len, before_first, after_first}
use denote.Ref.{Bor}

abbrev pub is_space : ℕ → Bool
is_space b = b == 32

-- A line, cut at its first n spaces. The last word is what is left of the line.
abbrev pub cut_line : ℕ → List ℕ → List (List ℕ)
cut_line zero line = line ∷ []
cut_line (suc n) line =
    if nat_lt (position_or_len is_space line) (length line)
    then before_first is_space line ∷ cut_line n (after_first is_space line)
    else line ∷ []

-- words as the code has them
abbrev pub nows : List (Bor (List ℕ)) → List (List ℕ)
nows words = map (λ word. word.now) words

-- the word of number n; words that do not exist are empty
abbrev pub nth_word : List (List ℕ) → ℕ → List ℕ
nth_word words n = get_or words n []
