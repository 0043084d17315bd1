-- The text of a journal: a first line, a line for each pick, and a last line. What follows is not part of it: the program, so that a run is
-- one file.
use Rattle.std.specs.Prelude.{◌≡◌, ◌≤◌, ℕ, List, ◌++◌, length, take, All, codes, decimal}
use Rattle.std.specs.List.{flat_map}
use Rattle.rgo_code_words.specs.Worded.{IsSmallNumber}
use Rattle.rgo_journal.specs.declared.picks.TacPick.{TacPick}
use Rattle.rgo_journal.specs.declared.picks.TacPick.TheVariants.{One, Meet, Case, CaseMeet}

-- each number of the pick has 32 bits, so a reader needs no others
abbrev pub PickFits : TacPick → Type 0
PickFits (One g) = IsSmallNumber g
PickFits (Meet r s) = IsSmallNumber r × IsSmallNumber s
PickFits (Case g k) = IsSmallNumber g × IsSmallNumber k
PickFits (CaseMeet g k s) = IsSmallNumber g × IsSmallNumber k × IsSmallNumber s

-- its line, with the newline
abbrev pub pick_line : TacPick → List ℕ
pick_line (One g) = codes "one " ++ (decimal g ++ codes "\n")
pick_line (Meet r s) = codes "meet " ++ (decimal r ++ (codes " " ++ (decimal s ++ codes "\n")))
pick_line (Case g k) = codes "case " ++ (decimal g ++ (codes " " ++ (decimal k ++ codes "\n")))
pick_line (CaseMeet g k s) =
    codes "casemeet " ++ (decimal g ++ (codes " " ++ (decimal k ++ (codes " " ++ (decimal s ++ codes "\n")))))

-- the lines of these picks, one after another
abbrev pub pick_lines : List TacPick → List ℕ
pick_lines picks = flat_map pick_line picks

-- identifies the format, and its version 1
abbrev pub first_line : List ℕ
first_line = codes "rgo picks 1\n"

-- the end of the picks: in a file, the text of the program follows
abbrev pub last_line : List ℕ
last_line = codes "text\n"

-- the journal of these picks
abbrev pub journal : List TacPick → List ℕ
journal picks = first_line ++ (pick_lines picks ++ last_line)

-- the first n of these bytes are the journal of these picks
pub record IsJournal (bytes : List ℕ) (picks : List TacPick) (n : ℕ) : Type 0 where
  pub fit : All PickFits picks
  pub within : n ≤ length bytes
  pub text_is : take n bytes ≡ journal picks
