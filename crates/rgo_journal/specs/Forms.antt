-- The first line that has no form in a journal. What is rejected is defined as fully as what is read, so that a refusal is a claim, too.
use Rattle.std.specs.Prelude.{◌≡◌, ◌⊎◌, ◌+◌, ℕ, List, ◌++◌, length, All, ⊤}
use Rattle.rgo_journal.specs.declared.errors.PicksError.{PicksError}
use Rattle.rgo_journal.specs.declared.errors.PicksError.TheVariants as error
use Rattle.rgo_journal.specs.declared.picks.TacPick.{TacPick}
use Rattle.rgo_journal.specs.Text.{PickFits, first_line, last_line, pick_line, pick_lines}

-- the bytes begin with this line
abbrev pub StartWith : List ℕ → List ℕ → Type 0
StartWith bytes line = (more : List ℕ) × (bytes ≡ line ++ more)

-- the first line of the bytes is not that of a journal
abbrev pub HasNoFirst : List ℕ → Type 0
HasNoFirst bytes = StartWith bytes first_line → ⊥

-- This line, not the first, is neither that of a pick nor the last of a journal, and those before it begin a journal. It has
-- no form where its newline is missing, and where it is what follows the last newline, which may be nothing.
pub record HasNoPick (bytes : List ℕ) (line : ℕ) : Type 0 where
  pub before : List TacPick
  pub tail : List ℕ
  pub fit : All PickFits before
  pub cut : bytes ≡ first_line ++ (pick_lines before ++ tail)
  pub number : line ≡ length before + 2
  pub no_pick : (p : TacPick) → PickFits p → StartWith tail (pick_line p) → ⊥
  pub no_last : StartWith tail last_line → ⊥

-- lines are counted from 1
abbrev pub IsFirstBadJournalLine : List ℕ → ℕ → Type 0
IsFirstBadJournalLine bytes line = ((line ≡ 1) × HasNoFirst bytes) ⊎ HasNoPick bytes line

-- why the bytes do not begin with a journal, unless memory ran out
abbrev pub RefusesJournal : List ℕ → PicksError → Type 0
RefusesJournal bytes error.NoMemory = ⊤
RefusesJournal bytes (error.Refused refusal) = IsFirstBadJournalLine bytes refusal.line
