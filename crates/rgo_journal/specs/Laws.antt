-- What holds of journals and replays.
use Rattle.std.specs.Prelude.{◌≡◌, ℕ, List, ◌++◌, length, map, All}
use Rattle.rgo_machine.specs.declared.picks.Pick.{Pick}
use Rattle.rgo_machine.specs.Runs.{Leads}
use Rattle.rgo_tac.specs.Code.{Tac}
use Rattle.rgo_tac.specs.Tac.{TacState, tac_start, tac_step}
use Rattle.rgo_journal.specs.declared.picks.TacPick.{TacPick}
use Rattle.rgo_journal.specs.declared.replays.ReplayEnd.{ReplayEnd}
use Rattle.rgo_journal.specs.declared.replays.ReplayEnd.TheVariants.{WriteFault, NoMemory}
use Rattle.rgo_journal.specs.Forms.{IsFirstBadJournalLine}
use Rattle.rgo_journal.specs.Picks.{journal_pick}
use Rattle.rgo_journal.specs.Replays.{ReplayEndsAs, TakesPicks}
use Rattle.rgo_journal.specs.Text.{PickFits, IsJournal, journal}

-- What was printed is read: a journal, whatever follows it, has its picks and no others, and no line of it lacks a form. So a text is
-- either read in one way or rejected at one line, and a journal determines its picks.
pub record ReadBack : Type 0 where
  pub is : (picks : List TacPick) (text : List ℕ) → All PickFits picks
      → IsJournal (journal picks ++ text) picks (length (journal picks))
  pub one : (bytes : List ℕ) (a b : List TacPick) (m n : ℕ) → IsJournal bytes a m → IsJournal bytes b n
      → (a ≡ b) × (m ≡ n)
  pub not_both : (bytes : List ℕ) (a : List TacPick) (n line : ℕ) → IsJournal bytes a n → IsFirstBadJournalLine bytes line → ⊥
  pub one_refusal : (bytes : List ℕ) (m n : ℕ) → IsFirstBadJournalLine bytes m → IsFirstBadJournalLine bytes n → m ≡ n

-- The picks of a run of the machine, as a journal has them, are taken with the same steps.
abbrev pub SameSteps : Type 0
SameSteps = (code : Tac) (picks : List Pick) (s : TacState) → Leads (tac_step code) (tac_start code) picks s
    → TakesPicks code (map journal_pick picks) s

-- an end that is neither a failed write nor an allocation failure, which may come at any pick
abbrev pub IsFaultlessEnd : ReplayEnd → Type 0
IsFaultlessEnd WriteFault = ⊥
IsFaultlessEnd NoMemory = ⊥
IsFaultlessEnd _ = Unit {0}

-- A replay of picks on code can end in one way only.
abbrev pub OneReplay : Type 0
OneReplay = (code : Tac) (picks : List TacPick) (a b : ReplayEnd) (s t : TacState) → IsFaultlessEnd a → IsFaultlessEnd b
    → ReplayEndsAs code picks s a → ReplayEndsAs code picks t b → (a ≡ b) × (s ≡ t)
