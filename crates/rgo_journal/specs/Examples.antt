-- Journals, and texts that are not journals.
use Rattle.std.specs.Prelude.{◌≡◌, ◌^◌, [], ◌∷◌, codes}
use Rattle.rgo_journal.specs.declared.picks.TacPick.TheVariants.{One, Meet, Case, CaseMeet}
use Rattle.rgo_journal.specs.Forms.{IsFirstBadJournalLine}
use Rattle.rgo_journal.specs.Text.{PickFits, IsJournal, journal}

pub record JournalExamples : Type 0 where
  pub empty : journal [] ≡ codes "rgo picks 1\ntext\n"
  pub all : journal (One 0 ∷ Meet 10 2 ∷ Case 3 0 ∷ CaseMeet 4 1 5 ∷ [])
      ≡ codes "rgo picks 1\none 0\nmeet 10 2\ncase 3 0\ncasemeet 4 1 5\ntext\n"
  pub read : IsJournal (codes "rgo picks 1\none 0\ntext\npackage main\n") (One 0 ∷ []) 23
  -- the last line ends in a newline, too
  pub open_end : IsJournal (codes "rgo picks 1\none 0\ntext") (One 0 ∷ []) 22 → ⊥
  -- a number has 32 bits
  pub large : PickFits (One (2 ^ 32)) → ⊥
  pub no_first : IsFirstBadJournalLine (codes "rgo picks 2\ntext\n") 1
  pub nothing : IsFirstBadJournalLine [] 1
  -- the text ends before the last line
  pub early : IsFirstBadJournalLine (codes "rgo picks 1\none 0\n") 3
  -- the first line has a form
  pub later : IsFirstBadJournalLine (codes "rgo picks 1\none 00\ntext\n") 1 → ⊥
