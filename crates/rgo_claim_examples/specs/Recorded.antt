-- A call of `record` that runs the program with one object, and outcomes that the claim of `record` excludes: without its journal, or
-- with a pick missing, a recording could not be replayed.
use Rattle.std.specs.Prelude.{◌≡◌, ℕ, false, List, [], codes, drop, replicate, Some}
use Rattle.rgo_command_line.specs.Commands.{command_of}
use Rattle.rgo_command_line.specs.Limits.{default_options}
use Rattle.rgo_command_line.specs.declared.commands.Command.TheVariants.{Record}
use Rattle.rgo_journal.specs.declared.picks.TacPick.{TacPick}
use Rattle.rgo_journal.specs.declared.picks.TacPick.TheVariants.{One}
use Rattle.rgo_journal.specs.Text.{journal}
use Rattle.rgo_run.specs.Calls.{Call, sink_use, source_use}
use Rattle.rgo_run.specs.RecordLaws.{LeavesJournal}
use Rattle.rgo_run.specs.Recorded.{RecordHeadline}
use Rattle.rgo_claim_examples.specs.Texts.{object_text}

-- its run has five instructions, all of `main`
abbrev pub picks : List TacPick
picks = replicate 5 (One 0)

-- a call with these words that read the text, printed the number, wrote this to `err` and returned 0
abbrev pub left_by : (words : List (List ℕ)) → (err : List ℕ) → Call
left_by words err = record {
  words = words;
  source = source_use (Some object_text) 0 0;
  out = sink_use (Some []) (Some (codes "0\n")) 0 0 false;
  err = sink_use (Some []) (Some err) 0 0 false;
  status = 0;
}

-- for words that ask for `record` without options
pub record ExamplesFor (words : List (List ℕ)) : Type 0 where
  pub recorded : RecordHeadline default_options (left_by words (journal picks))
  pub leaves : LeavesJournal (left_by words (journal picks)) object_text
  -- no journal
  pub silent : RecordHeadline default_options (left_by words []) → ⊥
  pub leaves_none : LeavesJournal (left_by words []) object_text → ⊥
  -- a journal that lacks the first pick
  pub lost : RecordHeadline default_options (left_by words (journal (drop 1 picks))) → ⊥

abbrev pub RecordExamples : Type 0
RecordExamples = (words : List (List ℕ)) → command_of words ≡ Some (Record default_options) → ExamplesFor words
