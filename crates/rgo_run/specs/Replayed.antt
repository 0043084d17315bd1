-- The claim on a call of `replay`: it reads a journal and the text after it, and takes the journal's picks in a run of the text's
-- three-address code.
use Rattle.std.specs.Prelude.{◌≡◌, ◌⊎◌, ◌+◌, ◌≤◌, ◌<◌, ℕ, List, [], drop, length, IfSome, codes}
use Rattle.rgo_machine.specs.declared.picks.End.TheVariants as the_end
use Rattle.rgo_machine.specs.declared.ends.RunEnd.TheVariants as run_end
use Rattle.rgo_tac.specs.Code.{Tac}
use Rattle.rgo_command_line.specs.declared.commands.Command.TheVariants.{Record, Replay}
use Rattle.rgo_command_line.specs.declared.limits.RunOptions.{RunOptions}
use Rattle.rgo_journal.specs.declared.errors.PicksError.{PicksError}
use Rattle.rgo_journal.specs.declared.errors.PicksError.TheVariants as picks_error
use Rattle.rgo_journal.specs.declared.picks.TacPick.{TacPick}
use Rattle.rgo_journal.specs.declared.replays.ReplayEnd.{ReplayEnd}
use Rattle.rgo_journal.specs.declared.replays.ReplayEnd.TheVariants as replay_end
use Rattle.rgo_journal.specs.Forms.{IsFirstBadJournalLine}
use Rattle.rgo_journal.specs.Replays.{Replays}
use Rattle.rgo_journal.specs.Text.{IsJournal}
use Rattle.rgo_run.specs.declared.endings.Ending.{Ending}
use Rattle.rgo_run.specs.declared.endings.Ending.TheVariants as the_ending
use Rattle.rgo_run.specs.declared.refusals.CodeTextRefusal.TheVariants as code_refusal
use Rattle.rgo_run.specs.declared.endings.TextKind.TheVariants as text_kind
use Rattle.rgo_run.specs.declared.replaying.ReplayEnding.{ReplayEnding}
use Rattle.rgo_run.specs.declared.replaying.ReplayEnding.TheVariants.{NoJournal, Replayed, Other}
use Rattle.rgo_run.specs.Calls.{AsksForCommand, Call, SinkUse, SourceFailed, SourceHadNoFault, Failed, SinkHadNoFault, IsUntouched}
use Rattle.rgo_run.specs.CodeVerdicts.{code_limit}
use Rattle.rgo_run.specs.Endings.{line_of, line_of_run, numbered_line, status_of, status_of_run}
use Rattle.rgo_run.specs.Headline.{Faults, Headline}
use Rattle.rgo_run.specs.Recorded.{RecordHeadline}
use Rattle.rgo_run.specs.Reports.{LineHasNumber, WritesLine}
use Rattle.rgo_run.specs.Runs.{IsCodeOf}
use Rattle.rgo_run.specs.Verdicts.{Refused}

-- ---- the status of each ending, and its line on `err`

-- An end that runs have, too, has the same status as there. It is 13 if the picks ended before the run, and 1 if a pick had no step.
abbrev pub status_of_end : ReplayEnd → ℕ
status_of_end (replay_end.Ended end) = status_of_run (run_end.Ended end)
status_of_end replay_end.Deadlock = status_of_run run_end.Deadlock
status_of_end replay_end.Unfinished = 13
status_of_end (replay_end.Foreign index) = 1
status_of_end replay_end.WriteFault = status_of_run run_end.WriteFault
status_of_end replay_end.NoMemory = status_of_run run_end.NoMemory

-- a malformed line of the journal has the status of a rejected text
abbrev pub status_of_replay : ReplayEnding → ℕ
status_of_replay (NoJournal line) = 1
status_of_replay (Replayed end) = status_of_end end
status_of_replay (Other ending) = status_of ending

-- The pick with number `index`, from 0, is in line `index + 2` of its journal, since line 1 is the journal's head. A trap is at a
-- place of the text.
abbrev pub line_of_end : List ℕ → ReplayEnd → List ℕ
line_of_end text (replay_end.Ended end) = line_of_run text_kind.Go text (run_end.Ended end)
line_of_end text replay_end.Deadlock = line_of_run text_kind.Go text run_end.Deadlock
line_of_end text replay_end.Unfinished = codes "rgo: replay unfinished\n"
line_of_end text (replay_end.Foreign index) = numbered_line (index + 2) (codes "pick\n")
line_of_end text replay_end.WriteFault = line_of_run text_kind.Go text run_end.WriteFault
line_of_end text replay_end.NoMemory = line_of_run text_kind.Go text run_end.NoMemory

-- the number of a malformed line counts the lines of the journal, from 1
abbrev pub line_of_replay : List ℕ → ReplayEnding → List ℕ
line_of_replay text (NoJournal line) = numbered_line line (codes "picks text\n")
line_of_replay text (Replayed end) = line_of_end text end
line_of_replay text (Other ending) = line_of text ending

-- an ending whose line contains numbers, so that it needs memory
abbrev pub ReplayLineHasNumber : ReplayEnding → Type 0
ReplayLineHasNumber (NoJournal line) = Unit {0}
ReplayLineHasNumber (Replayed (replay_end.Ended (the_end.Trap trap at))) = Unit {0}
ReplayLineHasNumber (Replayed (replay_end.Foreign index)) = Unit {0}
ReplayLineHasNumber (Replayed _) = ⊥
ReplayLineHasNumber (Other ending) = LineHasNumber ending

-- the line of the ending was written, or on allocation failure for it, that memory ran out
abbrev pub ReportsReplay : List ℕ → ReplayEnding → ℕ → SinkUse → Type 0
ReportsReplay text ending answer err =
    WritesLine (line_of_replay text ending) (status_of_replay ending) answer err
    ⊎ (ReplayLineHasNumber ending × WritesLine (line_of [] the_ending.NoMemory) 11 answer err)

-- ---- what each ending implies

-- the bytes are the journal of these picks, followed by this text
pub record IsSplit (bytes : List ℕ) (picks : List TacPick) (text : List ℕ) : Type 0 where
  pub n : ℕ
  pub journal : IsJournal bytes picks n
  pub rest : text ≡ drop n bytes

-- the picks were replayed on the code of the text's program with this end, and `out` took what the picks that were taken print
pub record ReplaysTo (picks : List TacPick) (text : List ℕ) (end : ReplayEnd) (out : SinkUse) : Type 0 where
  pub code : Tac
  pub is_code : IsCodeOf text code
  pub replays : Replays code picks end out.old out.new
  pub failed : end ≡ replay_end.WriteFault → Failed out
  pub held : (end ≡ replay_end.WriteFault → ⊥) → SinkHadNoFault out

abbrev pub error_of : PicksError → ReplayEnding
error_of (picks_error.Refused refusal) = NoJournal refusal.line
error_of picks_error.NoMemory = Other the_ending.NoMemory

-- nothing was replayed, since the text after the journal is rejected, or since memory ran out
abbrev pub NotReplayed : (bytes text : List ℕ) → Ending → Type 0
NotReplayed bytes text the_ending.NoMemory = Unit {0}
NotReplayed bytes text (the_ending.Refused why) = (picks : List TacPick) × IsSplit bytes picks text × Refused text why
NotReplayed bytes text _ = ⊥

-- what the ending of a call that has read these bytes implies, and what it wrote to `out`; `text` is what follows the journal, if
-- the bytes begin with one
abbrev pub EndsOn : (bytes text : List ℕ) → ReplayEnding → SinkUse → Type 0
EndsOn bytes text (NoJournal line) out = IsFirstBadJournalLine bytes line × IsUntouched out
EndsOn bytes text (Replayed end) out = (picks : List TacPick) × IsSplit bytes picks text × ReplaysTo picks text end out
EndsOn bytes text (Other ending) out = NotReplayed bytes text ending × IsUntouched out

-- these bytes were replayed or rejected, and the ending was reported; its places are those of the text after the journal
pub record ReplaysBytes (bytes : List ℕ) (out err : SinkUse) (status : ℕ) : Type 0 where
  pub text : List ℕ
  pub ending : ReplayEnding
  pub ends : EndsOn bytes text ending out
  pub told : ReportsReplay text ending status err

-- ---- the claim

-- the bytes are what the source had left, if it reports that, and are within the limit of a code text
pub record IsReadWhole (call : Call) (bytes : List ℕ) : Type 0 where
  pub is_left : IfSome call.source.left (λ left. bytes ≡ left)
  pub within : length bytes ≤ code_limit
  pub held : SourceHadNoFault call.source

-- the ending if no bytes were read, by its reason
abbrev pub ReadsNothing : Call → (bytes : List ℕ) → ReplayEnding → Type 0
ReadsNothing call bytes (Other the_ending.ReadFault) = SourceFailed call.source
ReadsNothing call bytes (Other (the_ending.CodeRefused code_refusal.TooLong)) =
    IfSome call.source.left (λ left. bytes ≡ left) × (code_limit < length bytes) × SourceHadNoFault call.source
ReadsNothing call bytes (Other the_ending.NoMemory) = SourceHadNoFault call.source
ReadsNothing call bytes _ = ⊥

-- Some bytes that agree with what the source reports were replayed or rejected, or nothing was read; the ending is reported.
pub record ReplayHeadline (call : Call) : Type 0 where
  pub bytes : List ℕ
  pub text : List ℕ
  pub ending : ReplayEnding
  pub cause : (IsReadWhole call bytes × EndsOn bytes text ending call.out)
      ⊎ (ReadsNothing call bytes ending × IsUntouched call.out)
  pub told : ReportsReplay text ending call.status call.err
  pub faults : Faults call

-- the claim on a call, by whether its words ask for `replay`, for `record`, or for neither
abbrev pub Claim : Call → Type 0
Claim call =
    (AsksForCommand call Replay × ReplayHeadline call)
    ⊎ (((options : RunOptions) × AsksForCommand call (Record options) × RecordHeadline options call)
    ⊎ ((AsksForCommand call Replay → ⊥) × ((options : RunOptions) → AsksForCommand call (Record options) → ⊥) × Headline call))
