-- The claim on a call of `record`: it runs a program as `run` does, notes its picks, and writes their journal to `err` before the
-- line of the ending.
use Rattle.std.specs.Prelude.{◌≡◌, ◌⊎◌, ℕ, Bool, true, false, List, [], take, All, None, Some}
use Rattle.std.specs.Io.KnownBytes.{append_known}
use Rattle.rgo_machine.specs.declared.limits.Shortage.{Shortage}
use Rattle.rgo_machine.specs.Deadlocks.{IsDeadlock}
use Rattle.rgo_tac.specs.Tac.{tac}
use Rattle.rgo_code.specs.Erasure.{erased}
use Rattle.rgo_machine.specs.declared.ends.RunEnd.{RunEnd}
use Rattle.rgo_machine.specs.declared.ends.RunEnd.TheVariants as run_end
use Rattle.rgo_journal.specs.declared.picks.TacPick.{TacPick}
use Rattle.rgo_journal.specs.Replays.{TakesPicks}
use Rattle.rgo_journal.specs.Text.{PickFits, journal}
use Rattle.rgo_command_line.specs.declared.commands.Command.TheVariants.{Record}
use Rattle.rgo_command_line.specs.declared.limits.RunOptions.{RunOptions}
use Rattle.rgo_run.specs.declared.endings.Ending.{Ending}
use Rattle.rgo_run.specs.declared.endings.Ending.TheVariants.{Ran, NoMemory}
use Rattle.rgo_run.specs.declared.endings.TextKind.TheVariants as text_kind
use Rattle.rgo_run.specs.Calls.{Call, SinkUse, Failed, SinkHadNoFault, SinkGrew, IsUntouched}
use Rattle.rgo_run.specs.Headline.{Headline}
use Rattle.rgo_run.specs.Reports.{Reports}
use Rattle.rgo_run.specs.Runs.{TextRunsTo}
use Rattle.rgo_run.specs.Texts.{FailsAs, IsTextOf}

-- a sink's use with these bytes counted as held before: what is said of it then is about the bytes that followed
abbrev pub rest : List ℕ → SinkUse → SinkUse
rest said sink = record sink { old = append_known sink.old said }

-- the call as it continues after these bytes were written to `err`
abbrev pub call_after : List ℕ → Call → Call
call_after said call = record call { err = rest said call.err }

-- A run of the text's program printed what `out` took, and the ending reports its end. Without regions the code has a run with
-- exactly these picks to the same state, and each pick can be written in a journal. If the run ended for want of room, the run
-- without regions could continue.
pub record Noted (options : RunOptions) (text : List ℕ) (ending : Ending) (out : SinkUse) (picks : List TacPick) : Type 0 where
  pub runs : TextRunsTo text_kind.Go options text ending out
  pub takes : TakesPicks (erased runs.runs.code) picks runs.runs.runs.state
  pub fit : All PickFits picks
  pub goes_on : (why : Shortage) → runs.run_end ≡ run_end.NoRoom why
      → IsDeadlock (tac (erased runs.runs.code)) runs.runs.runs.state → ⊥

-- the ending of a run in which memory ran out or a write failed
abbrev pub IsCutEnding : Ending → Type 0
IsCutEnding (Ran kind run_end.NoMemory stats) = Unit {0}
IsCutEnding (Ran kind run_end.WriteFault stats) = Unit {0}
IsCutEnding _ = ⊥

-- What is kept of a run by its end and its picks: its journal, or nothing if memory ran out or a write failed. If there was no
-- memory for the journal, the run counts as one that ran out of memory.
abbrev pub KeepsNotes : RunEnd → List TacPick → Ending → (bytes : List ℕ) → Type 0
KeepsNotes end picks ending bytes =
    ((ending ≡ Ran text_kind.Go end None) × ((bytes ≡ journal picks) ⊎ (IsCutEnding ending × (bytes ≡ []))))
    ⊎ ((end ≡ run_end.WriteFault → ⊥) × (ending ≡ Ran text_kind.Go run_end.NoMemory None) × (bytes ≡ []))

-- what is kept of the run of a text: its journal as above; or memory ran out before the run
abbrev pub KeepsJournal : RunOptions → (text : List ℕ) → Ending → (bytes : List ℕ) → SinkUse → Type 0
KeepsJournal options text ending bytes out =
    ((picks : List TacPick) × Noted options text ending out picks
    × ((bytes ≡ journal picks) ⊎ (IsCutEnding ending × (bytes ≡ []))))
    ⊎ ((ending ≡ NoMemory) × IsUntouched out × (bytes ≡ []))

-- these bytes were written, or the write failed
abbrev pub WritesJournal : Bool → (bytes : List ℕ) → SinkUse → Type 0
WritesJournal true bytes err = SinkGrew err bytes × SinkHadNoFault err
WritesJournal false bytes err = Failed err × (n : ℕ) × SinkGrew err (take n bytes)

-- these bytes were written, and then the line of the ending; or writing the bytes failed, and the status is 10
abbrev pub ReportsKept : (text : List ℕ) → Ending → (bytes : List ℕ) → (status : ℕ) → SinkUse → Type 0
ReportsKept text ending bytes status err =
    Reports text ending status (rest bytes err)
    ⊎ ((status ≡ 10) × Failed err × (n : ℕ) × SinkGrew err (take n bytes))

-- What `err` took of the journal of these picks: all of it; nothing, if memory ran out or a write to `out` failed; or a front part,
-- if writing it failed, and then the status is 10 and nothing follows.
pub data ReportsJournal (picks : List TacPick) (ending : Ending) (status : ℕ) (err : SinkUse) (said : List ℕ) : Type 0 where
  whole : said ≡ journal picks → ReportsJournal picks ending status err said
  nothing : IsCutEnding ending → said ≡ [] → ReportsJournal picks ending status err said
  part : status ≡ 10 → Failed err → (n : ℕ) → said ≡ take n (journal picks) → ReportsJournal picks ending status err said

-- the text was run, its journal was written, and then the line of its ending
pub record RecordsRun (options : RunOptions) (text : List ℕ) (status : ℕ) (out err : SinkUse) (said : List ℕ) : Type 0 where
  pub ending : Ending
  pub picks : List TacPick
  pub noted : Noted options text ending out picks
  pub says : ReportsJournal picks ending status err said
  pub reports : Reports text ending status (rest said err)

-- the text was rejected, or memory ran out before the run; that was reported, and `err` took no journal
pub record RefusesRun (text : List ℕ) (status : ℕ) (out err : SinkUse) (said : List ℕ) : Type 0 where
  pub ending : Ending
  pub fails : FailsAs text_kind.Go text ending
  pub untouched : IsUntouched out
  pub silent : said ≡ []
  pub reports : Reports text ending status err

-- what `record` does with a text that it has read
abbrev pub RecordsText : RunOptions → List ℕ → (status : ℕ) → (out err : SinkUse) → Type 0
RecordsText options text status out err =
    (said : List ℕ)
    × (RecordsRun options text status out err said ⊎ RefusesRun text status out err said)

-- a status that no run has
abbrev pub IsOfNoRun : ℕ → Type 0
IsOfNoRun status = (status ≡ 1) ⊎ ((status ≡ 9) ⊎ ((status ≡ 10) ⊎ (status ≡ 11)))

-- some text that agrees with what the source reports was run, and its journal written
pub record RecordedText (options : RunOptions) (call : Call) (said : List ℕ) : Type 0 where
  pub text : List ℕ
  pub is_text : IsTextOf (Some (Record options)) call.source.left text
  pub records : RecordsRun options text call.status call.out call.err said

-- All claims on a call of `run` hold for the call once what `err` took of the journal is set aside, and the journal is that of a run
-- with this ending.
pub record RecordHeadline (options : RunOptions) (call : Call) : Type 0 where
  pub said : List ℕ
  pub as_run : Headline (call_after said call)
  pub recorded : RecordedText options call said ⊎ (IsOfNoRun call.status × (said ≡ []))
