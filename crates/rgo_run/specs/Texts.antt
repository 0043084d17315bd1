-- What reading, checking and running a text do, by the ending, before it is reported. Headline.antt is assembled from these.
use Rattle.std.specs.Prelude.{◌≡◌, ◌⊎◌, ◌≤◌, List, ℕ, None, Some, Option, IfSome, length}
use Rattle.rgo_command_line.specs.declared.commands.Command.{Command}
use Rattle.rgo_command_line.specs.declared.commands.Command.TheVariants.{Run, Check, Emit, Code, Big, Record, Replay, RunCode}
use Rattle.rgo_command_line.specs.Commands.{command_of}
use Rattle.rgo_command_line.specs.Limits.{default_options}
use Rattle.rgo_command_line.specs.declared.limits.RunOptions.{RunOptions}
use Rattle.rgo_big.specs.Big.{big_text}
use Rattle.rgo_run.specs.declared.endings.TextKind.{TextKind}
use Rattle.rgo_run.specs.declared.endings.TextKind.TheVariants as text_kind
use Rattle.rgo_run.specs.declared.endings.Ending.{Ending}
use Rattle.rgo_run.specs.declared.endings.Ending.TheVariants as the_ending
use Rattle.rgo_run.specs.declared.refusals.CodeTextError.{CodeTextError}
use Rattle.rgo_run.specs.declared.refusals.CodeTextError.TheVariants as code_error
use Rattle.rgo_run.specs.declared.refusals.CodeTextRefusal.TheVariants as code_refusal
use Rattle.rgo_run.specs.declared.refusals.TextError.{TextError}
use Rattle.rgo_run.specs.declared.refusals.TextError.TheVariants as error
use Rattle.rgo_run.specs.declared.refusals.TextRefusal.TheVariants as refusal
use Rattle.rgo_run.specs.Calls.{SourceUse, SourceFailed, SourceHadNoFault, SinkUse, IsUntouched, text_kind_of}
use Rattle.rgo_run.specs.CodeVerdicts.{CodePasses, CodeRefused, code_limit}
use Rattle.rgo_run.specs.Compiled.{Emits}
use Rattle.rgo_run.specs.Runs.{RunsAsOne}
use Rattle.rgo_run.specs.Verdicts.{IsValidProgram, Refused, text_limit}

-- the text that a command is about: the large text for `big`, and otherwise what the source had left, if it reports that
abbrev pub IsTextOf : Option Command → Option (List ℕ) → List ℕ → Type 0
IsTextOf (Some (Big n)) left text = text ≡ big_text n
IsTextOf _ left text = IfSome left (λ bytes. text ≡ bytes)

-- the greatest length of a text of this kind, in bytes
abbrev pub byte_limit : TextKind → ℕ
byte_limit text_kind.Go = text_limit
byte_limit text_kind.Code = code_limit

-- the words are this command, and this is its text, read from the source or made for `big`
pub record IsTextRead (words : List (List ℕ)) (source : SourceUse) (command : Command) (text : List ℕ) : Type 0 where
  pub asked : command_of words ≡ Some command
  pub is_text : IsTextOf (Some command) source.left text
  pub within : length text ≤ byte_limit (text_kind_of command)
  pub held : SourceHadNoFault source

-- the words name a command
abbrev pub AskSome : List (List ℕ) → Type 0
AskSome words = (command : Command) × (command_of words ≡ Some command)

-- a text of this kind is rejected for the reason that the ending reports
abbrev pub RefusedAs : TextKind → List ℕ → Ending → Type 0
RefusedAs text_kind.Go text (the_ending.Refused why) = Refused text why
RefusedAs text_kind.Code text (the_ending.CodeRefused why) = CodeRefused text why
RefusedAs _ text _ = ⊥

-- a text of this kind is valid
abbrev pub PassesAs : TextKind → List ℕ → Type 0
PassesAs text_kind.Go text = IsValidProgram text
PassesAs text_kind.Code text = CodePasses text

-- the text that a command reads is rejected for the reason that the ending reports
abbrev pub RefusedBy : Command → List ℕ → Ending → Type 0
RefusedBy command text ending = RefusedAs (text_kind_of command) text ending

-- the command accepts the text without running it
abbrev pub AcceptedBy : Command → List ℕ → Type 0
AcceptedBy Check text = PassesAs text_kind.Go text
AcceptedBy Emit text = PassesAs text_kind.Go text
AcceptedBy Code text = PassesAs text_kind.Code text
AcceptedBy _ text = ⊥

-- the source had more bytes left than the command reads
pub record ReadTooMuch (words : List (List ℕ)) (source : SourceUse) (ending : Ending) : Type 0 where
  pub command : Command
  pub asked : command_of words ≡ Some command
  pub held : SourceHadNoFault source
  pub text : List ℕ
  pub is_text : IsTextOf (Some command) source.left text
  pub refused : RefusedBy command text ending

-- the ending if no text was read, by its reason
abbrev pub NotRead : List (List ℕ) → SourceUse → Ending → Type 0
NotRead words source the_ending.Usage = (command_of words ≡ None) × SourceHadNoFault source
NotRead words source the_ending.ReadFault = AskSome words × SourceFailed source
NotRead words source (the_ending.Refused refusal.TooLong) = ReadTooMuch words source (the_ending.Refused refusal.TooLong)
NotRead words source (the_ending.CodeRefused code_refusal.TooLong) =
    ReadTooMuch words source (the_ending.CodeRefused code_refusal.TooLong)
NotRead words source the_ending.NoMemory = SourceHadNoFault source
NotRead words source _ = ⊥

-- why a text has no program: its refusal, or memory ran out
abbrev pub SourceFailsAs : List ℕ → TextError → Type 0
SourceFailsAs text error.NoMemory = Unit {0}
SourceFailsAs text (error.Refused why) = Refused text why

-- why a code text has no code: its refusal, or memory ran out
abbrev pub CodeFails : List ℕ → CodeTextError → Type 0
CodeFails text code_error.NoMemory = Unit {0}
CodeFails text (code_error.Refused why) = CodeRefused text why

-- why a text of this kind was not accepted, by the ending that reports it
abbrev pub FailsAs : TextKind → List ℕ → Ending → Type 0
FailsAs kind text the_ending.NoMemory = Unit {0}
FailsAs kind text other = RefusedAs kind text other

-- the ending of checking a text of this kind: valid, or why it was not accepted
abbrev pub ChecksText : TextKind → List ℕ → Ending → Type 0
ChecksText kind text the_ending.Valid = PassesAs kind text
ChecksText kind text other = FailsAs kind text other

-- a text of this kind was run with these options, or not accepted
abbrev pub RunsOrFails : TextKind → RunOptions → List ℕ → Ending → SinkUse → Type 0
RunsOrFails kind options text ending out =
    RunsAsOne kind options text ending out ⊎ (FailsAs kind text ending × IsUntouched out)

-- what a command other than `record` and `replay` does with a text
abbrev pub PerformsCommand : Command → List ℕ → Ending → SinkUse → Type 0
PerformsCommand Check text ending out = ChecksText text_kind.Go text ending × IsUntouched out
PerformsCommand Code text ending out = ChecksText text_kind.Code text ending × IsUntouched out
PerformsCommand (Run options) text ending out = RunsOrFails text_kind.Go options text ending out
PerformsCommand (Big n) text ending out = RunsOrFails text_kind.Go default_options text ending out
PerformsCommand (RunCode options) text ending out = RunsOrFails text_kind.Code options text ending out
PerformsCommand (Record options) text ending out = ⊥
PerformsCommand Replay text ending out = ⊥
PerformsCommand Emit text ending out = Emits text ending out ⊎ (FailsAs text_kind.Go text ending × IsUntouched out)
