-- One call of `rgo` as data: what it was given and what it left. All claims of the headline are about such a record, and none about the
-- types of sources and sinks, so they are the same for a test as for the standard streams.
use Rattle.std.specs.Prelude.{◌≡◌, ℕ, Bool, true, List, [], Option, Some, None, option_and_then}
use Rattle.std.specs.Io.KnownBytes.{Appends}
use Rattle.rgo_outside.specs.Causes.{Rose}
use Rattle.rgo_outside.specs.declared.sinks.Sink as sinks
use Rattle.rgo_command_line.specs.declared.commands.Command.{Command}
use Rattle.rgo_command_line.specs.declared.commands.Command.TheVariants.{Run, Check, Emit, Code, Big, Record, Replay, RunCode}
use Rattle.rgo_command_line.specs.declared.limits.RunOptions.{RunOptions}
use Rattle.rgo_command_line.specs.Commands.{command_of}
use Rattle.rgo_command_line.specs.Limits.{default_options}
use Rattle.rgo_run.specs.declared.endings.TextKind.{TextKind}
use Rattle.rgo_run.specs.declared.endings.TextKind.TheVariants as text_kind

-- The source in a call: the bytes it had left, if it reports them, and its count of faults before and after. Without such a report the
-- claims are about some text that the source may have had.
pub record SourceUse : Type 0 where
  pub left : Option (List ℕ)
  pub faults_old : ℕ
  pub faults_new : ℕ

-- A sink in a call: its bytes and its count of faults before and after, and whether its last write failed. The bytes are unknown if the
-- sink does not report them.
pub record SinkUse : Type 0 where
  pub old : Option (List ℕ)
  pub new : Option (List ℕ)
  pub faults_old : ℕ
  pub faults_new : ℕ
  pub broken : Bool

abbrev pub source_use : Option (List ℕ) → (faults_old faults_new : ℕ) → SourceUse
source_use left faults_old faults_new = record { left = left; faults_old = faults_old; faults_new = faults_new }

abbrev pub sink_use : (old new : Option (List ℕ)) (faults_old faults_new : ℕ) (broken : Bool) → SinkUse
sink_use old new faults_old faults_new broken = record {
  old = old;
  new = new;
  faults_old = faults_old;
  faults_new = faults_new;
  broken = broken;
}

-- the use of a sink, from its ghost state before and after the call
abbrev pub use_of : {S : Type 0} → sinks.Ghosts S → (old new : S) → SinkUse
use_of sink old new =
    sink_use (sink.contents old) (sink.contents new) (sink.faults old) (sink.faults new) (sink.broken new)

-- the words of the command line, the source, both sinks, and the status; each word is a list of bytes, and the first is the program's name
pub record Call : Type 0 where
  pub words : List (List ℕ)
  pub source : SourceUse
  pub out : SinkUse
  pub err : SinkUse
  pub status : ℕ

-- the kind of text that a command reads; a journal with the text after it may be as long as a code text
abbrev pub text_kind_of : Command → TextKind
text_kind_of Code = text_kind.Code
text_kind_of Replay = text_kind.Code
text_kind_of (RunCode options) = text_kind.Code
text_kind_of _ = text_kind.Go

-- what kind of text a command runs, if any, and with which options; `big` uses the defaults of `run`
abbrev pub run_of_command : Command → Option (TextKind × RunOptions)
run_of_command (Run options) = Some (text_kind.Go, options)
run_of_command (RunCode options) = Some (text_kind.Code, options)
run_of_command (Record options) = Some (text_kind.Go, options)
run_of_command (Big n) = Some (text_kind.Go, default_options)
run_of_command _ = None

-- the words ask for a run of a text of this kind, with these options
abbrev pub AsksRunWith : List (List ℕ) → TextKind → RunOptions → Type 0
AsksRunWith words kind options = option_and_then run_of_command (command_of words) ≡ Some (kind, options)

-- the words ask for a run, of some kind and with some options
abbrev pub AsksRun : List (List ℕ) → Type 0
AsksRun words = (kind : TextKind) × (options : RunOptions) × AsksRunWith words kind options

-- the words ask for this command
abbrev pub AsksForCommand : Call → Command → Type 0
AsksForCommand call command = command_of call.words ≡ Some command

-- the words of the call ask for a run of a text of this kind, with these options
abbrev pub IsRunCall : Call → TextKind → RunOptions → Type 0
IsRunCall call kind options = AsksRunWith call.words kind options

-- the call asks only whether a text is a valid program
abbrev pub AsksCheck : Call → Type 0
AsksCheck call = AsksForCommand call Check

-- the call asks for the code of a program, with its regions, as a text on `out`
abbrev pub AsksEmit : Call → Type 0
AsksEmit call = AsksForCommand call Emit

-- the call asks only whether a code text is well formed and keeps all rules
abbrev pub AsksCode : Call → Type 0
AsksCode call = AsksForCommand call Code

-- A read failed, by the count of faults. A count of 2^64 - 1 cannot rise, so at that count this and the next definition both hold,
-- whether or not a read failed.
abbrev pub SourceFailed : SourceUse → Type 0
SourceFailed source = Rose source.faults_old source.faults_new

-- no read failed, by the count of faults
abbrev pub SourceHadNoFault : SourceUse → Type 0
SourceHadNoFault source = source.faults_new ≡ source.faults_old

-- A write failed, and nothing was written after it, so the sink has a front part of the bytes that were due, without a gap. At a count of
-- 2^64 - 1, `counted` and the next definition both hold, as for a source.
pub record Failed (sink : SinkUse) : Type 0 where
  pub counted : Rose sink.faults_old sink.faults_new
  pub broken : sink.broken ≡ true

-- no write failed, by the count of faults; this says nothing of the bytes in the sink
abbrev pub SinkHadNoFault : SinkUse → Type 0
SinkHadNoFault sink = sink.faults_new ≡ sink.faults_old

-- these bytes, and no others, were appended to those of the sink, if it reports its bytes
abbrev pub SinkGrew : SinkUse → List ℕ → Type 0
SinkGrew sink bytes = Appends sink.old sink.new bytes

-- nothing was written, and no write failed
abbrev pub IsUntouched : SinkUse → Type 0
IsUntouched sink = SinkGrew sink [] × SinkHadNoFault sink
