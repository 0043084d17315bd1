-- What a call of `rgo` guarantees: `Headline`, a record of claims on refusals, on what is printed or emitted, on the end that is
-- reported, on faults, and on what must succeed. `record` and `replay` have claims of their own (Recorded, Replayed).
use Rattle.std.specs.Prelude.{◌≡◌, ℕ, ◌⊎◌, false, List, [], None, Option, Some, length}
use Rattle.rgo_machine.specs.declared.picks.Pick.{Pick}
use Rattle.rgo_machine.specs.Limits.{LeadsWithin}
use Rattle.rgo_tac.specs.Code.{Tac}
use Rattle.rgo_tac.specs.Tac.{TacState, tac, tac_start}
use Rattle.rgo_code.specs.Code.{Code}
use Rattle.rgo_region_machine.specs.Counts.{counts_of}
use Rattle.rgo_region_machine.specs.Machine.{Event, region_run}
use Rattle.rgo_region_machine.specs.States.{RegionState}
use Rattle.rgo_region_machine.specs.declared.tallies.Tally.{Tally}
use Rattle.rgo_region_machine.specs.Room.{LacksIn}
use Rattle.rgo_machine.specs.declared.ends.RunEnd.{RunEnd}
use Rattle.rgo_machine.specs.declared.ends.RunEnd.TheVariants as run_end
use Rattle.rgo_machine.specs.Ends.{RunEndsAs}
use Rattle.rgo_command_line.specs.declared.commands.Command.{Command}
use Rattle.rgo_command_line.specs.declared.commands.Command.TheVariants.{Record}
use Rattle.rgo_command_line.specs.declared.limits.RunOptions.{RunOptions}
use Rattle.rgo_machine.specs.declared.limits.Limits.{Limits}
use Rattle.rgo_machine.specs.declared.limits.Sizes.{Sizes}
use Rattle.rgo_machine.specs.declared.limits.Shortage.{Shortage}
use Rattle.rgo_machine.specs.declared.limits.Shortage.TheVariants as shortage
use Rattle.rgo_command_line.specs.Commands.{command_of}
use Rattle.rgo_run.specs.declared.endings.TextKind.{TextKind}
use Rattle.rgo_run.specs.declared.endings.Ending.{Ending}
use Rattle.rgo_run.specs.declared.endings.Ending.TheVariants.{Valid, Ran, Usage, ReadFault, WriteFault, NoMemory}
use Rattle.rgo_run.specs.Calls.{AsksRun, Call, AsksForCommand, IsRunCall, AsksCheck, AsksEmit, AsksCode, SourceFailed, SourceHadNoFault, Failed, SinkHadNoFault, SinkGrew, IsUntouched}
use Rattle.rgo_run.specs.Compiled.{Emits, IsCodeText}
use Rattle.rgo_run.specs.Endings.{status_of, status_of_run, line_of, is_fault_status}
use Rattle.rgo_run.specs.Reports.{ReportsEnding}
use Rattle.rgo_run.specs.Runs.{IsCodeFor, IsOneRun, IsPlainCodeFor, IsRunnable, IsSaid, RunOf, Runnable, TextRunsTo}
use Rattle.rgo_run.specs.CodeVerdicts.{CodePasses}
use Rattle.rgo_run.specs.Texts.{IsTextOf, RefusedBy, AcceptedBy}
use Rattle.rgo_run.specs.Verdicts.{IsValidProgram}

-- an ending of a run, or of a call whose run never began for want of memory
abbrev pub EndsRun : Ending → Type 0
EndsRun (Ran kind end stats) = Unit {0}
EndsRun NoMemory = Unit {0}
EndsRun _ = ⊥

-- `out` may have a run's print only if the call asks for a run and has this ending
abbrev pub MayRun : Call → Ending → Type 0
MayRun call ending = AsksRun call.words × EndsRun ending

-- an ending of a call that printed code, in part or as a whole
abbrev pub EndsEmit : Ending → Type 0
EndsEmit Valid = Unit {0}
EndsEmit WriteFault = Unit {0}
EndsEmit _ = ⊥

-- `out` may have a code text only if the call asks for it and has this ending
abbrev pub MayEmit : Call → Ending → Type 0
MayEmit call ending = AsksEmit call × EndsEmit ending

-- What a refusal means, and which texts must and must not have one; also, when `out` stays as it was. Words that name no command
-- get the usage line, and a text that breaks a rule is rejected at the first place that does.
pub record Refusal (call : Call) (text : List ℕ) (ending : Ending) : Type 0 where
  -- the usage line is written only for words that name no command
  pub usage : ending ≡ Usage → command_of call.words ≡ None
  -- such words have no other ending, if memory sufficed
  pub unknown : command_of call.words ≡ None → (ending ≡ Usage) ⊎ (ending ≡ NoMemory)
  -- status 1 means that the text breaks a rule, as the command reads it: as a program or as a code text
  pub refused : status_of ending ≡ 1 → (command : Command) × AsksForCommand call command × RefusedBy command text ending
  -- a text that passes the check, or whose code is printed, is valid
  pub passes : ending ≡ Valid → (command : Command) × AsksForCommand call command × AcceptedBy command text
  -- conversely, a text that breaks a rule is rejected for it, if it was read and memory sufficed
  pub first : (command : Command) → AsksForCommand call command → (SourceFailed call.source → ⊥)
      → (why : Ending) → RefusedBy command text why → (ending ≡ why) ⊎ (ending ≡ NoMemory)
  pub untouched : (MayRun call ending → ⊥) → (MayEmit call ending → ⊥) → IsUntouched call.out

-- The claim on a run. Unless it was recorded, the run with regions and the run without them are one and the same run.
abbrev pub RunsFor : Call → TextKind → RunOptions → List ℕ → Ending → Type 0
RunsFor call kind options text ending =
    (r : TextRunsTo kind options text ending call.out) × ((AsksForCommand call (Record options) → ⊥) → IsOneRun r.runs)

-- The bytes on `out` are the print of a run of the text's program, or of the code text's code, and the ending reports how that run
-- ended; or memory ran out before the run.
abbrev pub Print : Call → List ℕ → Ending → Type 0
Print call text ending =
    (kind : TextKind) (options : RunOptions) → IsRunCall call kind options → EndsRun ending
    → RunsFor call kind options text ending ⊎ ((ending ≡ NoMemory) × IsUntouched call.out)

-- The bytes on `out` are the text of the program's code with regions, or a front part of it if a write failed.
abbrev pub Emission : Call → List ℕ → Ending → Type 0
Emission call text ending = AsksEmit call → EndsEmit ending → Emits text ending call.out

-- a write to `out` failed
abbrev pub IsWriteFault : Ending → Type 0
IsWriteFault ending =
    ((kind : TextKind) × (stats : Option Tally) × (ending ≡ Ran kind run_end.WriteFault stats)) ⊎ (ending ≡ WriteFault)

-- The ending has its cause. `err` took its lines and the status is its own, or a write to `err` failed and the status is 10.
pub record ReportedEnd (call : Call) (text : List ℕ) (ending : Ending) : Type 0 where
  pub read_failed : ending ≡ ReadFault → SourceFailed call.source
  pub write_failed : IsWriteFault ending → Failed call.out
  pub ran : (kind : TextKind) (end : RunEnd) (stats : Option Tally) → ending ≡ Ran kind end stats
      → (options : RunOptions) × IsRunCall call kind options
  pub told : ReportsEnding text ending call.status call.err

-- A status of a fault implies that fault; any other status implies that no read and no write failed.
pub record Faults (call : Call) : Type 0 where
  pub read : call.status ≡ 9 → SourceFailed call.source
  pub write : call.status ≡ 10 → Failed call.out ⊎ Failed call.err
  pub none : is_fault_status call.status ≡ false → SourceHadNoFault call.source × SinkHadNoFault call.out × SinkHadNoFault call.err

-- no run of its code within the limits has this end
abbrev pub NeverEnds : Limits → Runnable → RunEnd → Type 0
NeverEnds limits what end =
    (code : Tac) → IsPlainCodeFor what code → (before : ℕ) (picks : List Pick) (t : TacState)
    → LeadsWithin (tac code) limits (tac_start code) picks t
    → RunEndsAs (tac code) limits before (length picks) t end → ⊥

-- no run of its code with regions ever lacks this kind of room
abbrev pub AlwaysHas : Sizes → Runnable → Shortage → Type 0
AlwaysHas sizes what why =
    (code : Code) → IsCodeFor what code → (events : List Event) (s : RegionState)
    → region_run code sizes.page_words events ≡ Some s → LacksIn code sizes why s → ⊥

-- No run of its code reaches a limit or lacks room. Memory is not mentioned: no option bounds what the process may allocate, so a call
-- may always end with 11.
pub record Suffices (options : RunOptions) (what : Runnable) : Type 0 where
  pub calls : NeverEnds options.limits what run_end.CallsTooDeep
  pub steps : NeverEnds options.limits what run_end.StepsSpent
  pub goroutines : NeverEnds options.limits what run_end.GoroutinesSpent
  pub pages : AlwaysHas options.sizes what shortage.Pages
  pub regions : AlwaysHas options.sizes what shortage.Regions
  pub object_size : AlwaysHas options.sizes what shortage.ObjectSize

-- the program's own end, and not one that a limit, a lack of memory or a fault caused
abbrev pub IsOwnEnd : RunEnd → Type 0
IsOwnEnd (run_end.Ended end) = Unit {0}
IsOwnEnd run_end.Deadlock = Unit {0}
IsOwnEnd _ = ⊥

-- `out` has the whole print of a run to its own end, `err` has its lines, and the status is 0, 2 or 3
pub record RunsWhole (kind : TextKind) (options : RunOptions) (call : Call) (text : List ℕ) (what : Runnable) : Type 0 where
  pub end : RunEnd
  pub is_own : IsOwnEnd end
  pub runs : RunOf what options end call.out
  pub stats : Option Tally
  pub said : IsSaid options.stats end (counts_of runs.regions.last) stats
  pub told : SinkGrew call.err (line_of text (Ran kind end stats))
  pub status : call.status ≡ status_of_run end

-- if no run of the text's program or code reaches a limit, it is run to its own end, unless memory runs out
abbrev pub MustRunWhole : TextKind → RunOptions → Call → List ℕ → Type 0
MustRunWhole kind options call text =
    (what : Runnable) → IsRunnable kind text what → Suffices options what
    → RunsWhole kind options call text what ⊎ (call.status ≡ 11)

-- status 0, and nothing written to either sink
pub record IsSilent (call : Call) : Type 0 where
  pub status : call.status ≡ 0
  pub untouched : IsUntouched call.out
  pub silent : SinkGrew call.err []

-- the whole code text of the program on `out`, and nothing on `err`
pub record EmitsWhole (call : Call) (text : List ℕ) : Type 0 where
  pub status : call.status ≡ 0
  pub bytes : List ℕ
  pub is_text : IsCodeText text bytes
  pub grew : SinkGrew call.out bytes
  pub held : SinkHadNoFault call.out
  pub silent : SinkGrew call.err []

-- If nothing fails and memory suffices: a valid program, or the code of a code text that keeps all rules, is run to its own end if
-- none of its runs reaches a limit; a valid program passes `check`, and `emit` prints its whole code; a code text that keeps all
-- rules passes `code`.
pub record Complete (call : Call) (text : List ℕ) : Type 0 where
  pub run : (kind : TextKind) (options : RunOptions) → IsRunCall call kind options
      → (SourceFailed call.source → ⊥) → (Failed call.out → ⊥) → (Failed call.err → ⊥)
      → MustRunWhole kind options call text
  pub check : AsksCheck call → (SourceFailed call.source → ⊥) → (Failed call.err → ⊥)
      → IsValidProgram text → IsSilent call ⊎ (call.status ≡ 11)
  pub emit : AsksEmit call → (SourceFailed call.source → ⊥) → (Failed call.out → ⊥) → (Failed call.err → ⊥)
      → IsValidProgram text → EmitsWhole call text ⊎ (call.status ≡ 11)
  pub code : AsksCode call → (SourceFailed call.source → ⊥) → (Failed call.err → ⊥)
      → CodePasses text → IsSilent call ⊎ (call.status ≡ 11)

-- The claim on a call: for one text, all of the above holds. The text is the large one for `big`, and otherwise one that agrees
-- with what the source reports.
pub record Headline (call : Call) : Type 0 where
  pub text : List ℕ
  pub is_text : IsTextOf (command_of call.words) call.source.left text
  pub ending : Ending
  pub refusal : Refusal call text ending
  pub print : Print call text ending
  pub emission : Emission call text ending
  pub end : ReportedEnd call text ending
  pub faults : Faults call
  pub complete : Complete call text
