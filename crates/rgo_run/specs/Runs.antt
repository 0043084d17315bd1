-- Runs of a program or of given code, and how what they print and their end appear on `out` and in the ending.
use Rattle.std.specs.Prelude.{◌≡◌, ℕ, ◌+◌, ◌*◌, ◌<◌, Bool, true, false, List, Option, Some, None, slice_get, ⊤}
use Rattle.rgo_typed.specs.Tree.{Typed}
use Rattle.rgo_machine.specs.declared.limits.Limits.{Limits}
use Rattle.rgo_machine.specs.declared.picks.Pick.{Pick}
use Rattle.rgo_machine.specs.Deadlocks.{HasReturnedOrWaits, IsDeadlock}
use Rattle.rgo_machine.specs.Limits.{LeadsWithin}
use Rattle.rgo_machine.specs.Machines.{Machine, State}
use Rattle.rgo_meaning.specs.Source.{SourceState, source, source_start}
use Rattle.rgo_tac.specs.Code.{Tac}
use Rattle.rgo_tac.specs.Tac.{TacState, tac, tac_start}
use Rattle.rgo_code.specs.Checked.{IsChecked}
use Rattle.rgo_code.specs.Code.{Code}
use Rattle.rgo_code.specs.Erasure.{erased}
use Rattle.rgo_code.specs.NameRules.{Ascends}
use Rattle.rgo_lower.specs.Lowered.{IsLowered}
use Rattle.rgo_region_machine.specs.Counts.{Counts, counts_of}
use Rattle.rgo_machine.specs.declared.ends.RunEnd.{RunEnd}
use Rattle.rgo_machine.specs.declared.ends.RunEnd.TheVariants.{Deadlock, NoMemory, StepsSpent, WriteFault}
use Rattle.rgo_machine.specs.Ends.{RunsFreely}
use Rattle.rgo_region_machine.specs.Tallies.{counts_in}
use Rattle.rgo_sound.specs.RegionRuns.{RegionRun}
use Rattle.rgo_sound.specs.Erasure.{picks_of}
use Rattle.rgo_region_machine.specs.declared.tallies.Tally.{Tally}
use Rattle.rgo_command_line.specs.declared.limits.RunOptions.{RunOptions}
use Rattle.rgo_run.specs.declared.endings.TextKind.{TextKind}
use Rattle.rgo_run.specs.declared.endings.TextKind.TheVariants as text_kind
use Rattle.rgo_run.specs.declared.endings.Ending.{Ending}
use Rattle.rgo_run.specs.declared.endings.Ending.TheVariants.{Ran}
use Rattle.rgo_run.specs.Calls.{SinkUse, Failed, SinkHadNoFault}
use Rattle.rgo_run.specs.CodeVerdicts.{IsTextOfCode}
use Rattle.rgo_run.specs.Compiled.{IsCompiledFrom}
use Rattle.rgo_run.specs.Verdicts.{IsTypedProgram}

-- every goroutine has returned or waits at a channel
abbrev pub AllHaveReturnedOrWait : {F : Type 0} → Machine F → State F → Type 0
AllHaveReturnedOrWait {F} machine s =
    (g : ℕ) (frames : List F) → slice_get s.goroutines g ≡ Some frames → HasReturnedOrWaits machine s.memory frames

-- A run of the source machine within the limits whose print and end are those of this state of the code. If `end` is a deadlock, the
-- source machine is in one, too.
pub record SourceRun (limits : Limits) (program : Typed) (end : RunEnd) (t : TacState) : Type 0 where
  pub picks : List Pick
  pub state : SourceState
  pub leads : LeadsWithin (source program) limits (source_start program) picks state
  pub printed : state.printed ≡ t.printed
  pub ended : state.ended ≡ t.ended
  pub deadlock : end ≡ Deadlock → IsDeadlock (source program) state × AllHaveReturnedOrWait (source program) state

-- the three-address code of a text's program
pub record IsCodeOf (text : List ℕ) (code : Tac) : Type 0 where
  pub program : Typed
  pub is_program : IsTypedProgram text program
  pub lowered : IsLowered program code

-- what can be run: a program, or given code of any origin
pub data Runnable : Type 0 where
  of_program : Typed → Runnable
  of_code : Code → Runnable

-- what a text of this kind can be run as: a valid program, or the code of a code text that keeps all rules
abbrev pub IsRunnable : TextKind → List ℕ → Runnable → Type 0
IsRunnable kind text (of_program program) = (kind ≡ text_kind.Go) × IsTypedProgram text program
IsRunnable kind text (of_code code) = (kind ≡ text_kind.Code) × IsTextOfCode text code × IsChecked code

-- the code with regions that a run executes: the compiled code of the program; or the given code itself, which keeps all rules and
-- whose lists of names are ascending
abbrev pub IsCodeFor : Runnable → Code → Type 0
IsCodeFor (of_program program) code = IsCompiledFrom program code
IsCodeFor (of_code given) code = (code ≡ given) × IsChecked code × Ascends code

-- that code without regions: the program's three-address code, or the erasure of the given code
abbrev pub IsPlainCodeFor : Runnable → Tac → Type 0
IsPlainCodeFor (of_program program) code = IsLowered program code
IsPlainCodeFor (of_code given) code = code ≡ erased given

-- for a program, a run of the source machine that corresponds to this state; for given code, nothing
abbrev pub HasSourceRun : Runnable → Limits → RunEnd → TacState → Type 0
HasSourceRun (of_program program) limits end t = SourceRun limits program end t
HasSourceRun (of_code code) limits end t = Unit {0}

-- Some run of the code, in some order of its steps, has this end and prints what `out` took. So does a run with regions, and, for a
-- program, a run of the source machine.
pub record RunOf (what : Runnable) (options : RunOptions) (end : RunEnd) (out : SinkUse) : Type 0 where
  pub code : Code
  pub is_code : IsCodeFor what code
  pub runs : RunsFreely (tac (erased code)) options.limits (tac_start (erased code)) end out.old out.new
  pub source : HasSourceRun what options.limits end runs.state
  pub regions : RegionRun code options.sizes end runs.state

-- The run with regions and the run of the code take the same steps, apart from region steps. If the run ended because its steps were
-- spent, it took fewer than 1,000 steps per goroutine beyond the limit.
pub record IsOneRun
    {what : Runnable} {options : RunOptions} {end : RunEnd} {out : SinkUse} (r : RunOf what options end out)
    : Type 0 where
  pub same : r.runs.picks ≡ picks_of r.code options.sizes r.regions.events
  pub spent : end ≡ StepsSpent
      → (counts_of r.regions.last).steps < options.limits.steps + 1000 * (counts_of r.regions.last).goroutines

-- The counts that are reported for a run: those it made, if they were asked for. They are also missing if there was no memory for
-- their line; the end is then that memory ran out, or a failed write.
abbrev pub IsSaid : (asked : Bool) → RunEnd → (made : Counts) → Option Tally → Type 0
IsSaid true end made (Some tally) = counts_in tally ≡ made
IsSaid true NoMemory made None = ⊤
IsSaid true WriteFault made None = ⊤
IsSaid false end made None = ⊤
IsSaid _ end made _ = ⊥

-- some run of the text's program or code printed what `out` took, and the ending reports its end
pub record TextRunsTo (kind : TextKind) (options : RunOptions) (text : List ℕ) (ending : Ending) (out : SinkUse) : Type 0 where
  pub what : Runnable
  pub is_what : IsRunnable kind text what
  pub run_end : RunEnd
  pub stats : Option Tally
  pub is_end : ending ≡ Ran kind run_end stats
  pub runs : RunOf what options run_end out
  pub said : IsSaid options.stats run_end (counts_of runs.regions.last) stats
  pub failed : run_end ≡ WriteFault → Failed out
  pub held : (run_end ≡ WriteFault → ⊥) → SinkHadNoFault out

-- the same for a run on workers over the words of one table: it is one run, with regions and without them
abbrev pub RunsAsOne : TextKind → RunOptions → (text : List ℕ) → Ending → SinkUse → Type 0
RunsAsOne kind options text ending out = (r : TextRunsTo kind options text ending out) × IsOneRun r.runs
