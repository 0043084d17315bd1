-- The source machine: what a program means. Goroutines walk its typed tree, over a heap that never frees.
use Rattle.std.specs.Prelude.{ℕ, List, [], ◌∷◌, Option, Some, None, codes, bytes_eq, if◌then◌else◌}
use Rattle.rgo_typed.specs.Tree.{Function, Typed}
use Rattle.rgo_memory.specs.Opening.{opening}
use Rattle.rgo_machine.specs.declared.picks.Pick.{Pick}
use Rattle.rgo_machine.specs.Machines.{Machine, State, start_state, step_by}
use Rattle.rgo_machine.specs.Runs.{Leads}
use Rattle.rgo_meaning.specs.Frames.{SourceFrame, new_source_frame}
use Rattle.rgo_meaning.specs.Stands.{source_stand}
use Rattle.rgo_meaning.specs.Steps.{source_act, source_resumed}

-- goroutines over one memory, whose frames walk the typed tree
abbrev pub SourceState : Type 0
SourceState = State SourceFrame

-- the machine whose runs are what a program means
abbrev pub source : Typed → Machine SourceFrame
source program = record { act = source_act program; stand = source_stand program; resume = source_resumed }

abbrev pub source_step : Typed → SourceState → Pick → Option SourceState
source_step program = step_by (source program)

-- ---- the state in which a run begins

-- the first function of a name; a typed program has one only
abbrev pub function_named : List ℕ → List Function → Option Function
function_named name [] = None
function_named name (f ∷ fs) = if bytes_eq f.name name then Some f else function_named name fs

-- the frames of goroutine 0 at the beginning; without a `main` there are none, and the run has no step
abbrev pub source_main_frames : Option Function → List SourceFrame
source_main_frames None = []
source_main_frames (Some f) = new_source_frame f [] ∷ []

-- the package variables have the zeros of their types, and goroutine 0 is at the beginning of `main`
abbrev pub source_start : Typed → SourceState
source_start program =
    start_state (opening program.variables) (source_main_frames (function_named (codes "main") program.functions))

-- the picks lead from the beginning to the state
abbrev pub IsSourceRun : Typed → List Pick → SourceState → Type 0
IsSourceRun program picks s = Leads (source_step program) (source_start program) picks s
