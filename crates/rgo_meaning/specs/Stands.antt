-- Where frames are: before an operation on a channel, a call, the start of a goroutine, or elsewhere.
use Rattle.std.specs.Prelude.{ℕ, List, [], ◌∷◌, Option, Some, None, slice_get}
use Rattle.rgo_typed.specs.Tree.{Function, Typed}
use Rattle.rgo_memory.specs.Values.{zero_of}
use Rattle.rgo_machine.specs.Actions.{at_channel, no_type}
use Rattle.rgo_machine.specs.Machines.{Stand, AtCall, AtStart, Elsewhere}
use Rattle.rgo_meaning.specs.Frames.{Todo, Perform, Affect, Enter, Start, SourceFrame, last_values, frame_with_todo, new_source_frame}
use Rattle.rgo_meaning.specs.Steps.{with_action_result, without_action_result}

-- Before the call or the start of a function, if it exists: `at` of the frame that continues and of the function's. The arguments are
-- values by then, so a goroutine that is started evaluates nothing of its caller's.
abbrev pub at_source_function : (SourceFrame → SourceFrame → Stand SourceFrame) → Option Function → ℕ → List Todo → SourceFrame → Stand SourceFrame
at_source_function at None count todo f = Elsewhere
at_source_function at (Some callee) count todo f =
    at (frame_with_todo f count [] todo) (new_source_frame callee (last_values count f.values))

-- Where a frame is before its first thing to do; `todo` has those after it. Only an action, a call and a start can concern other goroutines
-- or frames.
abbrev pub stand_before_todo : Typed → Todo → List Todo → SourceFrame → Stand SourceFrame
stand_before_todo program (Perform action count ty place) todo f =
    at_channel action (zero_of ty) place (with_action_result f count todo) (last_values count f.values)
stand_before_todo program (Affect action count place) todo f =
    at_channel action (zero_of no_type) place (without_action_result f count todo) (last_values count f.values)
stand_before_todo program (Enter function count) todo f =
    at_source_function AtCall (slice_get program.functions function) count todo f
stand_before_todo program (Start function count) todo f =
    at_source_function AtStart (slice_get program.functions function) count todo f
stand_before_todo program _ todo f = Elsewhere

-- before the first of several things to do
abbrev pub stand_at_todos : Typed → List Todo → SourceFrame → Stand SourceFrame
stand_at_todos program [] f = Elsewhere
stand_at_todos program (item ∷ todo) f = stand_before_todo program item todo f

-- where a frame is, by the first thing that it has to do
abbrev pub source_stand : Typed → SourceFrame → Stand SourceFrame
source_stand program f = stand_at_todos program f.todo f
