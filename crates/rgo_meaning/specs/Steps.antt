-- What a frame does by itself: the first thing that it has to do. It is total: a missing value counts as nil, which
-- never happens in a typed program.
use Rattle.std.specs.Prelude.{ℕ, Bool, true, false, List, [], ◌∷◌, length, take, drop, Option, Some, None}
use Rattle.rgo_typed.specs.declared.actions.Action.TheVariants.{Store, New}
use Rattle.rgo_typed.specs.declared.actions.Logical.{Logical}
use Rattle.rgo_typed.specs.declared.actions.Logical.TheVariants.{And, Or}
use Rattle.rgo_typed.specs.declared.programs.Struct.{Struct}
use Rattle.rgo_typed.specs.declared.types.Type.{«Type»}
use Rattle.rgo_typed.specs.Tree as tree
use Rattle.rgo_typed.specs.Tree.{Term, Terms, Stmts, Typed}
use Rattle.rgo_memory.specs.declared.values.Value.{Value}
use Rattle.rgo_memory.specs.Values.{zero_of}
use Rattle.rgo_memory.specs.Memory.{Memory}
use Rattle.rgo_memory.specs.Perform.{perform}
use Rattle.rgo_machine.specs.Actions.{effected, is_true, no_type}
use Rattle.rgo_machine.specs.Lines.{printed_line}
use Rattle.rgo_machine.specs.Machines.{Act, Moves, Returns, Prints}
use Rattle.rgo_meaning.specs.Frames.{SourceFrame, local_value, with_local_value, value_below, newest_value, last_values, replaced, frame_with_todo}
use Rattle.rgo_meaning.specs.Frames.{Todo, Evaluate, Each, Perform, Affect, Settle, Decide, Create, Fill, Repeat, Give}
use Rattle.rgo_meaning.specs.Frames.{Forget, Clear, Enter, Start, Write, Execute, Sequence, When, Choose, Close, Onward}
use Rattle.rgo_meaning.specs.Frames.{Turn, Test, Again, Leave, Stay}
use Rattle.rgo_meaning.specs.Todos.{term_todo, statement_todo, turn_todo}

-- ---- actions

-- the frame after an action: with the value, or without it
abbrev pub with_action_result : SourceFrame → ℕ → List Todo → Value → SourceFrame
with_action_result f taken todo v = frame_with_todo f taken (v ∷ []) todo

-- the same for an action that is a statement: the value v is dropped
abbrev pub without_action_result : SourceFrame → ℕ → List Todo → Value → SourceFrame
without_action_result f taken todo v = frame_with_todo f taken [] todo

-- ---- terms

-- the frame after the first step of a term: a local variable has its value at once, any other term puts its parts before `todo`
abbrev pub evaluated : Term → List Todo → SourceFrame → SourceFrame
evaluated (tree.Local n) todo f = frame_with_todo f 0 (local_value f.locals n ∷ []) todo
evaluated t todo f = frame_with_todo f 0 [] (term_todo t todo)

-- the first term, and then the others, are put before `todo`
abbrev pub each : Terms → List Todo → List Todo
each tree.no_terms todo = todo
each (tree.a_term t ts) todo = Evaluate t ∷ Each ts ∷ todo

-- The right side is evaluated in place of the left, or the left side's value is the result: then the right side, and its traps, never
-- happen.
abbrev pub decided : Logical → Term → List Todo → SourceFrame → Bool → SourceFrame
decided And right todo f true = frame_with_todo f 1 [] (Evaluate right ∷ Settle ∷ todo)
decided And right todo f false = frame_with_todo f 0 [] todo
decided Or right todo f true = frame_with_todo f 0 [] todo
decided Or right todo f false = frame_with_todo f 1 [] (Evaluate right ∷ Settle ∷ todo)

-- The first of these fields of the newest value's object is written, with the value that is below it by the number of
-- fields that are left: the first field has the oldest value. At the end the object replaces the values.
abbrev pub act_of_fill : List Struct → Memory → ℕ → List ℕ → (place : ℕ) → List Todo → SourceFrame → Act SourceFrame
act_of_fill structs m count [] place todo f =
    Moves m (record f { values = replaced (newest_value f.values) count f.values; todo = todo })
act_of_fill structs m count (k ∷ fields) place todo f =
    effected (without_action_result f 0 (Fill count fields place ∷ todo)) place
    (perform structs (Store k) no_type (newest_value f.values ∷ value_below f.values (length (k ∷ fields)) ∷ []) m)

-- ---- statements

-- the frame after local variable n was assigned the newest value, which is taken
abbrev pub local_assigned : ℕ → List Todo → SourceFrame → SourceFrame
local_assigned n todo f =
    record { locals = with_local_value f.locals n (newest_value f.values); values = drop 1 f.values; todo = todo }

-- the frame after local variable n was set to the zero of type `ty`; no value is taken
abbrev pub local_cleared : ℕ → «Type» → List Todo → SourceFrame → SourceFrame
local_cleared n ty todo f = record { locals = with_local_value f.locals n (zero_of ty); values = f.values; todo = todo }

-- the first statement, and then the others, are put before `todo`
abbrev pub sequence : Stmts → List Todo → List Todo
sequence tree.no_stmts todo = todo
sequence (tree.a_stmt s ss) todo = Execute s ∷ Sequence ss ∷ todo

-- what follows the condition of an `if` without `else`, by its value
abbrev pub when : Stmts → List Todo → Bool → List Todo
when body todo true = Sequence body ∷ Close ∷ todo
when body todo false = todo

-- the same with an `else`; after the first branch comes `Onward`, since the code jumps there over the second
abbrev pub chosen : Stmts → Stmts → List Todo → Bool → List Todo
chosen body other todo true = Sequence body ∷ Onward ∷ todo
chosen body other todo false = Sequence other ∷ Close ∷ todo

-- the same for a loop: its body and then `Again`, or what follows the loop
abbrev pub tested : Option Term → Stmts → Stmts → List Todo → Bool → List Todo
tested test body post todo true = Sequence body ∷ Again test body post ∷ todo
tested test body post todo false = todo

-- ---- one thing to do

-- What changes the frame alone, before the other things to do. A call or a start of a function that does not exist
-- takes its arguments and does nothing.
abbrev pub moved : Todo → List Todo → SourceFrame → SourceFrame
moved (Evaluate t) todo f = evaluated t todo f
moved (Each ts) todo f = frame_with_todo f 0 [] (each ts todo)
moved (Decide op right) todo f = decided op right todo f (is_true (newest_value f.values))
moved (Repeat count) todo f = frame_with_todo f 0 (take count f.values) todo
moved (Give n) todo f = local_assigned n todo f
moved Forget todo f = frame_with_todo f 1 [] todo
moved (Clear n ty) todo f = local_cleared n ty todo f
moved (Enter function count) todo f = frame_with_todo f count [] todo
moved (Start function count) todo f = frame_with_todo f count [] todo
moved (Execute s) todo f = frame_with_todo f 0 [] (statement_todo s todo)
moved (Sequence ss) todo f = frame_with_todo f 0 [] (sequence ss todo)
moved (When body) todo f = frame_with_todo f 1 [] (when body todo (is_true (newest_value f.values)))
moved (Choose body other) todo f = frame_with_todo f 1 [] (chosen body other todo (is_true (newest_value f.values)))
moved (Turn test body post) todo f = frame_with_todo f 0 [] (turn_todo test body post todo)
moved (Test test body post) todo f = frame_with_todo f 1 [] (tested test body post todo (is_true (newest_value f.values)))
moved (Again test body post) todo f = frame_with_todo f 0 [] (Sequence post ∷ Onward ∷ Turn test body post ∷ todo)
moved _ todo f = frame_with_todo f 0 [] todo

-- What a frame does for its first thing to do; `todo` has those after it. An action may change the memory or trap, a line is printed, and
-- `Leave` returns; everything else changes the frame alone.
abbrev pub act_of_todo : Typed → Memory → Todo → List Todo → SourceFrame → Act SourceFrame
act_of_todo program m (Perform action count ty place) todo f =
    effected (with_action_result f count todo) place (perform program.structs action ty (last_values count f.values) m)
act_of_todo program m (Affect action count place) todo f =
    effected (without_action_result f count todo) place (perform program.structs action no_type (last_values count f.values) m)
act_of_todo program m (Create struct) todo f =
    effected (with_action_result f 0 todo) 0 (perform program.structs (New struct) no_type [] m)
act_of_todo program m (Fill count fields place) todo f = act_of_fill program.structs m count fields place todo f
act_of_todo program m (Write pieces count) todo f =
    Prints (frame_with_todo f count [] todo) (printed_line pieces (last_values count f.values))
act_of_todo program m Leave todo f = Returns (Some (newest_value f.values))
act_of_todo program m Stay todo f = Moves m f
act_of_todo program m item todo f = Moves m (moved item todo f)

-- the first of several things; if nothing is to do, the function returns without a value
abbrev pub first_done : Typed → Memory → List Todo → SourceFrame → Act SourceFrame
first_done program m [] f = Returns None
first_done program m (item ∷ todo) f = act_of_todo program m item todo f

-- what a frame does by itself: the first thing that it has to do, or a return
abbrev pub source_act : Typed → Memory → SourceFrame → Act SourceFrame
source_act program m f = first_done program m f.todo f

-- ---- returns

-- a caller continues with the result, or without one; it has already dropped the call from what it has to do
abbrev pub source_resumed : SourceFrame → Option Value → SourceFrame
source_resumed f None = f
source_resumed f (Some v) = frame_with_todo f 0 (v ∷ []) f.todo
