-- Frames: a function that was called, with what it has still to do.
use Rattle.std.specs.Prelude.{ℕ, zero, suc, List, [], ◌∷◌, ◌++◌, get_or, length, drop, map, reverse, take, Option, Some, None}
use Rattle.rgo_typed.specs.declared.actions.Action.{Action}
use Rattle.rgo_typed.specs.declared.actions.Logical.{Logical}
use Rattle.rgo_typed.specs.declared.statements.Piece.{Piece}
use Rattle.rgo_typed.specs.declared.types.Type.{«Type»}
use Rattle.rgo_typed.specs.Tree.{Term, Terms, Stmt, Stmts, Function, stmts_of}
use Rattle.rgo_memory.specs.declared.values.Value.{Value}
use Rattle.rgo_memory.specs.declared.values.Value.TheVariants.{Nil}
use Rattle.rgo_memory.specs.Values.{zero_of}

-- One thing to do. What produces a value pushes it on the frame's values; what takes n values takes the newest n. Some do nothing: if
-- the code has a copy or a jump there, a step of this machine has to go with it.
pub data Todo : Type 0 where
  -- evaluate a term, or several
  Evaluate : Term → Todo
  Each : Terms → Todo
  -- an action on the newest `count` values, with a result of a type, or without a result
  Perform : Action → (count : ℕ) → «Type» → (place : ℕ) → Todo
  Affect : Action → (count : ℕ) → (place : ℕ) → Todo
  -- the value of a side is the value of the whole `&&` or `||`: nothing is done, where the code copies it
  Settle : Todo
  -- the right side of `&&` or `||`, if the left side does not decide
  Decide : Logical → Term → Todo
  -- a new object of a struct
  Create : (struct : ℕ) → Todo
  -- The `count` values below the newest are stored in the fields of its object, one by one: a step writes at most one cell, as threads
  -- do. Nothing else refers to the object yet.
  Fill : (count : ℕ) → (fields : List ℕ) → (place : ℕ) → Todo
  -- the newest `count` values once more: an assignment that computes evaluates its operands once, and reads and writes with them
  Repeat : (count : ℕ) → Todo
  -- a local variable is assigned the newest value; the newest value is dropped; a local variable is set to the zero of
  -- its type
  Give : (local : ℕ) → Todo
  Forget : Todo
  Clear : (local : ℕ) → «Type» → Todo
  -- a function is called, or started as a goroutine, with the newest `count` values
  Enter : (function count : ℕ) → Todo
  Start : (function count : ℕ) → Todo
  -- a line with the newest `count` values is printed
  Write : List Piece → (count : ℕ) → Todo
  -- a statement, or several
  Execute : Stmt → Todo
  Sequence : Stmts → Todo
  -- these statements if the value is true; or one of two lists
  When : Stmts → Todo
  Choose : Stmts → Stmts → Todo
  -- The end of a block; the end of the first of two branches, or of a loop's turn: nothing is done. The code jumps at `Onward`.
  Close : Todo
  Onward : Todo
  -- a loop from its condition on; what the condition's value decides; and, after its body, the post statement and the
  -- loop again
  Turn : (test : Option Term) → (body post : Stmts) → Todo
  Test : (test : Option Term) → (body post : Stmts) → Todo
  Again : (test : Option Term) → (body post : Stmts) → Todo
  -- the function returns, with a value
  Leave : Todo
  -- the end of a function with a result, which no valid program reaches: the frame stays here
  Stay : Todo

-- The local variables by number; the values that are not used yet, the newest first; and what is to do, in order. If
-- nothing is to do, the function returns without a value. What is to do is a list and not a place in the tree: `break`, `continue` and
-- `return` drop a beginning of it.
pub record SourceFrame : Type 0 where
  pub locals : List Value
  pub values : List Value
  pub todo : List Todo

-- ---- local variables

-- the value of local variable n; nil if there is none, which never happens in a typed program
abbrev pub local_value : List Value → ℕ → Value
local_value locals n = get_or locals n Nil

-- the list gets longer if it has to be, so that an assignment is defined for every number
abbrev pub with_local_value : List Value → ℕ → Value → List Value
with_local_value [] zero v = v ∷ []
with_local_value [] (suc n) v = Nil ∷ with_local_value [] n v
with_local_value (u ∷ locals) zero v = v ∷ locals
with_local_value (u ∷ locals) (suc n) v = u ∷ with_local_value locals n v

-- ---- values

-- the value below `newer` newer ones; nil if there is none, which never happens in a typed program
abbrev pub value_below : List Value → ℕ → Value
value_below values newer = get_or values newer Nil

-- the value that was pushed last
abbrev pub newest_value : List Value → Value
newest_value values = value_below values 0

-- the last n values, in the order in which they came
abbrev pub last_values : ℕ → List Value → List Value
last_values n values = reverse (take n values)

-- the frame with other things to do, after `taken` values were taken and some were put
abbrev pub frame_with_todo : SourceFrame → ℕ → List Value → List Todo → SourceFrame
frame_with_todo f taken put todo = record { locals = f.locals; values = put ++ drop taken f.values; todo = todo }

-- this item in place of the newest and of up to `count` below it
abbrev pub replaced : {A : Type 0} → A → ℕ → List A → List A
replaced x count [] = []
replaced x count (y ∷ below) = x ∷ drop count below

-- ---- calls

-- What follows the body of a function, by its result: without one it returns. With one it stays, since there is no value to return; a
-- valid program never reaches this, as its body ends with a return.
abbrev pub closing : Option «Type» → List Todo
closing None = []
closing (Some ty) = Stay ∷ []

-- The parameters have the arguments, all other local variables the zero of their type. A declaration assigns again, each time that it is
-- executed.
abbrev pub new_source_frame : Function → List Value → SourceFrame
new_source_frame f arguments = record {
  locals = arguments ++ map zero_of (drop (length arguments) f.locals);
  values = [];
  todo = Sequence (stmts_of f.body) ∷ closing f.result_type;
}
