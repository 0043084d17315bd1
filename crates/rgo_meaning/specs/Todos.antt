-- What terms and statements leave to do, before the things that follow them.
use Rattle.std.specs.Prelude.{ℕ, suc, List, [], ◌∷◌, Option, Some, None}
use Rattle.rgo_typed.specs.declared.actions.Action.TheVariants.{Binary}
use Rattle.rgo_typed.specs.Tree as tree
use Rattle.rgo_typed.specs.Tree.{Term, Terms, Stmt, Stmts, Change}
use Rattle.rgo_meaning.specs.Frames.{Todo, Evaluate, Each, Perform, Affect, Settle, Decide, Create, Fill, Repeat, Give}
use Rattle.rgo_meaning.specs.Frames.{Forget, Clear, Enter, Start, Write, Sequence, When, Choose, Close, Turn, Test}
use Rattle.rgo_meaning.specs.Frames.{Again, Leave}

-- how many terms these are, and so how many values are pushed when `Each` of them is done
abbrev pub term_count : Terms → ℕ
term_count tree.no_terms = 0
term_count (tree.a_term t ts) = suc (term_count ts)

-- for a term that is not a local variable: its parts first, from left to right
abbrev pub term_todo : Term → List Todo → List Todo
term_todo (tree.Local n) todo = todo
term_todo (tree.Apply action parts ty at) todo = Each parts ∷ Perform action (term_count parts) ty at ∷ todo
term_todo (tree.Logic op left right at) todo = Evaluate left ∷ Settle ∷ Decide op right ∷ todo
term_todo (tree.Build struct parts fields at) todo = Each parts ∷ Create struct ∷ Fill (term_count parts) fields at ∷ todo
term_todo (tree.Call function arguments ty at) todo = Each arguments ∷ Enter function (term_count arguments) ∷ todo

-- The operands, the read, the value, the operation, the write: the operands are evaluated once. So `a[i] += f()` reads the element before
-- it calls `f`.
abbrev pub update_todo : Change → List Todo → List Todo
update_todo c todo =
    Each c.operands ∷ Repeat (term_count c.operands) ∷ Perform c.read (term_count c.operands) c.ty c.read_at
    ∷ Evaluate c.value ∷ Perform (Binary c.op) 2 c.ty c.at ∷ Affect c.write (suc (term_count c.operands)) c.at ∷ todo

-- a loop from its condition on
abbrev pub turn_todo : Option Term → Stmts → Stmts → List Todo → List Todo
turn_todo None body post todo = Sequence body ∷ Again None body post ∷ todo
turn_todo (Some test) body post todo = Evaluate test ∷ Test (Some test) body post ∷ todo

-- nothing else is to do in the function, however deep in blocks and loops the return is
abbrev pub return_todo : Option Term → List Todo
return_todo None = []
return_todo (Some value) = Evaluate value ∷ Leave ∷ []

-- What follows the innermost loop. The first `Again` belongs to it: those of outer loops come later. Without a loop, which the typing
-- rules exclude, the function returns.
abbrev pub after_break : List Todo → List Todo
after_break [] = []
after_break (Again test body post ∷ todo) = todo
after_break (item ∷ todo) = after_break todo

-- the innermost loop at its post statement
abbrev pub after_continue : List Todo → List Todo
after_continue [] = []
after_continue (Again test body post ∷ todo) = Again test body post ∷ todo
after_continue (item ∷ todo) = after_continue todo

-- for a statement that branches, jumps or contains statements
abbrev pub flow_todo : Stmt → List Todo → List Todo
flow_todo (tree.Block all) todo = Sequence all ∷ Close ∷ todo
flow_todo (tree.If test body at) todo = Evaluate test ∷ When body ∷ todo
flow_todo (tree.IfElse test body other at) todo = Evaluate test ∷ Choose body other ∷ todo
flow_todo (tree.Loop test body post at) todo = Turn test body post ∷ todo
flow_todo (tree.Break at) todo = after_break todo
flow_todo (tree.Continue at) todo = after_continue todo
flow_todo (tree.Return value at) todo = return_todo value
flow_todo _ todo = todo

-- A store and a send evaluate all their parts before they act: in `p.f = e` a nil p traps after e is evaluated. docs/LANGUAGE.md,
-- "Order", says this; the code does the same.
abbrev pub statement_todo : Stmt → List Todo → List Todo
statement_todo (tree.Declare n ty value at) todo = Evaluate value ∷ Give n ∷ todo
statement_todo (tree.Zero n ty at) todo = Clear n ty ∷ todo
statement_todo (tree.Assign n value at) todo = Evaluate value ∷ Give n ∷ todo
statement_todo (tree.Perform action operands at) todo = Each operands ∷ Affect action (term_count operands) at ∷ todo
statement_todo (tree.Update change) todo = update_todo change todo
statement_todo (tree.Discard value) todo = Evaluate value ∷ Forget ∷ todo
statement_todo (tree.Invoke function arguments at) todo = Each arguments ∷ Enter function (term_count arguments) ∷ todo
statement_todo (tree.Go function arguments at) todo = Each arguments ∷ Start function (term_count arguments) ∷ todo
statement_todo (tree.Print pieces values at) todo = Each values ∷ Write pieces (term_count values) ∷ todo
statement_todo s todo = flow_todo s todo
