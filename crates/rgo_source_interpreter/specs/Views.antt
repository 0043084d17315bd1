-- The view of what is to do: the plain data that contracts see of the code's references into the typed tree.
use Rattle.std.specs.Prelude.{map}
use Rattle.rgo_typed.specs.Tree.{terms_of, stmts_of}
use Rattle.rgo_typed.specs.Views as typed
use Rattle.rgo_source_interpreter.specs.declared.frames.Todo.{Todo as CodeTodo}
use Rattle.rgo_source_interpreter.specs.declared.frames.Todo.TheVariants as code
use Rattle.rgo_meaning.specs.Frames as todo
use Rattle.rgo_meaning.specs.Frames.{Todo}

abbrev pub todo_of : CodeTodo → Todo
todo_of (code.Evaluate t) = todo.Evaluate (typed.term_of t.now)
todo_of (code.Each ts) = todo.Each (terms_of (map typed.term_of ts.now))
todo_of (code.Perform action count ty at) = todo.Perform action count ty.now at
todo_of (code.Affect action count at) = todo.Affect action count at
todo_of code.Settle = todo.Settle
todo_of (code.Decide op right) = todo.Decide op (typed.term_of right.now)
todo_of (code.Create struct) = todo.Create struct
todo_of (code.Fill count fields at) = todo.Fill count fields.now at
todo_of (code.Repeat count) = todo.Repeat count
todo_of (code.Give n) = todo.Give n
todo_of code.Forget = todo.Forget
todo_of (code.Clear n ty) = todo.Clear n ty.now
todo_of (code.Enter function count) = todo.Enter function count
todo_of (code.Start function count) = todo.Start function count
todo_of (code.Write pieces count) = todo.Write pieces.now count
todo_of (code.Execute s) = todo.Execute (typed.stmt_of s.now)
todo_of (code.Sequence ss) = todo.Sequence (stmts_of (map typed.stmt_of ss.now))
todo_of (code.When body) = todo.When (stmts_of (map typed.stmt_of body.now))
todo_of (code.Choose body other) =
    todo.Choose (stmts_of (map typed.stmt_of body.now)) (stmts_of (map typed.stmt_of other.now))
todo_of code.Close = todo.Close
todo_of code.Onward = todo.Onward
todo_of (code.Turn test body post) =
    todo.Turn (typed.boxed_term_of test.now) (stmts_of (map typed.stmt_of body.now))
    (stmts_of (map typed.stmt_of post.now))
todo_of (code.Test test body post) =
    todo.Test (typed.boxed_term_of test.now) (stmts_of (map typed.stmt_of body.now))
    (stmts_of (map typed.stmt_of post.now))
todo_of (code.Again test body post) =
    todo.Again (typed.boxed_term_of test.now) (stmts_of (map typed.stmt_of body.now))
    (stmts_of (map typed.stmt_of post.now))
todo_of code.Leave = todo.Leave
todo_of code.Stay = todo.Stay
