use Rattle.std.proofs.Common.{◌≡◌, [], length}
use Rattle.rgo_meaning.specs.Frames.{frame_with_todo}
use Rattle.rgo_meaning.specs.Todos.{after_break}
use Rattle.rgo_source_interpreter.proofs.statements.leave_loop.Given as goal

abbrev pub invariant-loop : goal.invariant-loop
invariant-loop l =
    frame_with_todo l.frame 0 [] (after_break l.frame.todo)
    ≡ frame_with_todo l.fn.frame 0 [] (after_break l.fn.frame.todo)

abbrev pub decreases-loop : goal.decreases-loop
decreases-loop l = length l.frame.todo
