use Rattle.std.proofs.Common.{◌≡◌, [], length}
use Rattle.rgo_meaning.specs.Frames.{frame_with_todo}
use Rattle.rgo_meaning.specs.Todos.{after_continue}
use Rattle.rgo_source_interpreter.proofs.statements.next_turn.Given as goal

abbrev pub invariant-loop-frame : goal.invariant-loop-frame
invariant-loop-frame l =
    frame_with_todo l.frame 0 [] (after_continue l.frame.todo)
    ≡ frame_with_todo l.fn.frame 0 [] (after_continue l.fn.frame.todo)

abbrev pub decreases-loop-frame : goal.decreases-loop-frame
decreases-loop-frame l = length l.frame.todo
