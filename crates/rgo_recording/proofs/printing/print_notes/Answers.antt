use Rattle.std.proofs.Common.{arith}
use Rattle.rgo_recording.proofs.Texts.{note_printed}
use Rattle.rgo_recording.proofs.printing.print_notes.Goals as goal

pub loop-i-preserved : goal.loop-i-preserved
loop-i-preserved c =
    note_printed c.args.out.now.items c.loop-i.out.items c.print_note.new.out.items c.args.notes.now c.loop-i.i _
    (omega (arith, c.loop-i-test.true)) c.loop-i.invariant c.in_ok-print_note.ensures
