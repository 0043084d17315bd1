use Rattle.rgo_recording.proofs.Texts.{line_printed}
use Rattle.std.proofs.Common.{sym, append-nil}
use Rattle.rgo_recording.proofs.printing.print_times.Goals as goal

pub loop-taken-init : goal.loop-taken-init
loop-taken-init c = λ pick is. sym (append-nil c.args.out.now.items)

pub loop-taken-preserved : goal.loop-taken-preserved
loop-taken-preserved c = λ pick is.
    line_printed c.args.out.now.items c.loop-taken.out.items c.extend_from_slice.new.self.items pick c.loop-taken.taken
    c.args.line.now is (c.loop-taken.invariant pick is) c.in_ok-extend_from_slice.ensures.items
