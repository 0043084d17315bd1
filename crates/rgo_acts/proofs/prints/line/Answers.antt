use Rattle.std.proofs.Common.{ap, List, ◌++◌, ◌∙◌}
use Rattle.rgo_sound.specs.Machine.Lines.{printed_line}
use Rattle.rgo_acts.proofs.clock.Printing.{line_is}
use Rattle.rgo_acts.proofs.prints.line.Goals as goal

pub returns : goal.returns
returns c =
    line_is c.args.run.now c.args.actor.now c.args.next.now c.requires.before c.args.pieces.now c.args.from.now c.requires.is
    c.write_line.new.out.items
    (c.in_ok-write_line.ensures.appends
    ∙ (ap (λ (xs : List _). xs ++ printed_line c.args.pieces.now c.deref.result.now) c.new-bytes.ensures.items
    ∙ ap (printed_line c.args.pieces.now) (c.deref.ensures.value ∙ c.in_ok-values.ensures)))
