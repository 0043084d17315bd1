use Rattle.std.proofs.Common.{refl, subst, sym}
use Rattle.rgo_core_steps.specs.Prints.{IsAtPrint}
use Rattle.rgo_acts.specs.Actors.{now}
use Rattle.rgo_acts.specs.Runs.{Run}
use Rattle.rgo_acts.proofs.clock.Printing.{is_print, printed}
use Rattle.rgo_acts.proofs.prints.print_line.Goals as goal

pub ticket-drawn-requires-clause-print : goal.ticket-drawn-requires-clause-print
ticket-drawn-requires-clause-print c =
    subst (λ (r : Run). IsAtPrint r.setup (now r.setup c.args.actor.now)) (sym c.run.view_is)
    (is_print c.args.run.now c.args.actor.now c.args.next.now c.requires.before c.args.pieces.now c.args.from.now c.requires.is c.requires.few)

pub returns-clause-printed : goal.returns-clause-printed
returns-clause-printed c =
    let a = c.args.actor.now in
    let b = record a { seat = c.ticket-drawn.new.seat; behind = 0; body = c.printed.new.self } in
    printed _ c.args.run.now c.run.view_is a b c.args.next.now c.requires.before c.args.pieces.now c.args.from.now c.requires.is
    c.ticket-drawn.ensures.own.0 refl c.ticket-drawn.ensures.possible
    (record { ticket = c.ticket-drawn.result.ticket; bytes = c.in_ok-bytes.bytes; is_void = c.ticket-drawn.result.is_void })
    c.in_ok-bytes.ensures c.ticket-drawn.ensures.drawn c.printed.ensures
