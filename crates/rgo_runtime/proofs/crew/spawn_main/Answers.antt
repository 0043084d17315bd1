use Rattle.std.proofs.Common.{◌∙◌, ap, subst, sym}
use Rattle.rgo_table_runs.specs.Goroutine.Goroutines.{IsOf}
use Rattle.rgo_runtime.proofs.crews.Parts.{begins_again}
use Rattle.rgo_runtime.proofs.crew.spawn_main.Goals as goal

pub retire-requires-clause-of : goal.retire-requires-clause-of
retire-requires-clause-of c = subst (IsOf c.args.run.now) (sym c.in-Err-new.ensures.value_returned) c.in-Ok.ensures.main.0

pub returns-in-Err-new-clause-seat : goal.returns-in-Err-new-clause-seat
returns-in-Err-new-clause-seat c =
    let run = c.args.run.now in
    let main = c.in-Ok.ensures.main in
    let back = c.in-Err-new.ensures.value_returned in
    begins_again run c.in-Err-new.failed.value (ap (λ go. go.actor.seat.me) back ∙ (main.2 ∙ c.requires.first)) c.main_goroutine.new.seat.me c.retire.new.seat.me
    (ap (λ go. go.number) back ∙ main.1) c.in-Ok.ensures.seat c.retire.ensures.records c.retire.ensures.seen c.retire.ensures.slots
    ∙ sym c.requires.first
