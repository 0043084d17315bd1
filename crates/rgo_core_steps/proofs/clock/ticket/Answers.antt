use Rattle.rgo_core.specs.Rule.Views.{number_of}
use Rattle.rgo_core.specs.runs.Plans.{setup_of}
use Rattle.rgo_core.proofs.runs.Possible.{is_possible}
use Rattle.rgo_core_steps.specs.Seats.{settled}
use Rattle.rgo_core_steps.proofs.record_steps.Clocking.{ticket_moves}
use Rattle.rgo_core_steps.proofs.record_steps.Settling.{settles}
use Rattle.rgo_core_steps.proofs.clock.ticket.Goals as goal

pub fetch_add-found-requires-clause-asks : goal.fetch_add-found-requires-clause-asks
fetch_add-found-requires-clause-asks c =
    let T = setup_of c.args.table.now.shared.key in
    let me = c.args.seat.now.me in
    (c.requires.alone, settles T c.args.behind me _ _ _ c.requires.settles (ticket_moves T (number_of me) (settled T c.args.behind me) c.requires.print))

pub returns-clause-possible : goal.returns-clause-possible
returns-clause-possible c = is_possible (setup_of c.args.table.now.shared.key) _ _ c.fetch_add-found.ensures.possible
