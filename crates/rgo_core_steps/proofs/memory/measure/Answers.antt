use Rattle.rgo_core.specs.Rule.Views.{number_of}
use Rattle.rgo_core.specs.runs.Plans.{setup_of}
use Rattle.rgo_core.proofs.runs.Possible.{is_possible}
use Rattle.rgo_core.proofs.accesses.Elements.{measure_move}
use Rattle.rgo_core_steps.proofs.record_steps.Settling.{settles}
use Rattle.rgo_core_steps.specs.Seats.{settled}
use Rattle.rgo_core_steps.proofs.memory.measure.Goals as goal

pub load-requires-clause-asks : goal.load-requires-clause-asks
load-requires-clause-asks c =
    let T = setup_of c.args.table.now.shared.key in
    let me = c.args.seat.now.me in
    (c.requires.alone, rw c.requires.at (settles T c.args.behind me _ _ _ c.requires.settles (measure_move T (number_of me) (settled T c.args.behind me) c.args.address c.requires.element)))

pub returns-clause-possible : goal.returns-clause-possible
returns-clause-possible c = is_possible (setup_of c.args.table.now.shared.key) _ _ c.load.ensures.possible
