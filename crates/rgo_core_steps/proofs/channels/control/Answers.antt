use Rattle.rgo_core.specs.Rule.Views.{number_of}
use Rattle.rgo_core.specs.runs.Plans.{setup_of}
use Rattle.rgo_core.proofs.runs.Possible.{is_possible}
use Rattle.rgo_core_steps.specs.Channels.{ShowsControl}
use Rattle.rgo_core_steps.specs.Seats.{settled}
use Rattle.rgo_core_steps.proofs.accesses.Channels.{control_shows}
use Rattle.rgo_core_steps.proofs.record_steps.Settling.{settles}
use Rattle.rgo_core_steps.proofs.channels.control.Goals as goal

pub load-requires-clause-asks : goal.load-requires-clause-asks
load-requires-clause-asks c =
    let T = setup_of c.args.table.now.shared.key in
    let me = c.args.seat.now.me in
    let d = settled T c.args.behind me in (
      c.requires.alone,
      settles T c.args.behind me c.args.at (λ n. n) (ShowsControl d c.args.at) c.requires.settles
          (control_shows T (number_of me) d c.args.at c.requires.here),
    )

pub returns-clause-possible : goal.returns-clause-possible
returns-clause-possible c = is_possible (setup_of c.args.table.now.shared.key) _ _ c.load.ensures.possible
