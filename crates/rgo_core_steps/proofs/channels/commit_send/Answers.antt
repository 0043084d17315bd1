use Rattle.rgo_core.specs.Rule.Views.{number_of}
use Rattle.rgo_core.specs.runs.Plans.{setup_of}
use Rattle.rgo_core.proofs.runs.Possible.{is_possible}
use Rattle.rgo_core_steps.specs.Seats.{mine}
use Rattle.rgo_core_steps.proofs.accesses.Channels.{send_commits}
use Rattle.rgo_core_steps.proofs.channels.commit_send.Goals as goal

pub store-requires-clause-asks : goal.store-requires-clause-asks
store-requires-clause-asks c =
    let T = setup_of c.args.table.now.shared.key in
    let me = c.args.seat.now.me in
    (c.requires.alone, send_commits T (number_of me) (mine T me) c.args.at c.args.control c.requires.ready)

pub returns-clause-possible : goal.returns-clause-possible
returns-clause-possible c = is_possible (setup_of c.args.table.now.shared.key) _ _ c.store.ensures.possible
