use Rattle.rgo_core.specs.Rule.Views.{number_of}
use Rattle.rgo_core.specs.runs.Plans.{setup_of}
use Rattle.rgo_core.proofs.runs.Possible.{is_possible}
use Rattle.rgo_core_steps.specs.Seats.{mine}
use Rattle.rgo_core_steps.proofs.accesses.Channels.{lock_locks}
use Rattle.rgo_core_steps.proofs.channels.lock.Goals as goal

pub compare_exchange-requires-clause-asks : goal.compare_exchange-requires-clause-asks
compare_exchange-requires-clause-asks c =
    let T = setup_of c.args.table.now.shared.key in
    let me = c.args.seat.now.me in
    (c.requires.alone, lock_locks T (number_of me) (mine T me) c.args.at c.args.control c.requires.here c.requires.unlocked c.requires.free)

pub returns-clause-possible : goal.returns-clause-possible
returns-clause-possible c = is_possible (setup_of c.args.table.now.shared.key) _ _ c.compare_exchange.ensures.possible
