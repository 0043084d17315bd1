use Rattle.rgo_core_rule.specs.Views.{number_of, record_of}
use Rattle.rgo_core.specs.runs.Opening.{first_of}
use Rattle.rgo_core.specs.runs.Plans.{setup_of}
use Rattle.rgo_core.proofs.clock.ClockLifts.{look_law}
use Rattle.rgo_core.proofs.runs.Possible.{is_possible}
use Rattle.rgo_core.proofs.table.look.Goals as goal

pub load-requires-clause-asks : goal.load-requires-clause-asks
load-requires-clause-asks c =
    let key = c.args.table.now.shared.key in
    let me = c.args.seat.now.me in
    (c.requires.alone, look_law (setup_of key) (number_of me) (record_of (first_of key.code.value) me))

pub returns-clause-possible : goal.returns-clause-possible
returns-clause-possible c =
    let key = c.args.table.now.shared.key in
    let me = c.load.new.seat.me in
    is_possible (setup_of key) (number_of me) (record_of (first_of key.code.value) me) c.load.ensures.possible
