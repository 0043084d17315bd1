use Rattle.std.proofs.Common.{ap}
use Rattle.rgo_core.specs.runs.Plans.{setup_of}
use Rattle.rgo_core.specs.Records.{Record}
use Rattle.rgo_core_steps.specs.Seats.{mine}
use Rattle.rgo_core_steps.proofs.accesses.Calling.{left_record}
use Rattle.rgo_chan.proofs.Carrying.{there_as}
use Rattle.rgo_chan.proofs.Looking.{looked_both}
use Rattle.rgo_chan.proofs.looks.look.Goals as goal

pub control-control-requires-clause-here : goal.control-control-requires-clause-here
control-control-requires-clause-here g c =
    let T = setup_of c.args.table.now.shared.key in
    let v = c.capacity-size.new.seat.me in
    let shows = left_record T c.args.seat.now.me v c.capacity-size.ensures.leaves in
    there_as (mine T v) (ap (λ (d : Record). d.frame) shows.is) (ap (λ (d : Record). d.side.post) shows.is) c.requires.here

pub returns-clause-looked : goal.returns-clause-looked
returns-clause-looked g c =
    looked_both (setup_of c.args.table.now.shared.key) c.args.at c.args.behind c.args.seat.now.me c.capacity-size.new.seat.me
    c.control-control.new.seat.me c.capacity-size.result c.control-control.result c.args.steps.now c.tick.new.self c.tick-2.new.self
    c.requires.settles c.capacity-size.ensures.leaves c.control-control.ensures.leaves c.tick.ensures c.tick-2.ensures
