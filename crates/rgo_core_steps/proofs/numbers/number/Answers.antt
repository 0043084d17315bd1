use Rattle.rgo_core.specs.Rule.Views.{number_of}
use Rattle.rgo_core.specs.runs.Plans.{setup_of}
use Rattle.rgo_core_steps.specs.Seats.{settled}
use Rattle.rgo_core_steps.proofs.record_steps.Settling.{settles_either}
use Rattle.rgo_core_steps.proofs.record_steps.Drawing.{above, below, child_possible, drawn_none, drawn_possible, drawn_some, number_moves}
use Rattle.rgo_core_steps.proofs.numbers.number.Goals as goal

pub fetch_add_start-found-requires-clause-asks : goal.fetch_add_start-found-requires-clause-asks
fetch_add_start-found-requires-clause-asks c =
    let T = setup_of c.args.table.now.shared.key in
    let me = c.args.seat.now.me in
    (c.requires.alone, settles_either T c.args.behind me _ _ _ _ c.requires.settles (number_moves T (number_of me) (settled T c.args.behind me) c.requires.start))

pub returns-then-found-most-clause-drawn : goal.returns-then-found-most-clause-drawn
returns-then-found-most-clause-drawn c = drawn_some (setup_of c.args.table.now.shared.key) c.args.behind c.args.seat.now.me c.fetch_add_start-found.result c.fetch_add_start-found.new.seat.me (below c.fetch_add_start-found.result c.max-most.result c.args.limits.now (setup_of c.args.table.now.shared.key).limits c.max-most.ensures c.requires.limits c.if-found-most.true) c.fetch_add_start-found.ensures.told

pub returns-else-found-most-clause-drawn : goal.returns-else-found-most-clause-drawn
returns-else-found-most-clause-drawn c = drawn_none (setup_of c.args.table.now.shared.key) c.args.behind c.args.seat.now.me c.fetch_add_start-found.result c.fetch_add_start-found.new.seat.me (above c.fetch_add_start-found.result c.max-most.result c.args.limits.now (setup_of c.args.table.now.shared.key).limits c.max-most.ensures c.requires.limits c.if-found-most.false) c.fetch_add_start-found.ensures.told

pub returns-then-found-most-clause-possible : goal.returns-then-found-most-clause-possible
returns-then-found-most-clause-possible c = drawn_possible (setup_of c.args.table.now.shared.key) c.args.behind c.args.seat.now.me c.fetch_add_start-found.result c.fetch_add_start-found.new.seat.me c.fetch_add_start-found.ensures.told c.fetch_add_start-found.ensures.possible

pub returns-else-found-most-clause-possible : goal.returns-else-found-most-clause-possible
returns-else-found-most-clause-possible c = drawn_possible (setup_of c.args.table.now.shared.key) c.args.behind c.args.seat.now.me c.fetch_add_start-found.result c.fetch_add_start-found.new.seat.me c.fetch_add_start-found.ensures.told c.fetch_add_start-found.ensures.possible

pub returns-then-found-most-clause-child : goal.returns-then-found-most-clause-child
returns-then-found-most-clause-child c = child_possible (setup_of c.args.table.now.shared.key) c.args.behind c.args.seat.now.me c.fetch_add_start-found.result c.fetch_add_start-found.new.seat.me (below c.fetch_add_start-found.result c.max-most.result c.args.limits.now (setup_of c.args.table.now.shared.key).limits c.max-most.ensures c.requires.limits c.if-found-most.true) c.fetch_add_start-found.ensures.told c.fetch_add_start-found.ensures.possible
