use Rattle.rgo_core.specs.Rule.Views.{number_of}
use Rattle.rgo_core.specs.runs.Plans.{setup_of}
use Rattle.rgo_core.proofs.runs.Possible.{is_possible}
use Rattle.rgo_core.proofs.pages.Chains.{link_move}
use Rattle.rgo_core_steps.proofs.tables.Layouts.{next_low}
use Rattle.rgo_core_steps.specs.Seats.{mine}
use Rattle.rgo_core_steps.proofs.pages.link.Goals as goal

pub store-requires-clause-own : goal.store-requires-clause-own
store-requires-clause-own c = (c.requires.own, rw c.next_at.ensures (next_low c.requires.layout c.args.page c.requires.page))

pub store-requires-clause-asks : goal.store-requires-clause-asks
store-requires-clause-asks c =
    let T = setup_of c.args.table.now.shared.key in
    let me = c.args.seat.now.me in
    (c.requires.alone, rw (c.next_at.ensures, c.requires.layout.sizes) (link_move T (number_of me) (mine T me) c.args.page c.args.slot c.args.old c.requires.hung))

pub returns-clause-leaves : goal.returns-clause-leaves
returns-clause-leaves c = rw c.next_at.ensures at c.store.ensures.leaves

pub returns-clause-possible : goal.returns-clause-possible
returns-clause-possible c = is_possible (setup_of c.args.table.now.shared.key) _ _ c.store.ensures.possible
