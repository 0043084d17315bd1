use Rattle.std.proofs.Common.{arith}
use Rattle.rgo_core.specs.Rule.Views.{number_of}
use Rattle.rgo_core.specs.runs.Plans.{setup_of}
use Rattle.rgo_core.proofs.runs.Possible.{is_possible}
use Rattle.rgo_core.proofs.pages.Chains.{slot_move}
use Rattle.rgo_core_steps.proofs.tables.Layouts.{count_low}
use Rattle.rgo_core_steps.specs.Seats.{mine}
use Rattle.rgo_core_steps.proofs.counts.free_slot.Goals as goal

pub store-requires-clause-own : goal.store-requires-clause-own
store-requires-clause-own c = (c.requires.own, rw c.count_at.ensures (count_low c.requires.layout c.args.slot (omega (arith, c.requires.slot))))

pub store-requires-clause-asks : goal.store-requires-clause-asks
store-requires-clause-asks c =
    let T = setup_of c.args.table.now.shared.key in
    let me = c.args.seat.now.me in
    (c.requires.alone, rw (c.count_at.ensures, c.requires.layout.sizes) (slot_move T (number_of me) (mine T me) c.args.slot c.requires.gave))

pub returns-clause-leaves : goal.returns-clause-leaves
returns-clause-leaves c = rw c.count_at.ensures at c.store.ensures.leaves

pub returns-clause-possible : goal.returns-clause-possible
returns-clause-possible c = is_possible (setup_of c.args.table.now.shared.key) _ _ c.store.ensures.possible
