use Rattle.std.proofs.Common.{◌<◌}
use Rattle.rgo_core.specs.Rule.Views.{number_of}
use Rattle.rgo_core.specs.Rule.declared.accesses.Kind.TheVariants as kind
use Rattle.rgo_core.specs.moves.Chains.{frees}
use Rattle.rgo_core.specs.Memory.Words.{state_at}
use Rattle.rgo_core.specs.runs.Plans.{setup_of}
use Rattle.rgo_core.proofs.runs.Possible.{is_possible}
use Rattle.rgo_core_steps.proofs.record_steps.Paging.{free_moves}
use Rattle.rgo_core_steps.proofs.accesses.Lefts.{stored_after}
use Rattle.rgo_core_steps.proofs.tables.Layouts.{state_low}
use Rattle.rgo_core_steps.specs.Seats.{mine}
use Rattle.rgo_core_steps.proofs.pages.free.Goals as goal

pub store-requires-clause-own : goal.store-requires-clause-own
store-requires-clause-own c = (c.requires.own, rw c.state_at.ensures (state_low c.requires.layout c.args.page c.requires.page))

pub store-requires-clause-asks : goal.store-requires-clause-asks
store-requires-clause-asks c =
    let T = setup_of c.args.table.now.shared.key in
    let me = c.args.seat.now.me in
    (c.requires.alone, rw c.state_at.ensures (free_moves T (number_of me) (mine T me) c.args.slot c.args.page c.args.next c.requires.past))

pub returns-clause-leaves : goal.returns-clause-leaves
returns-clause-leaves c =
    let T = setup_of c.args.table.now.shared.key in
    let me = c.args.seat.now.me in
    let d = mine T me in
    stored_after T kind.FreePage (state_at c.args.sizes.now c.args.page) me c.store.new.seat.me (λ n e. 0 < d.clock.owed) 0
    (frees d c.args.slot c.args.next) (rw c.state_at.ensures at c.store.ensures.leaves)

pub returns-clause-owed : goal.returns-clause-owed
returns-clause-owed c = c.store.ensures.leaves.1.1.tells_so.1

pub returns-clause-possible : goal.returns-clause-possible
returns-clause-possible c = is_possible (setup_of c.args.table.now.shared.key) _ _ c.store.ensures.possible
