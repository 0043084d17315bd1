use Rattle.rgo_core.specs.Rule.Views.{number_of}
use Rattle.rgo_core.specs.Rule.declared.accesses.Kind.TheVariants as kind
use Rattle.rgo_core_steps.specs.Making.{NewPoints, filling}
use Rattle.rgo_core.specs.runs.Plans.{setup_of}
use Rattle.rgo_core.proofs.runs.Possible.{is_possible}
use Rattle.rgo_core_steps.proofs.accesses.Lefts.{stored_after}
use Rattle.rgo_core_steps.proofs.making.Objects.{zero_moves}
use Rattle.rgo_core_steps.proofs.record_steps.Settling.{settles}
use Rattle.rgo_core_steps.specs.Seats.{settled}
use Rattle.rgo_core_steps.proofs.memory.zero.Goals as goal

pub store-requires-clause-asks : goal.store-requires-clause-asks
store-requires-clause-asks c =
    let T = setup_of c.args.table.now.shared.key in
    let me = c.args.seat.now.me in
    (c.requires.alone, settles T c.args.behind me _ _ _ c.requires.settles (zero_moves (number_of me) c.requires.new c.requires.rests))

pub returns-clause-leaves : goal.returns-clause-leaves
returns-clause-leaves c =
    let T = setup_of c.args.table.now.shared.key in
    let me = c.args.seat.now.me in
    let d = settled T c.args.behind me in
    stored_after T kind.Fill c.args.word me c.store.new.seat.me (λ n e. NewPoints T d c.args.index) c.args.value (filling T d c.args.index)
    c.store.ensures.leaves

pub returns-clause-points : goal.returns-clause-points
returns-clause-points c = c.store.ensures.leaves.1.1.tells_so.1

pub returns-clause-possible : goal.returns-clause-possible
returns-clause-possible c = is_possible (setup_of c.args.table.now.shared.key) _ _ c.store.ensures.possible
