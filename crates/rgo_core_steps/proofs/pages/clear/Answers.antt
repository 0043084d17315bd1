use Rattle.std.proofs.Common.{◌≡◌, arith}
use Rattle.rgo_core.specs.Rule.Views.{number_of}
use Rattle.rgo_core.specs.Rule.declared.accesses.Kind.TheVariants as kind
use Rattle.rgo_core.specs.moves.Chains.{remembers}
use Rattle.rgo_core.specs.Memory.Words.{head_at}
use Rattle.rgo_core.specs.Memory.Records.{Gave, with_give}
use Rattle.rgo_core.specs.runs.Plans.{setup_of}
use Rattle.rgo_core.proofs.runs.Possible.{is_possible}
use Rattle.rgo_core.proofs.pages.Chains.{clear_move}
use Rattle.rgo_core_steps.proofs.accesses.Lefts.{stored_after}
use Rattle.rgo_core_steps.proofs.tables.Layouts.{head_low}
use Rattle.rgo_core_steps.specs.Seats.{mine}
use Rattle.rgo_core_steps.proofs.pages.clear.Goals as goal

pub store-requires-clause-own : goal.store-requires-clause-own
store-requires-clause-own c = (c.requires.own, rw c.head_at.ensures (head_low c.requires.layout c.args.slot (omega (arith, c.requires.slot))))

pub store-requires-clause-asks : goal.store-requires-clause-asks
store-requires-clause-asks c =
    let T = setup_of c.args.table.now.shared.key in
    let me = c.args.seat.now.me in
    (c.requires.alone, rw (c.head_at.ensures, c.requires.layout.sizes) (clear_move T (number_of me) (mine T me) c.args.slot c.requires.given))

pub returns-clause-leaves : goal.returns-clause-leaves
returns-clause-leaves c =
    let T = setup_of c.args.table.now.shared.key in
    let me = c.args.seat.now.me in
    let d = mine T me in
    stored_after T kind.ClearHead (head_at c.args.sizes.now c.args.slot) me c.store.new.seat.me (λ n e. d.clock.owed ≡ 0) 0
    (remembers d (with_give d.memory (Gave c.args.slot))) (rw c.head_at.ensures at c.store.ensures.leaves)

pub returns-clause-owed : goal.returns-clause-owed
returns-clause-owed c = c.store.ensures.leaves.1.1.tells_so.1

pub returns-clause-possible : goal.returns-clause-possible
returns-clause-possible c = is_possible (setup_of c.args.table.now.shared.key) _ _ c.store.ensures.possible
