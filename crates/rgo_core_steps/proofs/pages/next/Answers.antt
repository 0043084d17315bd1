use Rattle.std.proofs.Common.{◌+◌, ◌≤◌, subst, sym}
use Rattle.rgo_core.specs.Rule.Views.{number_of}
use Rattle.rgo_core.specs.Rule.declared.accesses.Kind.TheVariants as kind
use Rattle.rgo_core.specs.moves.Chains.{remembers}
use Rattle.rgo_core.specs.Memory.Words.{next_at}
use Rattle.rgo_core.specs.Memory.Records.{Past, with_give}
use Rattle.rgo_core.specs.runs.Plans.{setup_of}
use Rattle.rgo_core.proofs.runs.Possible.{is_possible}
use Rattle.rgo_core_steps.proofs.record_steps.Paging.{next_moves}
use Rattle.rgo_core_steps.proofs.accesses.Lefts.{left_after}
use Rattle.rgo_core_steps.proofs.tables.Layouts.{next_low}
use Rattle.rgo_core_steps.specs.Seats.{mine}
use Rattle.rgo_core_steps.proofs.pages.next.Goals as goal

pub load-requires-clause-own : goal.load-requires-clause-own
load-requires-clause-own c = (c.requires.own, rw c.next_at.ensures (next_low c.requires.layout c.args.page c.requires.page))

pub load-requires-clause-asks : goal.load-requires-clause-asks
load-requires-clause-asks c =
    let T = setup_of c.args.table.now.shared.key in
    let me = c.args.seat.now.me in
    (c.requires.alone, rw (c.next_at.ensures, c.requires.layout.sizes) (next_moves T (number_of me) (mine T me) c.args.slot c.args.page c.requires.gives))

pub returns-clause-leaves : goal.returns-clause-leaves
returns-clause-leaves c =
    let T = setup_of c.args.table.now.shared.key in
    let me = c.args.seat.now.me in
    let d = mine T me in
    left_after T kind.LoadNext (next_at c.args.sizes.now c.args.page) me c.load.new.seat.me (λ n e. n ≤ T.sizes.pages) c.load.result
    (λ n. remembers d (with_give d.memory (Past c.args.slot (c.args.page + 1) n))) (rw c.next_at.ensures at c.load.ensures.leaves)

pub returns-clause-within : goal.returns-clause-within
returns-clause-within c = subst (λ z. c.load.result ≤ z.pages) (sym c.requires.layout.sizes) c.load.ensures.leaves.1.tells_so.1

pub returns-clause-possible : goal.returns-clause-possible
returns-clause-possible c = is_possible (setup_of c.args.table.now.shared.key) _ _ c.load.ensures.possible
