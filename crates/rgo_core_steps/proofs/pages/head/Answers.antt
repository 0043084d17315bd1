use Rattle.std.proofs.Common.{◌≡◌, ◌≤◌, subst, sym, arith}
use Rattle.rgo_core.specs.Rule.Views.{number_of}
use Rattle.rgo_core.specs.Rule.declared.accesses.Kind.TheVariants as kind
use Rattle.rgo_core.specs.moves.Chains.{remembers}
use Rattle.rgo_core.specs.Memory.Words.{head_at}
use Rattle.rgo_core.specs.Memory.Records.{Giving, with_give}
use Rattle.rgo_core.specs.runs.Plans.{setup_of}
use Rattle.rgo_core.proofs.runs.Possible.{is_possible}
use Rattle.rgo_core.proofs.pages.Chains.{head_move}
use Rattle.rgo_core_steps.proofs.accesses.Lefts.{left_as}
use Rattle.rgo_core_steps.proofs.tables.Layouts.{head_low}
use Rattle.rgo_core_steps.specs.Seats.{mine}
use Rattle.rgo_core_steps.proofs.pages.head.Goals as goal

pub load-requires-clause-own : goal.load-requires-clause-own
load-requires-clause-own c = (c.requires.own, rw c.head_at.ensures (head_low c.requires.layout c.args.slot (omega (arith, c.requires.slot))))

pub load-requires-clause-asks : goal.load-requires-clause-asks
load-requires-clause-asks c =
    let T = setup_of c.args.table.now.shared.key in
    let me = c.args.seat.now.me in
    (c.requires.alone, rw (c.head_at.ensures, c.requires.layout.sizes) (head_move T (number_of me) (mine T me) c.args.slot c.requires.owes))

pub returns-clause-leaves : goal.returns-clause-leaves
returns-clause-leaves c =
    let T = setup_of c.args.table.now.shared.key in
    let me = c.args.seat.now.me in
    let d = mine T me in
    let s = c.args.slot in
    left_as T kind.LoadHead (head_at c.args.sizes.now s) (λ n. n)
    {P = λ n e. (e ≡ remembers d (with_give d.memory (Giving s n))) × (n ≤ T.sizes.pages) × (d.clock.owed ≤ T.sizes.pages)}
    {Q = λ n e. e ≡ remembers d (with_give d.memory (Giving s n))} me c.load.result c.load.new.seat.me (λ e k. k.0)
    (rw c.head_at.ensures at c.load.ensures.leaves)

pub returns-clause-within : goal.returns-clause-within
returns-clause-within c = subst (λ z. c.load.result ≤ z.pages) (sym c.requires.layout.sizes) c.load.ensures.leaves.1.tells_so.1

pub returns-clause-owed : goal.returns-clause-owed
returns-clause-owed c = subst (λ z. (mine (setup_of c.args.table.now.shared.key) c.args.seat.now.me).clock.owed ≤ z.pages) (sym c.requires.layout.sizes) c.load.ensures.leaves.1.tells_so.2

pub returns-clause-possible : goal.returns-clause-possible
returns-clause-possible c = is_possible (setup_of c.args.table.now.shared.key) _ _ c.load.ensures.possible
