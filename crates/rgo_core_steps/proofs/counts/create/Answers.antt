use prog.Atomic.{either}
use Rattle.std.proofs.Common.{◌≡◌, ◌<◌, ◌==◌, false, subst, arith}
use Rattle.rgo_sound.specs.Stakes.{is_in}
use Rattle.rgo_core.specs.Memory.Words.{count_at}
use Rattle.rgo_core.specs.Rule.declared.accesses.Kind.TheVariants.{CreateRegion}
use Rattle.rgo_core_steps.specs.Counts.{tries_slot}
use Rattle.rgo_core_steps.proofs.accesses.Lefts.{left_as}
use Rattle.rgo_core.specs.Rule.Views.{number_of}
use Rattle.rgo_core.specs.runs.Plans.{setup_of}
use Rattle.rgo_core.proofs.runs.Possible.{is_possible}
use Rattle.rgo_core_steps.proofs.record_steps.Staking.{create_moves}
use Rattle.rgo_core_steps.proofs.tables.Layouts.{count_low}
use Rattle.rgo_core_steps.proofs.record_steps.Settling.{settles}
use Rattle.rgo_core_steps.specs.Seats.{settled}
use Rattle.rgo_core_steps.proofs.counts.create.Goals as goal

pub compare_exchange-requires-clause-own : goal.compare_exchange-requires-clause-own
compare_exchange-requires-clause-own c = (c.requires.own, rw c.count_at.ensures (count_low c.requires.layout c.args.slot (omega (arith, c.requires.slot))))

pub compare_exchange-requires-clause-asks : goal.compare_exchange-requires-clause-asks
compare_exchange-requires-clause-asks c =
    let T = setup_of c.args.table.now.shared.key in
    let me = c.args.seat.now.me in
    (c.requires.alone, rw (c.count_at.ensures, c.requires.layout.sizes) (settles T c.args.behind me _ _ _ c.requires.settles (create_moves T (number_of me) (settled T c.args.behind me) c.requires.rests c.args.slot c.requires.creates (subst (λ z. c.args.slot < z.slots) c.requires.layout.sizes c.requires.slot))))

pub returns-clause-leaves : goal.returns-clause-leaves
returns-clause-leaves c =
    let T = setup_of c.args.table.now.shared.key in
    let me = c.args.seat.now.me in
    let d = settled T c.args.behind me in
    let p = c.args.slot in
    left_as T CreateRegion (count_at c.args.sizes.now p) (λ n. either (n == 0) 2 n)
    {P = λ n e. (e ≡ tries_slot d p n) × (n ≡ 0 → is_in p d.frame.holder.stakes ≡ false)} {Q = λ n e. e ≡ tries_slot d p n}
    me c.compare_exchange.result c.compare_exchange.new.seat.me (λ e k. k.0) (rw c.count_at.ensures at c.compare_exchange.ensures.leaves)

pub returns-clause-fresh : goal.returns-clause-fresh
returns-clause-fresh c = c.compare_exchange.ensures.leaves.1.tells_so.1

pub returns-clause-possible : goal.returns-clause-possible
returns-clause-possible c = is_possible (setup_of c.args.table.now.shared.key) _ _ c.compare_exchange.ensures.possible
