use Rattle.std.proofs.Common.{arith}
use Rattle.rgo_core.specs.Rule.Views.{number_of}
use Rattle.rgo_core.specs.runs.Plans.{setup_of}
use Rattle.rgo_core.proofs.runs.Possible.{is_possible}
use Rattle.rgo_core_steps.proofs.record_steps.Paging.{hang_moves}
use Rattle.rgo_core_steps.proofs.tables.Layouts.{head_low}
use Rattle.rgo_core_steps.specs.Seats.{mine}
use Rattle.rgo_core_steps.proofs.pages.hang.Goals as goal

pub swap-requires-clause-own : goal.swap-requires-clause-own
swap-requires-clause-own c = (c.requires.own, rw c.head_at-word.ensures (head_low c.requires.layout c.args.slot (omega (arith, c.requires.slot))))

pub swap-requires-clause-asks : goal.swap-requires-clause-asks
swap-requires-clause-asks c =
    let T = setup_of c.args.table.now.shared.key in
    let me = c.args.seat.now.me in
    (c.requires.alone, rw (c.head_at-word.ensures, c.requires.layout.sizes) (hang_moves T (number_of me) (mine T me) c.args.page c.args.slot c.requires.got))

pub returns-clause-leaves : goal.returns-clause-leaves
returns-clause-leaves c = rw c.head_at-word.ensures at c.swap.ensures.leaves

pub returns-clause-possible : goal.returns-clause-possible
returns-clause-possible c = is_possible (setup_of c.args.table.now.shared.key) _ _ c.swap.ensures.possible
