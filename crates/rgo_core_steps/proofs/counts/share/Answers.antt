use Rattle.std.proofs.Common.{arith}
use Rattle.rgo_core.specs.Rule.Views.{number_of}
use Rattle.rgo_core.specs.runs.Plans.{setup_of}
use Rattle.rgo_core.proofs.runs.Possible.{is_possible}
use Rattle.rgo_core_steps.proofs.record_steps.Staking.{share_moves}
use Rattle.rgo_core_steps.proofs.tables.Layouts.{count_low}
use Rattle.rgo_core_steps.proofs.record_steps.Settling.{settles}
use Rattle.rgo_core_steps.specs.Seats.{settled}
use Rattle.rgo_core_steps.proofs.counts.share.Goals as goal

pub fetch_add-requires-clause-own : goal.fetch_add-requires-clause-own
fetch_add-requires-clause-own c = (c.requires.own, rw c.count_at.ensures (count_low c.requires.layout c.args.slot (omega (arith, c.requires.slot))))

pub fetch_add-requires-clause-asks : goal.fetch_add-requires-clause-asks
fetch_add-requires-clause-asks c =
    let T = setup_of c.args.table.now.shared.key in
    let me = c.args.seat.now.me in
    (c.requires.alone, rw (c.count_at.ensures, c.requires.layout.sizes) (settles T c.args.behind me _ _ _ c.requires.settles (share_moves T (number_of me) (settled T c.args.behind me) c.requires.rests c.args.slot c.requires.shares)))

pub returns-clause-leaves : goal.returns-clause-leaves
returns-clause-leaves c = rw c.count_at.ensures at c.fetch_add.ensures.leaves

pub returns-clause-possible : goal.returns-clause-possible
returns-clause-possible c = is_possible (setup_of c.args.table.now.shared.key) _ _ c.fetch_add.ensures.possible
