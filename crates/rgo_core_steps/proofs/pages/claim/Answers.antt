use Rattle.std.proofs.Common.{◌<◌, subst}
use Rattle.rgo_core.specs.Rule.Views.{number_of}
use Rattle.rgo_core.specs.runs.Plans.{setup_of}
use Rattle.rgo_core.proofs.runs.Possible.{is_possible}
use Rattle.rgo_core_steps.proofs.record_steps.Paging.{claim_moves}
use Rattle.rgo_core_steps.proofs.tables.Layouts.{state_low}
use Rattle.rgo_core_steps.proofs.record_steps.Settling.{settles}
use Rattle.rgo_core_steps.specs.Seats.{settled}
use Rattle.rgo_core_steps.proofs.pages.claim.Goals as goal

pub compare_exchange-requires-clause-own : goal.compare_exchange-requires-clause-own
compare_exchange-requires-clause-own c = (c.requires.own, rw c.state_at-word.ensures (state_low c.requires.layout c.args.page c.requires.page))

pub compare_exchange-requires-clause-asks : goal.compare_exchange-requires-clause-asks
compare_exchange-requires-clause-asks c =
    let T = setup_of c.args.table.now.shared.key in
    let me = c.args.seat.now.me in
    (c.requires.alone, rw c.state_at-word.ensures (settles T c.args.behind me _ _ _ c.requires.settles (claim_moves T (number_of me) (settled T c.args.behind me) c.args.page c.args.slot c.requires.calm c.requires.needs (subst (λ z. c.args.page < z.pages) c.requires.layout.sizes c.requires.page))))

pub returns-clause-leaves : goal.returns-clause-leaves
returns-clause-leaves c = rw c.state_at-word.ensures at c.compare_exchange.ensures.leaves

pub returns-clause-possible : goal.returns-clause-possible
returns-clause-possible c = is_possible (setup_of c.args.table.now.shared.key) _ _ c.compare_exchange.ensures.possible
