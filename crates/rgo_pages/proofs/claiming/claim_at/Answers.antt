use Rattle.std.proofs.Common.{ap, ◌∙◌}
use Rattle.rgo_core.specs.runs.Plans.{setup_of}
use Rattle.rgo_core.specs.Records.{Record}
use Rattle.rgo_core_steps.specs.Pages.{tried_page}
use Rattle.rgo_core_steps.specs.Searches.{missing}
use Rattle.rgo_core_steps.specs.Seats.{settled}
use Rattle.rgo_pages.proofs.Chaining.{page_claimed}
use Rattle.rgo_pages.proofs.Trying.{takes_got}
use Rattle.rgo_pages.proofs.claiming.claim_at.Goals as goal

pub hook-requires-clause-alone : goal.hook-requires-clause-alone
hook-requires-clause-alone g c = c.in-Some.ensures.taken.1.took.made.grew.alone

pub hook-requires-clause-page : goal.hook-requires-clause-page
hook-requires-clause-page g c = c.in-Some.ensures.taken.0

pub hook-requires-clause-got : goal.hook-requires-clause-got
hook-requires-clause-got g c =
    let T = setup_of c.args.table.now.shared.key in
    let t = c.in-Some.ensures.taken.1.took in
    ap (λ (d : Record). d.memory.claim) t.made.after
    ∙ takes_got T (missing tried_page (settled T c.args.behind c.args.seat.now.me) t.tries) c.in-Some.page c.args.slot

pub returns-in-Some-clause-claimed : goal.returns-in-Some-clause-claimed
returns-in-Some-clause-claimed g c =
    let T = setup_of c.args.table.now.shared.key in
    let m = c.args.seat.now.me in
    page_claimed T c.args.sizes.now c.args.slot (settled T c.args.behind m) c.in-Some.page m c.take.new.seat.me c.hook.new.seat.me
    c.in-Some.ensures.taken.0 c.in-Some.ensures.taken.1 c.hook.ensures.hooked
