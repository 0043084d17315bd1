use Rattle.std.proofs.Common.{◌≡◌, true, sym, subst, ◌∙◌}
use Rattle.rgo_core.specs.Channels.Controls.{spreads}
use Rattle.rgo_core.specs.runs.Plans.{setup_of}
use Rattle.rgo_chan.proofs.CellWords.{by_number}
use Rattle.rgo_chan.proofs.reaching.reach.Goals as goal

pub returns-clause-reached : goal.returns-clause-reached
returns-clause-reached g c =
    by_number (setup_of c.args.table.now.shared.key) c.args.at c.args.size c.args.cell c.args.pages.words c.requires.paged.1
    c.args.seat.now.me c.page_number-number.new.seat.me c.page_number-number.result c.page_number-number.ensures.leaves
    c.args.pages.base c.args.steps.now c.tick.new.self c.requires.paged.0 c.tick.ensures
    (subst (λ n. spreads n c.args.size ≡ true) c.requires.paged.1 (sym c.is_spread.ensures ∙ c.if-not-is_spread.false))
