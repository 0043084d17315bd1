use Rattle.rgo_core.specs.runs.Plans.{setup_of}
use Rattle.rgo_pages.proofs.Chaining.{one_freed}
use Rattle.rgo_pages.proofs.releasing.free_page.Goals as goal

pub returns-clause-freed : goal.returns-clause-freed
returns-clause-freed g c =
    one_freed (setup_of c.args.table.now.shared.key) c.args.sizes.now c.args.slot c.args.page c.args.seat.now.me c.next-next.new.seat.me
    c.free.new.seat.me c.next-next.result c.next-next.ensures.leaves c.free.ensures.leaves
