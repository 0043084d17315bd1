use Rattle.rgo_core.specs.runs.Plans.{setup_of}
use Rattle.rgo_pages.proofs.Chaining.{hooked}
use Rattle.rgo_pages.proofs.claiming.hook.Goals as goal

pub returns-clause-hooked : goal.returns-clause-hooked
returns-clause-hooked g c =
    hooked (setup_of c.args.table.now.shared.key) c.args.sizes.now c.args.slot c.args.page c.args.seat.now.me c.hang-head.new.seat.me
    c.link.new.seat.me c.hang-head.result c.hang-head.ensures.leaves c.link.ensures.leaves
