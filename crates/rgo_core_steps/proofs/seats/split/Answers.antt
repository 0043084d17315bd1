use Rattle.std.proofs.Common.{◌∙◌}
use Rattle.rgo_core.specs.runs.Plans.{setup_of}
use Rattle.rgo_core_steps.proofs.tables.Parting.{has_second, left_is, right_is}
use Rattle.rgo_core_steps.proofs.seats.split.Goals as goal

pub part-requires-clause-has : goal.part-requires-clause-has
part-requires-clause-has c = has_second (setup_of c.args.table.now.shared.key) c.args.seat.now.me c.args.number c.requires.two

pub returns-clause-old : goal.returns-clause-old
returns-clause-old c =
    c.part.ensures.old.2 ∙ left_is (setup_of c.args.table.now.shared.key) c.args.seat.now.me c.args.number c.requires.two

pub returns-clause-new : goal.returns-clause-new
returns-clause-new c =
    c.part.ensures.new.1 ∙ right_is (setup_of c.args.table.now.shared.key) c.args.seat.now.me c.args.number c.requires.two
