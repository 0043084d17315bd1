use Rattle.std.proofs.Common.{sym, ◌∙◌}
use Rattle.rgo_journal.proofs.Fronts.{after_here}
use Rattle.rgo_journal.proofs.reading.after.Goals as goal

pub returns-then-starts_with : goal.returns-then-starts_with
returns-then-starts_with c =
    after_here c.args.front.now c.args.bytes.now (sym c.starts_with.ensures.value ∙ c.if-starts_with.true)
