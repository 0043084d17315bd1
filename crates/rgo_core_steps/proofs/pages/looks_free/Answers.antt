use Rattle.rgo_core_steps.proofs.tables.Layouts.{state_low}
use Rattle.rgo_core_steps.proofs.pages.looks_free.Goals as goal

pub peek-requires : goal.peek-requires
peek-requires c = rw c.state_at.ensures (state_low c.requires.layout c.args.page c.requires.page)
