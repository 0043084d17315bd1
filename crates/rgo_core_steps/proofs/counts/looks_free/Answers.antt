use Rattle.std.proofs.Common.{arith}
use Rattle.rgo_core_steps.proofs.tables.Layouts.{count_low}
use Rattle.rgo_core_steps.proofs.counts.looks_free.Goals as goal

pub peek-requires : goal.peek-requires
peek-requires c = rw c.count_at.ensures (count_low c.requires.layout c.args.slot (omega (arith, c.requires.slot)))
