use Rattle.std.proofs.Common.{take}
use Rattle.rgo_tac.specs.Flow.{variables_of}
use Rattle.rgo_region_sets.specs.Used.{AddsNames}
use Rattle.rgo_region_sets.proofs.used.add_read.Given as goal

abbrev pub invariant-loop-n : goal.invariant-loop-n
invariant-loop-n l =
    AddsNames l.f l.fn.names.items l.names.items (take l.n (variables_of l.variables))
