use Rattle.std.proofs.Common.{◌≡◌, ◌≤◌, ◌<◌, ◌-◌, length, vec_capacity}
use Rattle.rgo_meaning.specs.Frames.{with_local_value}
use Rattle.rgo_source_interpreter.proofs.locals.set_local.Given as goal

abbrev pub invariant-loop-locals : goal.invariant-loop-locals
invariant-loop-locals l =
    (with_local_value l.locals.items l.n l.value ≡ with_local_value l.fn.locals.items l.n l.value)
    × (length l.locals.items ≤ l.n)
    × (l.n < vec_capacity l.locals)

abbrev pub decreases-loop-locals : goal.decreases-loop-locals
decreases-loop-locals l = l.n - length l.locals.items
