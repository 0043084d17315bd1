use Rattle.std.proofs.Common.{◌≡◌, ◌++◌, map, drop}
use Rattle.rgo_memory.specs.Values.{zero_of}
use Rattle.rgo_source_interpreter.proofs.calls.push_zeros.Given as goal

abbrev pub invariant-loop-ty : goal.invariant-loop-ty
invariant-loop-ty l =
    l.locals.items ++ map zero_of (drop l.ty-index l.types) ≡ l.fn.locals.items ++ map zero_of l.types
