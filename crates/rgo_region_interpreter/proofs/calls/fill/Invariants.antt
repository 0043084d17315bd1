use Rattle.std.proofs.Common.{◌≡◌, ℕ, drop, map}
use Rattle.rgo_region_machine.specs.Owed.{passed}
use Rattle.rgo_region_machine.specs.Regions.{bound}
use Rattle.rgo_region_interpreter.specs.Calls.{class_region_in, or_region}
use Rattle.rgo_region_interpreter.specs.Holders.{bound_in}
use Rattle.rgo_region_interpreter.proofs.calls.fill.Given as goal

abbrev pub invariant-loop-i : goal.invariant-loop-i
invariant-loop-i l =
    (k : ℕ) → or_region (bound_in l.names.items k)
    (bound (passed (drop l.i l.formals) (drop l.i (map (class_region_in l.callers) l.passes))) k)
    ≡ bound (passed l.formals (map (class_region_in l.callers) l.passes)) k
