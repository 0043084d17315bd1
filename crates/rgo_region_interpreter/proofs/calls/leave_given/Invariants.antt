use Rattle.std.proofs.Common.{drop}
use Rattle.std.specs.List.Sorted.{IsStrictlyIncreasing}
use Rattle.rgo_region_machine.specs.Owed.{given_names}
use Rattle.rgo_region_interpreter.specs.Calls.{UnbindsAll}
use Rattle.rgo_region_interpreter.specs.declared.holders.Holder.{Holder}
use Rattle.rgo_region_interpreter.proofs.calls.leave_given.Given as goal

abbrev pub invariant-loop-i : goal.invariant-loop-i
invariant-loop-i l =
    IsStrictlyIncreasing l.protects → (d : Holder)
    → UnbindsAll l.holder d (given_names l.lent (drop l.i l.formals) (drop l.i l.passes) l.protects)
    → UnbindsAll l.fn.holder d (given_names l.lent l.formals l.passes l.protects)
