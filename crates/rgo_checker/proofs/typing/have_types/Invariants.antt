use Rattle.std.proofs.Common.{◌≡◌, drop}
use Rattle.rgo_checker.specs.Tests.{have_types}
use Rattle.rgo_checker.proofs.typing.have_types.Given as goal

abbrev pub invariant-loop-i : goal.invariant-loop-i
invariant-loop-i l =
    have_types l.types (drop l.i l.variables) (drop l.i l.wanted) ≡ have_types l.types l.variables l.wanted
