use Rattle.std.proofs.Common.{◌≡◌, ◌<◌, ℕ, Some, slice_get}
use Rattle.rgo_checker.specs.ClassTests.{ArgumentPasses}
use Rattle.rgo_checker.proofs.passing.arguments_pass.Given as goal

abbrev pub invariant-loop-i : goal.invariant-loop-i
invariant-loop-i l =
    (j v : ℕ) → j < l.i → slice_get l.from j ≡ Some v
    → ArgumentPasses l.f l.callee l.parameters.classes.items l.passes j v
