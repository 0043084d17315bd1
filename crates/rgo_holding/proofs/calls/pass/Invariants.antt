use Rattle.std.proofs.Common.{◌≡◌, ℕ, drop}
use Rattle.rgo_holding.specs.Passing.{key_for, or_else}
use Rattle.rgo_holding.specs.Tables.{key_in}
use Rattle.rgo_holding.proofs.calls.pass.Given as goal

abbrev pub invariant-loop-i : goal.invariant-loop-i
invariant-loop-i l = (k : ℕ) → or_else (key_in l.keys.items k) (key_for (drop l.i l.formals) (drop l.i l.passed) k)
    ≡ key_for l.formals l.passed k
