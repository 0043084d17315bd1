use Rattle.std.proofs.Common.{◌≡◌, ℕ, List, [], length}
use Rattle.rgo_classes.specs.Holding.{AreHolders, Holding, HoldsArguments}
use Rattle.rgo_classes.proofs.calls.hold_arguments.Given as goal

abbrev pub invariant-loop-i : goal.invariant-loop-i
invariant-loop-i l = record {
  len : length l.labels ≡ length l.fn.labels;
  holders : AreHolders l.function l.holders;
  joined : (old : List ℕ) → Holding l.function old [] l.fn.labels l.fn.holders
      → HoldsArguments l.function old l.params l.from l.i l.labels l.holders;
}
