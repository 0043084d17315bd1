use Rattle.std.proofs.Common.{◌≡◌, ◌-◌, ◌≤◌, ◌^◌, min, max, drop, map}
use Rattle.rgo_typed.specs.Views.{typed_function_of}
use Rattle.rgo_lower.specs.Sizes.{largest_of}
use Rattle.rgo_lower.proofs.sizes.largest_of.Given as goal

-- it or the largest of the rest is the largest of all
abbrev pub invariant-loop-function : goal.invariant-loop-function
invariant-loop-function l = record {
  fits : l.largest ≤ 2 ^ 64 - 1;
  all :
      min (max l.largest (largest_of (map typed_function_of (drop l.function-index l.functions.items)))) (2 ^ 64 - 1)
      ≡ min (largest_of (map typed_function_of l.functions.items)) (2 ^ 64 - 1);
}
