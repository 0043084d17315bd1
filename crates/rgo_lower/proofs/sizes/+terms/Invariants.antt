use Rattle.std.proofs.Common.{◌≡◌, ◌+◌, ◌-◌, ◌≤◌, ◌^◌, min, drop, map}
use Rattle.rgo_typed.specs.Tree.{terms_of}
use Rattle.rgo_typed.specs.Views.{term_of}
use Rattle.rgo_lower.specs.Sizes.{terms_size}
use Rattle.rgo_lower.proofs.sizes.+terms.Given as goal

-- with what the rest counts, it is what all count
abbrev pub invariant-terms_size-loop-term : goal.invariant-terms_size-loop-term
invariant-terms_size-loop-term l = record {
  fits : l.size ≤ 2 ^ 64 - 1;
  all :
      min (l.size + terms_size (terms_of (map term_of (drop l.term-index l.terms.items)))) (2 ^ 64 - 1)
      ≡ min (terms_size (terms_of (map term_of l.terms.items))) (2 ^ 64 - 1);
}
