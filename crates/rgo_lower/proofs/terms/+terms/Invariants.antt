use Rattle.std.proofs.Common.{◌≡◌, true, ℕ, ◌+◌, ◌<◌, ◌^◌, List, ◌++◌, drop, map}
use Rattle.rgo_typed.specs.Tree.{terms_of}
use Rattle.rgo_typed.specs.Views.{term_of}
use Rattle.rgo_lower.specs.Emitted.{BuilderParts, builder_size, made_of, TermsAreEmitted}
use Rattle.rgo_lower.specs.Shapes.{terms_fit}
use Rattle.rgo_lower.specs.Sizes.{terms_size}
use Rattle.rgo_lower.proofs.terms.+terms.Given as goal

-- what emits the rest from here emits all from the beginning
abbrev pub invariant-lower_terms-loop-term : goal.invariant-lower_terms-loop-term
invariant-lower_terms-loop-term l = record {
  small : builder_size (made_of l.b) + terms_size (terms_of (map term_of (drop l.term-index l.terms.items))) < 2 ^ 32;
  shape : terms_fit (terms_of (map term_of (drop l.term-index l.terms.items))) ≡ true;
  rest :
      (new : BuilderParts) (ds : List ℕ)
      → TermsAreEmitted (terms_of (map term_of (drop l.term-index l.terms.items))) (made_of l.b) ds new
      → TermsAreEmitted (terms_of (map term_of l.terms.items)) (made_of l.fn.b) (l.from.items ++ ds) new;
}
