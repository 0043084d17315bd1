-- Examples of claims and of chains that are given back.
use Rattle.std.proofs.Common.{◌≡◌, ℕ, List, [], ◌∷◌, length, refl, arith}
use Rattle.rgo_pages.specs.Examples.{PageExamples}
use Rattle.rgo_pages.specs.Releasing.{Freed, LinksLeadTo}

begins : (from : ℕ) (fs : List Freed) → from ≡ 0 → LinksLeadTo from fs 0 → length fs ≡ 3 → ⊥
begins from [] zero leads count = omega (arith, count)
begins from (f ∷ fs) zero leads count = let e = leads.0 in omega (arith, e, zero)

pub page_examples : PageExamples
page_examples = record {
  chain = (refl, (refl, refl));
  elsewhere = λ l. omega (arith, l.0);
  unended = λ l. omega (arith, l.1.1);
  order = refl;
  half = refl;
  returned = refl;
  none_owed = refl;
  given = refl;
  accesses = refl;
  linked = λ T. refl;
  taken = λ T. refl;
  three = λ T. refl;
  own = λ limits. refl;
  unreserved = λ limits. refl;
  reserved = λ limits. refl;
  not_own = λ limits. refl;
  also_linked = λ limits. refl;
  also_three = λ limits. refl;
  outside = λ T c m w k. omega (arith, k.low);
  too_many = λ T c m w back none. begins back.head back.freed none back.chain back.count;
}
