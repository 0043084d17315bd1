-- Every equivalence that contains the joins contains their chains.
use Rattle.std.proofs.Common.{⊎_elim, ℕ, zero, suc, subst}
use Rattle.rgo_classes.specs.Same.{AreSame, Chain}

pub record IsEquivalence {A : Type 0} (E : A → A → Type 0) : Type 0 where
  pub reflexive : (a : A) → E a a
  pub symmetric : (a b : A) → E a b → E b a
  pub transitive : (a b c : A) → E a b → E b c → E a c

module _ {A : Type 0} (Joins E : A → A → Type 0) (equal : IsEquivalence E)
    (contains : (a b : A) → Joins a b → E a b) where
  least_on : (n : ℕ) (a b : A) → Chain Joins n a b → E a b
  least_on zero a b e = subst (E a) e (equal.reflexive a)
  least_on (suc n) a b e =
      equal.transitive a e.0 b (⊎_elim (λ j. contains a e.0 j) (λ j. equal.symmetric e.0 a (contains e.0 a j)) e.1)
      (least_on n e.0 b e.2)

  pub least : (a b : A) → AreSame Joins a b → E a b
  least a b s = least_on s.0 a b s.1
