-- Joins that are made one after another, in several functions.
use Rattle.std.proofs.Common.{◌≡◌, ◌⊎◌, inl, inr, ⊎_elim, ℕ, List, [], ◌++◌, Option, Some, None, slice_get, refl, sym, ap, ◌∙◌, subst, arith, append_assoc}
use Rattle.std.proofs.lemmas.List.{append-nil}
use Rattle.rgo_classes.specs.Same.{AreSame}
use Rattle.rgo_classes.proofs.Chains as chain
use Rattle.rgo_summaries.specs.declared.nodes.Nodes.{Nodes}
use Rattle.rgo_summaries.specs.declared.progress.Event.{Event}
use Rattle.rgo_summaries.specs.declared.progress.Progress.{Progress}
use Rattle.rgo_summaries.specs.Progress.{AddsJoins, JoinedOrToJoin, SameIn, same_at}
use Rattle.rgo_summaries.proofs.Chains.{IsEquivalence}
use Rattle.rgo_summaries.proofs.Progressing.{same_symmetric, same_transitive}

pub adds_none : (p : Progress) (These : ℕ → ℕ → ℕ → Type 0) → ((f x y : ℕ) → These f x y → ⊥) → AddsJoins p p These
adds_none p These none = record {
  len = refl;
  sizes = λ f. refl;
  widths = λ f. refl;
  kept = λ f x y s. s;
  met = λ f x y h. absurd (none f x y h);
  only = λ f x y s. chain.contains (JoinedOrToJoin p.nodes.items These f) x y (inl s);
  logs = ([], sym (append-nil p.log.items));
  counted = omega arith;
}

module _ (p q r : Progress) (These Those All : ℕ → ℕ → ℕ → Type 0) (one : AddsJoins p q These) (other : AddsJoins q r Those)
    (split : (f x y : ℕ) → All f x y → These f x y ⊎ Those f x y) (left : (f x y : ℕ) → These f x y → All f x y)
    (right : (f x y : ℕ) → Those f x y → All f x y) where
  before : (f x y : ℕ) → JoinedOrToJoin p.nodes.items These f x y → AreSame (JoinedOrToJoin p.nodes.items All f) x y
  before f x y h = ⊎_elim
      (λ s. chain.contains (JoinedOrToJoin p.nodes.items All f) x y (inl s))
      (λ t. chain.contains (JoinedOrToJoin p.nodes.items All f) x y (inr (left f x y t)))
      h

  step : (f x y : ℕ) → JoinedOrToJoin q.nodes.items Those f x y → AreSame (JoinedOrToJoin p.nodes.items All f) x y
  step f x y h = ⊎_elim
      (λ s. chain.along (JoinedOrToJoin p.nodes.items These f) (JoinedOrToJoin p.nodes.items All f) (before f) x y (one.only f x y s))
      (λ t. chain.contains (JoinedOrToJoin p.nodes.items All f) x y (inr (right f x y t)))
      h

  pub adds_more : AddsJoins p r All
  adds_more = record {
    len = other.len ∙ one.len;
    sizes = λ f. other.sizes f ∙ one.sizes f;
    widths = λ f. other.widths f ∙ one.widths f;
    kept = λ f x y s. other.kept f x y (one.kept f x y s);
    met = λ f x y h. ⊎_elim (λ t. other.kept f x y (one.met f x y t)) (λ t. other.met f x y t) (split f x y h);
    only = λ f x y s.
        chain.along (JoinedOrToJoin q.nodes.items Those f) (JoinedOrToJoin p.nodes.items All f) (step f) x y (other.only f x y s);
    logs = (
      one.logs.0 ++ other.logs.0,
      other.logs.1 ∙ ap (λ (l : List Event). l ++ other.logs.0) one.logs.1
          ∙ append_assoc p.log.items one.logs.0 other.logs.0,
    );
    counted = omega (arith, one.counted, other.counted);
  }

-- ---- being the same, in a function

same_at_symmetric : (o : Option Nodes) (x y : ℕ) → same_at o x y → same_at o y x
same_at_symmetric None x y s = s
same_at_symmetric (Some n) x y s = same_symmetric n x y s

same_at_transitive : (o : Option Nodes) (x y z : ℕ) → same_at o x y → same_at o y z → same_at o x z
same_at_transitive None x y z s t = s
same_at_transitive (Some n) x y z s t = same_transitive n x y z s t

-- one node, or two that are joined
abbrev pub OneIn : List Nodes → ℕ → ℕ → ℕ → Type 0
OneIn nodes f x y = (x ≡ y) ⊎ SameIn nodes f x y

pub one_in : (nodes : List Nodes) (f : ℕ) → IsEquivalence (OneIn nodes f)
one_in nodes f = record {
  reflexive = λ x. inl refl;
  symmetric = λ x y h. ⊎_elim (λ e. inl (sym e)) (λ s. inr (same_at_symmetric (slice_get nodes f) x y s)) h;
  transitive = λ x y z h g. ⊎_elim
      (λ e. subst (λ k. OneIn nodes f k z) (sym e) g)
      (λ s. ⊎_elim
      (λ e. subst (OneIn nodes f x) e (inr s))
      (λ t. inr (same_at_transitive (slice_get nodes f) x y z s t))
      g)
      h;
}
