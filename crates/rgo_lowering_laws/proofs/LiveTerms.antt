-- What is live at the start of a term: what is live at its end, without its value, and what is in scope.
use Rattle.std.proofs.Common.{◌≡◌, ℕ, ◌+◌, inl, inr, ⊎_elim, List, [], ◌∷◌}
use Rattle.std.proofs.Common.{Some, refl, sym, ap, ◌∙◌, subst, arith}
use Rattle.rgo_typed.specs.declared.actions.Logical.{Logical}
use Rattle.rgo_typed.specs.declared.actions.Logical.TheVariants.{And, Or as OrElse}
use Rattle.rgo_typed.specs.Tree as tree
use Rattle.rgo_typed.specs.Tree.{Function, Term, Terms}
use Rattle.rgo_tac.specs.Code.{TacFn}
use Rattle.rgo_lower.specs.Lowered.{LoweringPoint, after_value, next_point, OpAt, LoweringScope, variable_of_local, logic_branch}
use Rattle.rgo_lower.specs.Lowered.{StoresAt, TermAt, TermsAt}
use Rattle.rgo_lowering_laws.proofs.Liveness.{Or, nothing_more, join, first_apart, OnlyLive, weaker, same_point}
use Rattle.rgo_lowering_laws.proofs.Liveness.{at_write, at_next, at_branch}

-- v is the variable of a local variable in scope
abbrev pub InRange : LoweringScope → ℕ → Type 0
InRange scope v = (n : ℕ) × (variable_of_local scope n ≡ Some v)

stored : (object d : ℕ) (ds : List ℕ) (R : ℕ → Type 0) (v : ℕ) → Or (object ∷ d ∷ []) (Or (object ∷ []) (Or ds R)) v
    → Or (object ∷ []) (Or (d ∷ ds) R) v
stored object d ds R v h =
    ⊎_elim (⊎_elim (λ o. inl (inl o)) (⊎_elim (λ e. inr (inl (inl e))) (λ none. absurd none)))
    (⊎_elim (λ o. inl o) (⊎_elim (λ a. inr (inl (inr a))) (λ r. inr (inr r)))) h

module _ (functions : List Function) (f : TacFn) where
  -- within n steps, only these are live at this point
  abbrev Only : ℕ → LoweringPoint → (ℕ → Type 0) → Type 0
  Only n p K = OnlyLive f n p.instr K

  -- the same for an equal variable at an equal point
  valued : (n d x : ℕ) (p q : LoweringPoint) (R : ℕ → Type 0) → d ≡ x → q ≡ p → Only n q (Or (d ∷ []) R)
      → Only n p (Or (x ∷ []) R)
  valued n d x p q R e at k = subst (λ z. Only n p (Or (z ∷ []) R)) e (same_point f n p q (Or (d ∷ []) R) at k)

  module _ (n : ℕ) where
    -- the stores read the object and the elements
    stores : (object : ℕ) (fields ds : List ℕ) (place : ℕ) (p q : LoweringPoint) (R : ℕ → Type 0)
        → StoresAt functions f object fields ds place p q → Only n q (Or (object ∷ []) R)
        → Only n p (Or (object ∷ []) (Or ds R))
    stores object [] [] place p q R h k =
        weaker f n p.instr (Or (object ∷ []) R) (Or (object ∷ []) (Or [] R))
        (λ v. ⊎_elim (λ a. inl a) (λ r. inr (inr r))) (same_point f n p q (Or (object ∷ []) R) h k)
    stores object (x ∷ fields) (d ∷ ds) place p q R h k =
        weaker f n p.instr (Or (object ∷ d ∷ []) (Or (object ∷ []) (Or ds R))) (Or (object ∷ []) (Or (d ∷ ds) R))
        (stored object d ds R)
        (at_next f n p.instr _ place (Or (object ∷ []) (Or ds R)) h.0 refl
        (stores object fields ds place (next_point p) q R h.1 k))
    stores object [] (d ∷ ds) place p q R h k = absurd h
    stores object (x ∷ fields) [] place p q R h k = absurd h

    logic : (l : Logical) (i d right end place : ℕ) (R : ℕ → Type 0) → OpAt f i (logic_branch l d right end) place
        → OnlyLive f n right R → OnlyLive f n end (Or (d ∷ []) R) → OnlyLive f n i (Or (d ∷ []) R)
    logic And i d right end place R at k l =
        weaker f n i (Or (d ∷ []) (Or (d ∷ []) R)) (Or (d ∷ []) R) (join (d ∷ []) R)
        (at_branch f n i place (Or (d ∷ []) R) d right end at (weaker f n right R (Or (d ∷ []) R) (λ v r. inr r) k) l)
    logic OrElse i d right end place R at k l =
        weaker f n i (Or (d ∷ []) (Or (d ∷ []) R)) (Or (d ∷ []) R) (join (d ∷ []) R)
        (at_branch f n i place (Or (d ∷ []) R) d end right at l (weaker f n right R (Or (d ∷ []) R) (λ v r. inr r) k))

    mutual
      pub term : (scope : LoweringScope) (t : Term) (p : LoweringPoint) (d : ℕ) (q : LoweringPoint) → TermAt functions f scope t p d q
          → (R : ℕ → Type 0) → ((v : ℕ) → InRange scope v → R v) → Only n q (Or (d ∷ []) R) → Only n p R
      term scope (tree.Local x) p d q h R sub k =
          weaker f n p.instr (Or (d ∷ []) R) R
          (λ v. ⊎_elim (⊎_elim (λ e. sub v (x, h.0 ∙ ap Some (sym e))) (λ none. absurd none)) (λ r. r))
          (same_point f n p q (Or (d ∷ []) R) h.1 k)
      term scope (tree.Apply action parts ty place) p d q h R sub k =
          terms scope parts p h.0 h.1 h.2 R sub
          (at_write f n h.1.instr _ place R h.1.variable h.3.instr refl refl
          (valued n d h.1.variable (after_value h.1) q R h.4 h.5 k))
      term scope (tree.Logic l left right place) p d q h R sub k =
          let x = h.1.variable in
          let end = valued n d x (next_point h.5) q R h.9 h.10 k in
          let last = at_write f n h.5.instr _ place R x h.8 refl refl end in
          let two : h.1.instr + 1 + 1 ≡ h.1.instr + 2 = omega arith in
          let from =
          subst (λ z. OnlyLive f n z R) two
          (term scope right (next_point (after_value h.1)) h.4 h.5 h.7 R sub last) in
          let branch = logic l (h.1.instr + 1) x (h.1.instr + 2) (h.5.instr + 1) place R h.6 from end in
          term scope left p h.0 h.1 h.2 R sub (at_write f n h.1.instr _ place R x h.3.instr refl refl branch)
      term scope (tree.Build s parts fields place) p d q h R sub k =
          let x = h.1.variable in
          terms scope parts p h.0 h.1 h.2 R sub
          (weaker f n h.1.instr (Or [] (Or h.0 R)) (Or h.0 R) (nothing_more (Or h.0 R))
          (at_write f n h.1.instr _ place (Or h.0 R) x h.3.instr refl refl
          (stores x fields h.0 place (after_value h.1) q R h.4 (valued n d x q q R h.5 refl k))))
      term scope (tree.Call callee arguments ty place) p d q h R sub k =
          terms scope arguments p h.0 h.1 h.2 R sub
          (at_write f n h.1.instr _ place R h.1.variable h.3 refl refl
          (valued n d h.1.variable (after_value h.1) q R h.6 h.7 k))

      pub terms : (scope : LoweringScope) (ts : Terms) (p : LoweringPoint) (ds : List ℕ) (q : LoweringPoint)
          → TermsAt functions f scope ts p ds q → (R : ℕ → Type 0) → ((v : ℕ) → InRange scope v → R v)
          → Only n q (Or ds R) → Only n p R
      terms scope tree.no_terms p ds q h R sub k =
          weaker f n p.instr (Or [] R) R (nothing_more R)
          (subst (λ z. Only n p (Or z R)) h.0 (same_point f n p q (Or ds R) h.1 k))
      terms scope (tree.a_term t ts) p ds q h R sub k =
          term scope t p h.0 h.2 h.3 R sub
          (terms scope ts h.2 h.1 q h.4 (Or (h.0 ∷ []) R) (λ v r. inr (sub v r))
          (weaker f n q.instr (Or (h.0 ∷ h.1) R) (Or h.1 (Or (h.0 ∷ []) R))
          (first_apart h.0 h.1 R) (subst (λ z. Only n q (Or z R)) h.5 k)))
