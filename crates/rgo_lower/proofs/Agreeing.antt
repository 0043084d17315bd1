-- Two codes of one term end at the same point, leave the value in the same variable, and are the same between. By induction on the
-- term: each part begins where the one before it ends, so no point is left open.
use Rattle.std.proofs.Common.{◌≡◌, ⊎_elim, ℕ, ◌+◌, ◌<◌, ◌≤◌, List, [], ◌∷◌, Some, None, slice_get}
use Rattle.std.proofs.Common.{refl, ap, sym, ◌∙◌, subst, arith}
use Rattle.std.proofs.lemmas.Bool.{cases_lt}
use Rattle.rgo_typed.specs.declared.actions.Action.{Action}
use Rattle.rgo_typed.specs.declared.actions.Action.TheVariants.{Copy, New, Store}
use Rattle.rgo_typed.specs.declared.types.Type.{«Type»}
use Rattle.rgo_typed.specs.Tree as tree
use Rattle.rgo_typed.specs.Tree.{Term, Terms, Function}
use Rattle.rgo_tac.specs.Code.{Op, Do, Call, TacFn}
use Rattle.rgo_lower.specs.Lowered.{LoweringPoint, after_value, next_point, OpAt, ActionAt, LoweringScope, variable_of_local, bool_type, pointer_type}
use Rattle.rgo_lower.specs.Lowered.{logic_branch, StoresAt, TermAt, TermsAt}
use Rattle.rgo_simulation.proofs.Together.{some_injective}

-- what is the same as what is the same
pub along : {X : Type 0} (a b a2 b2 : X) → a ≡ b → a2 ≡ b2 → b2 ≡ b → a2 ≡ a
along a b a2 b2 e e2 same = e2 ∙ same ∙ sym e

head_same : {X : Type 0} (x y : X) (xs ys : List X) → y ∷ ys ≡ x ∷ xs → y ≡ x
head_same x y xs ys e = cc

tail_same : {X : Type 0} (x y : X) (xs ys : List X) → y ∷ ys ≡ x ∷ xs → ys ≡ xs
tail_same x y xs ys e = cc

module _ (f g : TacFn) where
  -- the instructions and the variables from p to q
  pub record Agree (p q : LoweringPoint) : Type 0 where
    pub instrs : (i : ℕ) → p.instr ≤ i → i < q.instr → slice_get g.body i ≡ slice_get f.body i
    pub variables : (i : ℕ) → p.variable ≤ i → i < q.variable → slice_get g.variables i ≡ slice_get f.variables i

  pub nothing : (p q : LoweringPoint) → q ≡ p → Agree p q
  nothing p q e = record {
    instrs = λ i from to.
        let at : q.instr ≡ p.instr = ap (λ (z : LoweringPoint). z.instr) e in
        absurd (omega (arith, from, to, at));
    variables = λ i from to.
        let at : q.variable ≡ p.variable = ap (λ (z : LoweringPoint). z.variable) e in
        absurd (omega (arith, from, to, at));
  }

  pub then : (p m q : LoweringPoint) → Agree p m → Agree m q → Agree p q
  then p m q a b = record {
    instrs = λ i from to. ⊎_elim (λ less. a.instrs i from less) (λ more. b.instrs i more to) (cases_lt i m.instr);
    variables = λ i from to.
        ⊎_elim (λ less. a.variables i from less) (λ more. b.variables i more to) (cases_lt i m.variable);
  }

  pub ends : (p m q : LoweringPoint) → Agree p m → q ≡ m → Agree p q
  ends p m q a e = subst (Agree p) (sym e) a

  same_op : (i j : ℕ) (op op2 : Op) (place : ℕ) → j ≡ i → op2 ≡ op → OpAt f i op place → OpAt g j op2 place
      → slice_get g.body i ≡ slice_get f.body i
  same_op i j op op2 place at same x y =
      ap (slice_get g.body) (sym at) ∙ y ∙ ap (λ z. Some (record { op = z; place = place })) same ∙ sym x

  only : (i j : ℕ) → i ≤ j → j < i + 1 → j ≡ i
  only i j from to = omega (arith, from, to)

  -- one instruction
  pub one : (p p2 : LoweringPoint) (op op2 : Op) (place : ℕ) → p2 ≡ p → op2 ≡ op → OpAt f p.instr op place
      → OpAt g p2.instr op2 place
      → Agree p (next_point p)
  one p p2 op op2 place at same x y = record {
    instrs = λ i from to.
        subst (λ j. slice_get g.body j ≡ slice_get f.body j) (sym (only p.instr i from to))
        (same_op p.instr p2.instr op op2 place (ap (λ (z : LoweringPoint). z.instr) at) same x y);
    variables = λ i from to. absurd (omega (arith, from, to));
  }

  -- one instruction that sets the next variable
  pub one_value : (p p2 : LoweringPoint) (op op2 : Op) (place : ℕ) (ty : «Type») → p2 ≡ p → op2 ≡ op → OpAt f p.instr op place
      → OpAt g p2.instr op2 place → slice_get f.variables p.variable ≡ Some ty
      → slice_get g.variables p2.variable ≡ Some ty → Agree p (after_value p)
  one_value p p2 op op2 place ty at same x y v w = record {
    instrs = λ i from to.
        subst (λ j. slice_get g.body j ≡ slice_get f.body j) (sym (only p.instr i from to))
        (same_op p.instr p2.instr op op2 place (ap (λ (z : LoweringPoint). z.instr) at) same x y);
    variables = λ i from to.
        subst (λ j. slice_get g.variables j ≡ slice_get f.variables j) (sym (only p.variable i from to))
        (ap (λ (z : LoweringPoint). slice_get g.variables z.variable) (sym at) ∙ w ∙ sym v);
  }

  pub one_action : (p p2 : LoweringPoint) (action : Action) (from from2 : List ℕ) (ty : «Type») (place : ℕ) → p2 ≡ p
      → from2 ≡ from → ActionAt f p action from ty place → ActionAt g p2 action from2 ty place → Agree p (after_value p)
  one_action p p2 action from from2 ty place at same x y =
      one_value p p2 (Do (Some p.variable) action from) (Do (Some p2.variable) action from2) place ty at
      (λ i. Do (Some ((at i).variable)) action (same i)) x.instr y.instr x.variable y.variable

  -- ---- terms

  -- of two codes from p on, which leave their values in these variables and end there
  pub record SameTerm {X : Type 0} (p : LoweringPoint) (d d2 : X) (q q2 : LoweringPoint) : Type 0 where
    pub value : d2 ≡ d
    pub last : q2 ≡ q
    pub code : Agree p q

  pub record SameStores (p q q2 : LoweringPoint) : Type 0 where
    pub last : q2 ≡ q
    pub code : Agree p q

  module _ (functions : List Function) where
    stores_same : (object object2 : ℕ) → object2 ≡ object → (fields ds ds2 : List ℕ) → ds2 ≡ ds → (place : ℕ)
        (p p2 : LoweringPoint) → p2 ≡ p → (q q2 : LoweringPoint) → StoresAt functions f object fields ds place p q
        → StoresAt functions g object2 fields ds2 place p2 q2 → SameStores p q q2
    stores_same object object2 o [] [] [] e place p p2 at q q2 x y = record {
      last = along q p q2 p2 x y at;
      code = nothing p q x;
    }
    stores_same object object2 o (k ∷ fields) (d ∷ ds) (d2 ∷ ds2) e place p p2 at q q2 x y =
        let rest =
        stores_same object object2 o fields ds ds2 (tail_same d d2 ds ds2 e) place (next_point p) (next_point p2) (ap next_point at) q q2
        x.1 y.1 in
        record {
          last = rest.last;
          code =
              then p (next_point p) q
              (one p p2 _ _ place at (λ i. Do None (Store k) (o i ∷ head_same d d2 ds ds2 e i ∷ [])) x.0 y.0) rest.code;
        }
    stores_same object object2 o [] [] (d2 ∷ ds2) e place p p2 at q q2 x y = absurd y
    stores_same object object2 o (k ∷ fields) (d ∷ ds) [] e place p p2 at q q2 x y = absurd y
    stores_same object object2 o _ _ ds2 e place p p2 at q q2 x y = absurd x

    mutual
      pub term_same : (t : Term) (scope scope2 : LoweringScope) → scope2 ≡ scope → (p p2 : LoweringPoint) → p2 ≡ p
          → (d d2 : ℕ) (q q2 : LoweringPoint) → TermAt functions f scope t p d q → TermAt functions g scope2 t p2 d2 q2
          → SameTerm p d d2 q q2
      term_same (tree.Local n) scope scope2 s p p2 at d d2 q q2 x y = record {
        value = some_injective d2 d (sym y.0 ∙ ap (λ z. variable_of_local z n) s ∙ x.0);
        last = along q p q2 p2 x.1 y.1 at;
        code = nothing p q x.1;
      }
      term_same (tree.Apply action parts ty place) scope scope2 s p p2 at d d2 q q2 x y =
          let a = terms_same parts scope scope2 s p p2 at x.0 y.0 x.1 y.1 x.2 y.2 in
          record {
            value = along d x.1.variable d2 y.1.variable x.4 y.4 (ap (λ (z : LoweringPoint). z.variable) a.last);
            last = along q (after_value x.1) q2 (after_value y.1) x.5 y.5 (ap after_value a.last);
            code =
                ends p (after_value x.1) q
                (then p x.1 (after_value x.1) a.code (one_action x.1 y.1 action x.0 y.0 ty place a.last a.value x.3 y.3))
                x.5;
          }
      term_same (tree.Logic logic left right place) scope scope2 s p p2 at d d2 q q2 x y =
          let a = term_same left scope scope2 s p p2 at x.0 y.0 x.1 y.1 x.2 y.2 in
          let mid : LoweringPoint = after_value x.1 in
          let b =
          term_same right scope scope2 s (next_point mid) (next_point (after_value y.1)) (ap (λ z. next_point (after_value z)) a.last)
          x.4 y.4 x.5 y.5 x.7 y.7 in
          record {
            value = along d x.1.variable d2 y.1.variable x.9 y.9 (ap (λ (z : LoweringPoint). z.variable) a.last);
            last = along q (next_point x.5) q2 (next_point y.5) x.10 y.10 (ap next_point b.last);
            code =
                ends p (next_point x.5) q
                (then p x.1 (next_point x.5) a.code
                (then x.1 mid (next_point x.5)
                (one_action x.1 y.1 Copy (x.0 ∷ []) (y.0 ∷ []) bool_type place a.last (ap (λ z. z ∷ []) a.value) x.3 y.3)
                (then mid (next_point mid) (next_point x.5)
                (one mid (after_value y.1) _ _ place (ap after_value a.last)
                (λ i. logic_branch logic ((a.last i).variable) ((a.last i).instr + 2) ((b.last i).instr + 1)) x.6 y.6)
                (then (next_point mid) x.5 (next_point x.5) b.code
                (one x.5 y.5 _ _ place b.last (λ i. Do (Some ((a.last i).variable)) Copy (b.value i ∷ [])) x.8 y.8)))))
                x.10;
          }
      term_same (tree.Build n parts fields place) scope scope2 s p p2 at d d2 q q2 x y =
          let a = terms_same parts scope scope2 s p p2 at x.0 y.0 x.1 y.1 x.2 y.2 in
          let object : y.1.variable ≡ x.1.variable = ap (λ (z : LoweringPoint). z.variable) a.last in
          let b =
          stores_same x.1.variable y.1.variable object fields x.0 y.0 a.value place (after_value x.1) (after_value y.1)
          (ap after_value a.last) q q2 x.4 y.4 in
          record {
            value = along d x.1.variable d2 y.1.variable x.5 y.5 object;
            last = b.last;
            code =
                then p x.1 q a.code
                (then x.1 (after_value x.1) q
                (one_action x.1 y.1 (New n) [] [] (pointer_type n) place a.last refl x.3 y.3) b.code);
          }
      term_same (tree.Call n arguments ty place) scope scope2 s p p2 at d d2 q q2 x y =
          let a = terms_same arguments scope scope2 s p p2 at x.0 y.0 x.1 y.1 x.2 y.2 in
          record {
            value = along d x.1.variable d2 y.1.variable x.6 y.6 (ap (λ (z : LoweringPoint). z.variable) a.last);
            last = along q (after_value x.1) q2 (after_value y.1) x.7 y.7 (ap after_value a.last);
            code =
                ends p (after_value x.1) q
                (then p x.1 (after_value x.1) a.code
                (one_value x.1 y.1 _ _ place ty a.last (λ i. Call (Some ((a.last i).variable)) n (a.value i)) x.3 y.3 x.4
                y.4))
                x.7;
          }

      pub terms_same : (ts : Terms) (scope scope2 : LoweringScope) → scope2 ≡ scope → (p p2 : LoweringPoint) → p2 ≡ p
          → (ds ds2 : List ℕ) (q q2 : LoweringPoint) → TermsAt functions f scope ts p ds q
          → TermsAt functions g scope2 ts p2 ds2 q2
          → SameTerm p ds ds2 q q2
      terms_same tree.no_terms scope scope2 s p p2 at ds ds2 q q2 x y = record {
        value = y.0 ∙ sym x.0;
        last = along q p q2 p2 x.1 y.1 at;
        code = nothing p q x.1;
      }
      terms_same (tree.a_term t ts) scope scope2 s p p2 at ds ds2 q q2 x y =
          let a = term_same t scope scope2 s p p2 at x.0 y.0 x.2 y.2 x.3 y.3 in
          let b = terms_same ts scope scope2 s x.2 y.2 a.last x.1 y.1 q q2 x.4 y.4 in
          record {
            value = along ds (x.0 ∷ x.1) ds2 (y.0 ∷ y.1) x.5 y.5 (λ i. a.value i ∷ b.value i);
            last = b.last;
            code = then p x.2 q a.code b.code;
          }
