-- Two codes of one statement end at the same point and in the same scope; if their targets are the same, so are they. In this order,
-- since the targets of a loop are known only once its body has ended.
use Rattle.std.proofs.Common.{◌≡◌, ℕ, ◌+◌, List, [], ◌∷◌, ◌++◌, Option, Some, None, refl, ap, sym, ◌∙◌}
use Rattle.rgo_typed.specs.declared.actions.Action.TheVariants.{Copy, Binary}
use Rattle.rgo_typed.specs.Tree as tree
use Rattle.rgo_typed.specs.Tree.{Term, Terms, Change, Stmt, Stmts, Function}
use Rattle.rgo_tac.specs.Code.{Op, Do, Call, Go, Print, Jump, Branch, Return, TacFn}
use Rattle.rgo_lower.specs.Lowered.{LoweringPoint, after_value, next_point, OpAt, LoweringScope, variable_of_local, zero_action, Target}
use Rattle.rgo_lower.specs.Lowered.{TestAt, ConditionAt, TermAt, TermsAt, UpdateAt, StmtAt, StmtsAt}
use Rattle.rgo_lower.proofs.Agreeing.{along, Agree, nothing, then, ends, one, one_action}
use Rattle.rgo_lower.proofs.Agreeing.{SameStores, term_same, terms_same}
use Rattle.rgo_simulation.proofs.Together.{some_injective}

abbrev break_of : List Target → ℕ
break_of [] = 0
break_of (t ∷ targets) = t.break_to

abbrev continue_of : List Target → ℕ
continue_of [] = 0
continue_of (t ∷ targets) = t.continue_to

module _ (functions : List Function) (f g : TacFn) where
  -- two codes from p on that end there; what they lead to is the same where `Same` holds
  pub record SameTest (p q q2 : LoweringPoint) (Targets : Type 0) : Type 0 where
    pub last : q2 ≡ q
    pub code : Targets → Agree f g p q

  pub record SameStmt (p : LoweringPoint) (after after2 : LoweringScope) (q q2 : LoweringPoint) (Targets : Type 0) : Type 0 where
    pub scope : after2 ≡ after
    pub last : q2 ≡ q
    pub code : Targets → Agree f g p q

  test_same : (t : Term) (scope scope2 : LoweringScope) → scope2 ≡ scope → (p p2 : LoweringPoint) → p2 ≡ p
      → (otherwise otherwise2 place : ℕ) (q q2 : LoweringPoint) → TestAt functions f scope t otherwise place p q
      → TestAt functions g scope2 t otherwise2 place p2 q2 → SameTest p q q2 (otherwise2 ≡ otherwise)
  test_same t scope scope2 s p p2 at otherwise otherwise2 place q q2 x y =
      let a = term_same f g functions t scope scope2 s p p2 at x.0 y.0 x.1 y.1 x.2 y.2 in
      record {
        last = along q (next_point x.1) q2 (next_point y.1) x.4 y.4 (ap next_point a.last);
        code = λ e.
            ends f g p (next_point x.1) q
            (then f g p x.1 (next_point x.1) a.code
            (one f g x.1 y.1 _ _ place a.last (λ i. Branch (a.value i) ((a.last i).instr + 1) (e i)) x.3 y.3))
            x.4;
      }

  condition_same : (o : Option Term) (scope scope2 : LoweringScope) → scope2 ≡ scope → (p p2 : LoweringPoint) → p2 ≡ p
      → (otherwise otherwise2 place : ℕ) (q q2 : LoweringPoint) → ConditionAt functions f scope o otherwise place p q
      → ConditionAt functions g scope2 o otherwise2 place p2 q2 → SameTest p q q2 (otherwise2 ≡ otherwise)
  condition_same None scope scope2 s p p2 at otherwise otherwise2 place q q2 x y = record {
    last = along q p q2 p2 x y at;
    code = λ e. nothing f g p q x;
  }
  condition_same (Some t) scope scope2 s p p2 at otherwise otherwise2 place q q2 x y =
      test_same t scope scope2 s p p2 at otherwise otherwise2 place q q2 x y

  update_same : (c : Change) (scope scope2 : LoweringScope) → scope2 ≡ scope → (p p2 : LoweringPoint) → p2 ≡ p → (q q2 : LoweringPoint)
      → UpdateAt functions f scope c p q → UpdateAt functions g scope2 c p2 q2 → SameStores f g p q q2
  update_same c scope scope2 s p p2 at q q2 x y =
      let a = terms_same f g functions c.operands scope scope2 s p p2 at x.0 y.0 x.1 y.1 x.2 y.2 in
      let b =
      term_same f g functions c.value scope scope2 s (after_value x.1) (after_value y.1) (ap after_value a.last) x.4 y.4
      x.5 y.5 x.6 y.6 in
      let mid : LoweringPoint = after_value x.5 in
      record {
        last = along q (next_point mid) q2 (next_point (after_value y.5)) x.9 y.9 (ap (λ z. next_point (after_value z)) b.last);
        code =
            ends f g p (next_point mid) q
            (then f g p x.1 (next_point mid) a.code
            (then f g x.1 (after_value x.1) (next_point mid)
            (one_action f g x.1 y.1 c.read x.0 y.0 c.ty c.read_at a.last a.value x.3 y.3)
            (then f g (after_value x.1) x.5 (next_point mid) b.code
            (then f g x.5 mid (next_point mid)
            (one_action f g x.5 y.5 (Binary c.op) (x.1.variable ∷ x.4 ∷ []) (y.1.variable ∷ y.4 ∷ []) c.ty c.at b.last
            (λ i. (a.last i).variable ∷ b.value i ∷ []) x.7 y.7)
            (one f g mid (after_value y.5) _ _ c.at (ap after_value b.last)
            (λ i. Do None c.write (a.value i ++ (b.last i).variable ∷ [])) x.8 y.8)))))
            x.9;
      }

  -- one instruction after terms, which returns no value
  behind_terms : (Targets : Type 0) (ts : Terms) (scope scope2 : LoweringScope) → scope2 ≡ scope → (p p2 : LoweringPoint) → p2 ≡ p
      → (ds ds2 : List ℕ) (mid mid2 : LoweringPoint) → TermsAt functions f scope ts p ds mid
      → TermsAt functions g scope2 ts p2 ds2 mid2 → (op : List ℕ → Op) (place : ℕ) → OpAt f mid.instr (op ds) place
      → OpAt g mid2.instr (op ds2) place → (s3 s4 : LoweringScope) → s3 ≡ scope → s4 ≡ scope2 → (q q2 : LoweringPoint)
      → q ≡ next_point mid → q2 ≡ next_point mid2 → SameStmt p s3 s4 q q2 Targets
  behind_terms Targets ts scope scope2 s p p2 at ds ds2 mid mid2 x y op place v w s3 s4 is is2 q q2 e e2 =
      let a = terms_same f g functions ts scope scope2 s p p2 at ds ds2 mid mid2 x y in
      record {
        scope = along s3 scope s4 scope2 is is2 s;
        last = along q (next_point mid) q2 (next_point mid2) e e2 (ap next_point a.last);
        code = λ _.
            ends f g p (next_point mid) q
            (then f g p mid (next_point mid) a.code (one f g mid mid2 _ _ place a.last (ap op a.value) v w)) e;
      }

  -- the same after one term
  behind_term : (Targets : Type 0) (t : Term) (scope scope2 : LoweringScope) → scope2 ≡ scope → (p p2 : LoweringPoint) → p2 ≡ p
      → (d d2 : ℕ) (mid mid2 : LoweringPoint) → TermAt functions f scope t p d mid → TermAt functions g scope2 t p2 d2 mid2
      → (op op2 : Op) → (d2 ≡ d → op2 ≡ op) → (place : ℕ) → OpAt f mid.instr op place → OpAt g mid2.instr op2 place
      → (s3 s4 : LoweringScope) → s3 ≡ scope → s4 ≡ scope2 → (q q2 : LoweringPoint) → q ≡ next_point mid → q2 ≡ next_point mid2
      → SameStmt p s3 s4 q q2 Targets
  behind_term Targets t scope scope2 s p p2 at d d2 mid mid2 x y op op2 same place v w s3 s4 is is2 q q2 e e2 =
      let a = term_same f g functions t scope scope2 s p p2 at d d2 mid mid2 x y in
      record {
        scope = along s3 scope s4 scope2 is is2 s;
        last = along q (next_point mid) q2 (next_point mid2) e e2 (ap next_point a.last);
        code = λ _.
            ends f g p (next_point mid) q
            (then f g p mid (next_point mid) a.code (one f g mid mid2 op op2 place a.last (same a.value) v w)) e;
      }

  -- one instruction alone
  alone : (Targets : Type 0) (scope scope2 : LoweringScope) → scope2 ≡ scope → (p p2 : LoweringPoint) → p2 ≡ p → (op op2 : Op)
      → (Targets → op2 ≡ op) → (place : ℕ) → OpAt f p.instr op place → OpAt g p2.instr op2 place → (s3 s4 : LoweringScope)
      → s3 ≡ scope → s4 ≡ scope2 → (q q2 : LoweringPoint) → q ≡ next_point p → q2 ≡ next_point p2 → SameStmt p s3 s4 q q2 Targets
  alone Targets scope scope2 s p p2 at op op2 same place v w s3 s4 is is2 q q2 e e2 = record {
    scope = along s3 scope s4 scope2 is is2 s;
    last = along q (next_point p) q2 (next_point p2) e e2 (ap next_point at);
    code = λ k. ends f g p (next_point p) q (one f g p p2 op op2 place at (same k) v w) e;
  }

  mutual
    pub stmt_same : (s : Stmt) (targets targets2 : List Target) (scope scope2 : LoweringScope) → scope2 ≡ scope
        → (p p2 : LoweringPoint) → p2 ≡ p → (s3 s4 : LoweringScope) (q q2 : LoweringPoint) → StmtAt functions f s targets scope p s3 q
        → StmtAt functions g s targets2 scope2 p2 s4 q2 → SameStmt p s3 s4 q q2 (targets2 ≡ targets)
    stmt_same (tree.Block all) ts ts2 scope scope2 s p p2 at s3 s4 q q2 x y =
        let a = stmts_same all ts ts2 scope scope2 s p p2 at x.0 y.0 q q2 x.1 y.1 in
        record { scope = along s3 scope s4 scope2 x.2 y.2 s; last = a.last; code = a.code }
    stmt_same (tree.Declare n ty value place) ts ts2 scope scope2 s p p2 at s3 s4 q q2 x y =
        let a = term_same f g functions value scope scope2 s p p2 at x.0 y.0 x.1 y.1 x.2 y.2 in
        record {
          scope =
              along s3 ((n, x.1.variable) ∷ scope) s4 ((n, y.1.variable) ∷ scope2) x.5 y.5
              (λ i. (n, (a.last i).variable) ∷ s i);
          last = along q (after_value x.1) q2 (after_value y.1) x.6 y.6 (ap after_value a.last);
          code = λ _.
              ends f g p (after_value x.1) q
              (then f g p x.1 (after_value x.1) a.code
              (one_action f g x.1 y.1 Copy (x.0 ∷ []) (y.0 ∷ []) ty place a.last (ap (λ z. z ∷ []) a.value) x.3 y.3))
              x.6;
        }
    stmt_same (tree.Zero n ty place) ts ts2 scope scope2 s p p2 at s3 s4 q q2 x y = record {
      scope =
          along s3 ((n, p.variable) ∷ scope) s4 ((n, p2.variable) ∷ scope2) x.2 y.2
          (λ i. (n, (at i).variable) ∷ s i);
      last = along q (after_value p) q2 (after_value p2) x.3 y.3 (ap after_value at);
      code = λ _.
          ends f g p (after_value p) q
          (one_action f g p p2 (zero_action ty) [] [] ty place at refl x.0 y.0) x.3;
    }
    stmt_same (tree.Assign n value place) ts ts2 scope scope2 s p p2 at s3 s4 q q2 x y =
        let same : y.2 ≡ x.2 = some_injective y.2 x.2 (sym y.4 ∙ ap (λ z. variable_of_local z n) s ∙ x.4) in
        behind_term (ts2 ≡ ts) value scope scope2 s p p2 at x.0 y.0 x.1 y.1 x.3 y.3 _ _
        (λ e i. Do (Some (same i)) Copy (e i ∷ [])) place x.5 y.5 s3 s4 x.6 y.6 q q2 x.7 y.7
    stmt_same (tree.Perform action operands place) ts ts2 scope scope2 s p p2 at s3 s4 q q2 x y =
        behind_terms (ts2 ≡ ts) operands scope scope2 s p p2 at x.0 y.0 x.1 y.1 x.2 y.2 (λ ds. Do None action ds) place
        x.3 y.3 s3 s4 x.4 y.4 q q2 x.5 y.5
    stmt_same (tree.Update change) ts ts2 scope scope2 s p p2 at s3 s4 q q2 x y =
        let a = update_same change scope scope2 s p p2 at q q2 x.0 y.0 in
        record { scope = along s3 scope s4 scope2 x.1 y.1 s; last = a.last; code = λ _. a.code }
    stmt_same (tree.Discard value) ts ts2 scope scope2 s p p2 at s3 s4 q q2 x y =
        let a = term_same f g functions value scope scope2 s p p2 at x.0 y.0 q q2 x.1 y.1 in
        record { scope = along s3 scope s4 scope2 x.2 y.2 s; last = a.last; code = λ _. a.code }
    stmt_same (tree.Invoke n arguments place) ts ts2 scope scope2 s p p2 at s3 s4 q q2 x y =
        behind_terms (ts2 ≡ ts) arguments scope scope2 s p p2 at x.0 y.0 x.1 y.1 x.2 y.2 (λ ds. Call None n ds) place
        x.3 y.3 s3 s4 x.5 y.5 q q2 x.6 y.6
    stmt_same (tree.Go n arguments place) ts ts2 scope scope2 s p p2 at s3 s4 q q2 x y =
        behind_terms (ts2 ≡ ts) arguments scope scope2 s p p2 at x.0 y.0 x.1 y.1 x.2 y.2 (λ ds. Go n ds) place x.3 y.3
        s3 s4 x.5 y.5 q q2 x.6 y.6
    stmt_same (tree.Print pieces values place) ts ts2 scope scope2 s p p2 at s3 s4 q q2 x y =
        behind_terms (ts2 ≡ ts) values scope scope2 s p p2 at x.0 y.0 x.1 y.1 x.2 y.2 (λ ds. Print pieces ds) place
        x.3 y.3 s3 s4 x.4 y.4 q q2 x.5 y.5
    stmt_same (tree.If test body place) ts ts2 scope scope2 s p p2 at s3 s4 q q2 x y =
        let a = test_same test scope scope2 s p p2 at q.instr q2.instr place x.0 y.0 x.2 y.2 in
        let b = stmts_same body ts ts2 scope scope2 s x.0 y.0 a.last x.1 y.1 q q2 x.3 y.3 in
        record {
          scope = along s3 scope s4 scope2 x.4 y.4 s;
          last = b.last;
          code = λ e. then f g p x.0 q (a.code (ap (λ (z : LoweringPoint). z.instr) b.last)) (b.code e);
        }
    stmt_same (tree.IfElse test body other place) ts ts2 scope scope2 s p p2 at s3 s4 q q2 x y =
        let a = test_same test scope scope2 s p p2 at (x.1.instr + 1) (y.1.instr + 1) place x.0 y.0 x.4 y.4 in
        let b = stmts_same body ts ts2 scope scope2 s x.0 y.0 a.last x.2 y.2 x.1 y.1 x.5 y.5 in
        let c =
        stmts_same other ts ts2 scope scope2 s (next_point x.1) (next_point y.1) (ap next_point b.last) x.3 y.3 q q2 x.7 y.7 in
        record {
          scope = along s3 scope s4 scope2 x.8 y.8 s;
          last = c.last;
          code = λ e.
              then f g p x.0 q (a.code (λ i. (b.last i).instr + 1))
              (then f g x.0 x.1 q (b.code e)
              (then f g x.1 (next_point x.1) q
              (one f g x.1 y.1 _ _ place b.last (λ i. Jump ((c.last i).instr)) x.6 y.6) (c.code e)));
        }
    stmt_same (tree.Loop test body post place) ts ts2 scope scope2 s p p2 at s3 s4 q q2 x y =
        let a = condition_same test scope scope2 s p p2 at q.instr q2.instr place x.0 y.0 x.5 y.5 in
        let b =
        stmts_same body (record { break_to = q.instr; continue_to = x.1.instr } ∷ ts)
        (record { break_to = q2.instr; continue_to = y.1.instr } ∷ ts2) scope scope2 s x.0 y.0 a.last x.3 y.3 x.1 y.1 x.6
        y.6 in
        let c = stmts_same post ts ts2 scope scope2 s x.1 y.1 b.last x.4 y.4 x.2 y.2 x.7 y.7 in
        let same : q2 ≡ q = along q (next_point x.2) q2 (next_point y.2) x.10 y.10 (ap next_point c.last) in
        record {
          scope = along s3 scope s4 scope2 x.9 y.9 s;
          last = same;
          code = λ e.
              ends f g p (next_point x.2) q
              (then f g p x.0 (next_point x.2) (a.code (ap (λ (z : LoweringPoint). z.instr) same))
              (then f g x.0 x.1 (next_point x.2)
              (b.code (λ i. record { break_to = (same i).instr; continue_to = (b.last i).instr } ∷ e i))
              (then f g x.1 x.2 (next_point x.2) (c.code e)
              (one f g x.2 y.2 _ _ place c.last (λ i. Jump ((at i).instr)) x.8 y.8))))
              x.10;
        }
    stmt_same (tree.Break place) (t ∷ ts) (t2 ∷ ts2) scope scope2 s p p2 at s3 s4 q q2 x y =
        alone ((t2 ∷ ts2) ≡ (t ∷ ts)) scope scope2 s p p2 at _ _ (λ e i. Jump (break_of (e i))) place x.0 y.0 s3 s4 x.1
        y.1 q q2 x.2 y.2
    stmt_same (tree.Break place) (t ∷ ts) [] scope scope2 s p p2 at s3 s4 q q2 x y = absurd y
    stmt_same (tree.Break place) [] ts2 scope scope2 s p p2 at s3 s4 q q2 x y = absurd x
    stmt_same (tree.Continue place) (t ∷ ts) (t2 ∷ ts2) scope scope2 s p p2 at s3 s4 q q2 x y =
        alone ((t2 ∷ ts2) ≡ (t ∷ ts)) scope scope2 s p p2 at _ _ (λ e i. Jump (continue_of (e i))) place x.0 y.0 s3 s4
        x.1 y.1 q q2 x.2 y.2
    stmt_same (tree.Continue place) (t ∷ ts) [] scope scope2 s p p2 at s3 s4 q q2 x y = absurd y
    stmt_same (tree.Continue place) [] ts2 scope scope2 s p p2 at s3 s4 q q2 x y = absurd x
    stmt_same (tree.Return None place) ts ts2 scope scope2 s p p2 at s3 s4 q q2 x y =
        alone (ts2 ≡ ts) scope scope2 s p p2 at _ _ (λ _. refl) place x.0 y.0 s3 s4 x.2 y.2 q q2 x.3 y.3
    stmt_same (tree.Return (Some value) place) ts ts2 scope scope2 s p p2 at s3 s4 q q2 x y =
        behind_term (ts2 ≡ ts) value scope scope2 s p p2 at x.0 y.0 x.1 y.1 x.3 y.3 _ _ (λ e i. Return (Some (e i)))
        place x.4 y.4 s3 s4 x.6 y.6 q q2 x.7 y.7

    pub stmts_same : (all : Stmts) (targets targets2 : List Target) (scope scope2 : LoweringScope) → scope2 ≡ scope
        → (p p2 : LoweringPoint) → p2 ≡ p → (s3 s4 : LoweringScope) (q q2 : LoweringPoint) → StmtsAt functions f all targets scope p s3 q
        → StmtsAt functions g all targets2 scope2 p2 s4 q2 → SameStmt p s3 s4 q q2 (targets2 ≡ targets)
    stmts_same tree.no_stmts ts ts2 scope scope2 s p p2 at s3 s4 q q2 x y = record {
      scope = along s3 scope s4 scope2 x.0 y.0 s;
      last = along q p q2 p2 x.1 y.1 at;
      code = λ _. nothing f g p q x.1;
    }
    stmts_same (tree.a_stmt one_of all) ts ts2 scope scope2 s p p2 at s3 s4 q q2 x y =
        let a = stmt_same one_of ts ts2 scope scope2 s p p2 at x.0 y.0 x.1 y.1 x.2 y.2 in
        let b = stmts_same all ts ts2 x.0 y.0 a.scope x.1 y.1 a.last s3 s4 q q2 x.3 y.3 in
        record {
          scope = b.scope;
          last = b.last;
          code = λ e. then f g p x.1 q (a.code e) (b.code e);
        }
