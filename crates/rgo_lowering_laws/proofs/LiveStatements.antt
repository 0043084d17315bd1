-- Each variable is written before it is read: what is live at the start of a statement is in scope there.
use Rattle.std.proofs.Common.{◌≡◌, ℕ, zero, suc, ◌+◌, ◌<◌, ◌≤◌, inl, inr, Bool, true, false, List, [], ◌∷◌, ◌++◌}
use Rattle.std.proofs.Common.{Option, Some, None, nat_eq, if◌then◌else◌, refl, sym, subst, arith}
use Rattle.rgo_typed.specs.declared.types.Type.{«Type»}
use Rattle.rgo_typed.specs.Tree as tree
use Rattle.rgo_typed.specs.Tree.{Function, Term, Stmt, Stmts, Change, stmts_of}
use Rattle.rgo_tac.specs.Code.{Jump, TacFn}
use Rattle.rgo_flow.specs.Live.{Live}
use Rattle.rgo_lower.specs.Lowered.{LoweringPoint, after_value, next_point, OpAt, LoweringScope, variable_of_local, parameters, Target}
use Rattle.rgo_lower.specs.Lowered.{TestAt, ConditionAt, UpdateAt, StmtAt, StmtsAt, closing_op, IsLoweredFn}
use Rattle.rgo_lower.proofs.follows.Places.{Inside}
use Rattle.rgo_lower.proofs.follows.Grows.{stmts_scopes}
use Rattle.rgo_lowering_laws.proofs.Lists.{some_is, none_is}
use Rattle.rgo_lowering_laws.proofs.Liveness.{Or, nothing_more, join, first_apart, last_apart, OnlyLive, weaker, fewer}
use Rattle.rgo_lowering_laws.proofs.Liveness.{same_point, at_write, at_next, at_branch, at_return}
use Rattle.rgo_lowering_laws.proofs.Liveness.{at_jump_back, at_jump, at_stay}
use Rattle.rgo_lowering_laws.proofs.LiveTerms.{InRange, term, terms}

-- ---- scopes

-- v belongs to the new local variable, or to one that was in scope before it
begun : (scope : LoweringScope) (n x v : ℕ) → InRange ((n, x) ∷ scope) v → Or (x ∷ []) (InRange scope) v
begun scope n x v h = go (nat_eq n h.0) h.1
  where
    go : (b : Bool) → (if b then Some x else variable_of_local scope h.0) ≡ Some v → Or (x ∷ []) (InRange scope) v
    go true e = inl (inl (sym (some_is x v e)))
    go false e = inr (h.0, e)

range_inside : (a b : LoweringScope) → Inside a b → (v : ℕ) → InRange a v → InRange b v
range_inside a b i v h = (h.0, i.has h.0 v h.1)

parameters_below : (k v : ℕ) → InRange (parameters k) v → v < k
parameters_below zero v (n, e) = absurd (none_is v e)
parameters_below (suc k) v (n, e) = go (λ r. parameters_below k v r) (nat_eq k n) e
  where
    go : (InRange (parameters k) v → v < k) → (b : Bool)
        → (if b then Some k else variable_of_local (parameters k) n) ≡ Some v → v < suc k
    go below true e = let is = some_is k v e in omega (arith, is)
    go below false e = omega (arith, below (n, e))

module _ (functions : List Function) (f : TacFn) where
  -- within n steps, only what is in scope is live at this instruction or point
  abbrev Scoped : (n at : ℕ) → LoweringScope → Type 0
  Scoped n at scope = OnlyLive f n at (InRange scope)

  abbrev At : ℕ → LoweringPoint → LoweringScope → Type 0
  At n p scope = Scoped n p.instr scope

  same_at : (n : ℕ) (p q : LoweringPoint) (scope scope2 : LoweringScope) → scope2 ≡ scope → q ≡ p → At n q scope2 → At n p scope
  same_at n p q scope scope2 e at k = subst (At n p) e (same_point f n p q (InRange scope2) at k)

  -- ---- parts of statements

  test : (n : ℕ) (scope : LoweringScope) (t : Term) (otherwise place : ℕ) (p q : LoweringPoint)
      → TestAt functions f scope t otherwise place p q → Scoped n otherwise scope → At n q scope → At n p scope
  test n scope t otherwise place p q h l k =
      let R = InRange scope in
      term functions f n scope t p h.0 h.1 h.2 R (λ v r. r)
      (at_branch f n h.1.instr place R h.0 (h.1.instr + 1) otherwise h.3 (same_point f n (next_point h.1) q R h.4 k) l)

  condition : (n : ℕ) (scope : LoweringScope) (t : Option Term) (otherwise place : ℕ) (p q : LoweringPoint)
      → ConditionAt functions f scope t otherwise place p q → Scoped n otherwise scope → At n q scope → At n p scope
  condition n scope None otherwise place p q h l k = same_point f n p q (InRange scope) h k
  condition n scope (Some t) otherwise place p q h l k = test n scope t otherwise place p q h l k

  update : (n : ℕ) (scope : LoweringScope) (c : Change) (p q : LoweringPoint) → UpdateAt functions f scope c p q → At n q scope
      → At n p scope
  update n scope c p q h k =
      let R = InRange scope in
      let held = Or h.0 R in
      let mid = h.5 in
      let x = mid.variable in
      let old = h.1.variable in
      let end = same_point f n (next_point (after_value mid)) q R h.9 k in
      let written =
      weaker f n (mid.instr + 1) (Or (h.0 ++ x ∷ []) R) (Or (x ∷ []) held) (last_apart h.0 x R)
      (at_next f n (mid.instr + 1) _ c.at R h.8 refl end) in
      let computed =
      weaker f n mid.instr (Or (old ∷ h.4 ∷ []) held) (Or (h.4 ∷ []) (Or (old ∷ []) held))
      (first_apart old (h.4 ∷ []) held) (at_write f n mid.instr _ c.at held x h.7.instr refl refl written) in
      let read =
      term functions f n scope c.value (after_value h.1) h.4 mid h.6 (Or (old ∷ []) held) (λ v r. inr (inr r))
      computed in
      terms functions f n scope c.operands p h.0 h.1 h.2 R (λ v r. r)
      (weaker f n h.1.instr (Or h.0 held) held (join h.0 R)
      (at_write f n h.1.instr _ c.read_at held old h.3.instr refl refl read))

  -- an instruction that declares a local variable
  declare : (n : ℕ) (local x : ℕ) (p q : LoweringPoint) (scope scope2 : LoweringScope) → scope2 ≡ (local, x) ∷ scope → q ≡ p
      → At n q scope2 → OnlyLive f n p.instr (Or (x ∷ []) (InRange scope))
  declare n local x p q scope scope2 e at k =
      weaker f n p.instr (InRange ((local, x) ∷ scope)) (Or (x ∷ []) (InRange scope)) (begun scope local x)
      (same_at n p q ((local, x) ∷ scope) scope2 e at k)

  -- at the end of a block, what is in scope around it is in scope as well
  leave : (n : ℕ) (all : Stmts) (targets : List Target) (scope : LoweringScope) (p : LoweringPoint) (inner : LoweringScope) (q : LoweringPoint)
      → StmtsAt functions f all targets scope p inner q → At n q scope → At n q inner
  leave n all targets scope p inner q h k =
      weaker f n q.instr (InRange scope) (InRange inner)
      (range_inside scope inner (stmts_scopes functions f all targets scope p inner q h)) k

  -- a jump back takes a step, so there are no more turns than steps
  turns : (n : ℕ) (p : LoweringPoint) (last place : ℕ) (scope : LoweringScope) → OpAt f last (Jump p.instr) place
      → ((m : ℕ) → m ≤ n → Scoped m last scope → At m p scope) → At n p scope
  turns zero p last place scope at turn =
      turn 0 (omega arith)
      (at_jump_back f 0 last place (InRange scope) p.instr at (λ m less. absurd (omega (arith, less))))
  turns (suc n) p last place scope at turn =
      turn (suc n) (omega arith)
      (at_jump_back f (suc n) last place (InRange scope) p.instr at (λ m less.
      fewer f m n p.instr (InRange scope) (omega (arith, less))
      (turns n p last place scope at (λ k le. turn k (omega (arith, le))))))

  -- ---- loops

  -- only what is in scope is live where `break` and `continue` of the innermost loop lead
  abbrev Lands : ℕ → List Target → LoweringScope → Type 0
  Lands n [] scope = Unit {0}
  Lands n (t ∷ targets) scope = Scoped n t.break_to scope × Scoped n t.continue_to scope

  lands_inside : (n : ℕ) (targets : List Target) (a b : LoweringScope) → Inside a b → Lands n targets a → Lands n targets b
  lands_inside n [] a b i h = tt
  lands_inside n (t ∷ targets) a b i h = (
    weaker f n t.break_to (InRange a) (InRange b) (range_inside a b i) h.0,
    weaker f n t.continue_to (InRange a) (InRange b) (range_inside a b i) h.1,
  )

  fewer_lands : (m n : ℕ) (targets : List Target) (scope : LoweringScope) → m ≤ n → Lands n targets scope
      → Lands m targets scope
  fewer_lands m n [] scope le h = tt
  fewer_lands m n (t ∷ targets) scope le h =
      (fewer f m n t.break_to (InRange scope) le h.0, fewer f m n t.continue_to (InRange scope) le h.1)

  -- ---- statements

  mutual
    stmt : (s : Stmt) (targets : List Target) (scope : LoweringScope) (p : LoweringPoint) (scope2 : LoweringScope) (q : LoweringPoint)
        → StmtAt functions f s targets scope p scope2 q
        → (n : ℕ) → Lands n targets scope → At n q scope2 → At n p scope
    stmt (tree.Block all) targets scope p scope2 q h n lands k =
        stmts all targets scope p h.0 q h.1 n lands
        (leave n all targets scope p h.0 q h.1 (same_at n q q scope scope2 h.2 refl k))
    stmt (tree.Declare x ty value place) targets scope p scope2 q h n lands k =
        term functions f n scope value p h.0 h.1 h.2 (InRange scope) (λ v r. r)
        (at_write f n h.1.instr _ place (InRange scope) h.1.variable h.3.instr refl refl
        (declare n x h.1.variable (after_value h.1) q scope scope2 h.5 h.6 k))
    stmt (tree.Zero x ty place) targets scope p scope2 q h n lands k =
        weaker f n p.instr (Or [] (InRange scope)) (InRange scope) (nothing_more (InRange scope))
        (at_write f n p.instr _ place (InRange scope) p.variable h.0.instr refl refl
        (declare n x p.variable (after_value p) q scope scope2 h.2 h.3 k))
    stmt (tree.Assign x value place) targets scope p scope2 q h n lands k =
        term functions f n scope value p h.0 h.1 h.3 (InRange scope) (λ v r. r)
        (at_next f n h.1.instr _ place (InRange scope) h.5 refl (same_at n (next_point h.1) q scope scope2 h.6 h.7 k))
    stmt (tree.Perform action operands place) targets scope p scope2 q h n lands k =
        terms functions f n scope operands p h.0 h.1 h.2 (InRange scope) (λ v r. r)
        (at_next f n h.1.instr _ place (InRange scope) h.3 refl (same_at n (next_point h.1) q scope scope2 h.4 h.5 k))
    stmt (tree.Update c) targets scope p scope2 q h n lands k =
        update n scope c p q h.0 (same_at n q q scope scope2 h.1 refl k)
    stmt (tree.Discard value) targets scope p scope2 q h n lands k =
        term functions f n scope value p h.0 q h.1 (InRange scope) (λ v r. r)
        (weaker f n q.instr (InRange scope) (Or (h.0 ∷ []) (InRange scope)) (λ v r. inr r)
        (same_at n q q scope scope2 h.2 refl k))
    stmt (tree.Invoke callee arguments place) targets scope p scope2 q h n lands k =
        terms functions f n scope arguments p h.0 h.1 h.2 (InRange scope) (λ v r. r)
        (at_next f n h.1.instr _ place (InRange scope) h.3 refl (same_at n (next_point h.1) q scope scope2 h.5 h.6 k))
    stmt (tree.Go callee arguments place) targets scope p scope2 q h n lands k =
        terms functions f n scope arguments p h.0 h.1 h.2 (InRange scope) (λ v r. r)
        (at_next f n h.1.instr _ place (InRange scope) h.3 refl (same_at n (next_point h.1) q scope scope2 h.5 h.6 k))
    stmt (tree.Print pieces values place) targets scope p scope2 q h n lands k =
        terms functions f n scope values p h.0 h.1 h.2 (InRange scope) (λ v r. r)
        (at_next f n h.1.instr _ place (InRange scope) h.3 refl (same_at n (next_point h.1) q scope scope2 h.4 h.5 k))
    stmt (tree.If t body place) targets scope p scope2 q h n lands k =
        let end = same_at n q q scope scope2 h.4 refl k in
        test n scope t q.instr place p h.0 h.2 end
        (stmts body targets scope h.0 h.1 q h.3 n lands (leave n body targets scope h.0 h.1 q h.3 end))
    stmt (tree.IfElse t body other place) targets scope p scope2 q h n lands k =
        let R = InRange scope in
        let end = same_at n q q scope scope2 h.8 refl k in
        let over =
        stmts other targets scope (next_point h.1) h.3 q h.7 n lands
        (leave n other targets scope (next_point h.1) h.3 q h.7 end) in
        let jump = at_jump f n h.1.instr place R q.instr h.6 end in
        test n scope t (h.1.instr + 1) place p h.0 h.4 over
        (stmts body targets scope h.0 h.2 h.1 h.5 n lands (leave n body targets scope h.0 h.2 h.1 h.5 jump))
    stmt (tree.Loop t body post place) targets scope p scope2 q h n lands k =
        let R = InRange scope in
        let end = same_at n q q scope scope2 h.9 refl k in
        turns n p h.2.instr place scope h.8 (λ m le last.
        let out = fewer f m n q.instr R le end in
        let next =
        stmts post targets scope h.1 h.4 h.2 h.7 m (fewer_lands m n targets scope le lands)
        (leave m post targets scope h.1 h.4 h.2 h.7 last) in
        let inside : List Target = record { break_to = q.instr; continue_to = h.1.instr } ∷ targets in
        let turn =
        stmts body inside scope h.0 h.3 h.1 h.6 m (out, next) (leave m body inside scope h.0 h.3 h.1 h.6 next) in
        condition m scope t q.instr place p h.0 h.5 out turn)
    stmt (tree.Break place) [] scope p scope2 q h n lands k = absurd h
    stmt (tree.Break place) (t ∷ targets) scope p scope2 q h n lands k =
        at_jump f n p.instr place (InRange scope) t.break_to h.0 lands.0
    stmt (tree.Continue place) [] scope p scope2 q h n lands k = absurd h
    stmt (tree.Continue place) (t ∷ targets) scope p scope2 q h n lands k =
        at_jump f n p.instr place (InRange scope) t.continue_to h.0 lands.1
    stmt (tree.Return None place) targets scope p scope2 q h n lands k =
        weaker f n p.instr (Or [] (InRange scope)) (InRange scope) (nothing_more (InRange scope))
        (at_return f n p.instr place (InRange scope) None h.0)
    stmt (tree.Return (Some value) place) targets scope p scope2 q h n lands k =
        term functions f n scope value p h.0 h.1 h.3 (InRange scope) (λ v r. r)
        (at_return f n h.1.instr place (InRange scope) (Some h.0) h.4)

    stmts : (all : Stmts) (targets : List Target) (scope : LoweringScope) (p : LoweringPoint) (scope2 : LoweringScope) (q : LoweringPoint)
        → StmtsAt functions f all targets scope p scope2 q
        → (n : ℕ) → Lands n targets scope → At n q scope2 → At n p scope
    stmts tree.no_stmts targets scope p scope2 q h n lands k = same_at n p q scope scope2 h.0 h.1 k
    stmts (tree.a_stmt s all) targets scope p scope2 q h n lands k =
        let i =
        stmts_scopes functions f (tree.a_stmt s tree.no_stmts) targets scope p h.0 h.1 (h.0, h.1, h.2, (refl, refl)) in
        stmt s targets scope p h.0 h.1 h.2 n lands
        (stmts all targets h.0 h.1 scope2 q h.3 n (lands_inside n targets scope h.0 i lands) k)

  -- ---- functions

  ending : (ty : Option «Type») (i place : ℕ) (R : ℕ → Type 0) (n : ℕ) → OpAt f i (closing_op ty i) place
      → OnlyLive f n i R
  ending None i place R n at =
      weaker f n i (Or [] R) R (nothing_more R) (at_return f n i place R None at)
  ending (Some ty) i place R n at = at_stay f i place R at n

  pub writes_first : (source : Function) → IsLoweredFn functions source f → (v : ℕ) → Live f v 0 → v < f.params
  writes_first source h v (steps, read) =
      let last = ending source.result_type h.last.instr source.end (InRange h.scope) steps h.closing in
      let start =
      stmts (stmts_of source.body) [] (parameters source.params)
      (record { instr = 0; variable = source.params }) h.scope h.last h.body steps tt last in
      let below = parameters_below source.params v (start steps v (omega arith) read) in
      subst (λ z. v < z) (sym h.params) below
