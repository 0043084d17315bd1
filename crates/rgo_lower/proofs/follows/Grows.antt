-- Growth: the code of a part adds variables and keeps all that were, and what was in scope before is in scope after it.
use Rattle.std.proofs.Common.{◌≡◌, ◌≢◌, ℕ, ◌+◌, ◌<◌, ◌≤◌, Bool, true, false, List, [], ◌∷◌, length, Option, Some, None}
use Rattle.std.proofs.Common.{refl, sym, ap, ◌∙◌, subst, arith, nat_eq, if◌then◌else◌}
use Rattle.std.proofs.lemmas.Bool.Decides.{nat_tests}
use Rattle.rgo_typed.specs.Tree as tree
use Rattle.rgo_typed.specs.Tree.{Function, Term, Terms, Stmt, Stmts, Change}
use Rattle.rgo_tac.specs.Code.{TacFn}
use Rattle.rgo_lower.specs.Lowered.{LoweringPoint, after_value, next_point, LoweringScope, variable_of_local, Target, StoresAt, TermAt, TermsAt, TestAt}
use Rattle.rgo_lower.specs.Lowered.{ConditionAt, UpdateAt, StmtAt, StmtsAt}
use Rattle.rgo_lower.proofs.follows.Places.{Inside, Fits, Loop, InLoop}

pub some_same : {X : Type 0} (x y : X) → Some x ≡ Some y → x ≡ y
some_same x y e = cc

pub tested_eq : (m n : ℕ) → nat_eq m n ≡ true → m ≡ n
tested_eq m n e = grind (arith, nat_tests)

pub tested_ne : (m n : ℕ) → nat_eq m n ≡ false → m ≢ n
tested_ne m n e = grind (arith, nat_tests)

pub variable_le : (p q : LoweringPoint) → q ≡ p → p.variable ≤ q.variable
variable_le p q e = let v = ap (λ (z : LoweringPoint). z.variable) e in omega (arith, v)

-- ---- scopes

pub same_inside : (s : LoweringScope) → Inside s s
same_inside s = record { has = λ n d e. e }

pub inside_trans : (a b c : LoweringScope) → Inside a b → Inside b c → Inside a c
inside_trans a b c h k = record { has = λ n d e. k.has n d (h.has n d e) }

pub equal_inside : (a b : LoweringScope) → b ≡ a → Inside a b
equal_inside a b e = subst (λ z. Inside a z) (sym e) (same_inside a)

pub fresh_inside : (s : LoweringScope) (n x : ℕ) → variable_of_local s n ≡ None → Inside s ((n, x) ∷ s)
fresh_inside s n x fresh = record { has = λ other d e. go other d e (nat_eq n other) refl }
  where
    go : (other d : ℕ) → variable_of_local s other ≡ Some d → (b : Bool) → nat_eq n other ≡ b
        → (if b then Some x else variable_of_local s other) ≡ Some d
    go other d e true t = let is = ap (variable_of_local s) (tested_eq n other t) in cc
    go other d e false t = e

pub in_loop : (loops : List Loop) (s : LoweringScope) (n x : ℕ) → variable_of_local s n ≡ None → InLoop loops s
    → InLoop loops ((n, x) ∷ s)
in_loop [] s n x fresh h = tt
in_loop (l ∷ loops) s n x fresh h = inside_trans l.scope s ((n, x) ∷ s) h (fresh_inside s n x fresh)

pub fits_grow : (f : TacFn) (s : LoweringScope) (m n : ℕ) → m ≤ n → Fits f s m → Fits f s n
fits_grow f s m n le h =
    record { below = λ a d e. omega (arith, h.below a d e, le); known = h.known; apart = h.apart }

pub fits_inside : (f : TacFn) (a b : LoweringScope) (n : ℕ) → Inside a b → Fits f b n → Fits f a n
fits_inside f a b n i h = record {
  below = λ m d e. h.below m d (i.has m d e);
  known = λ m d e. h.known m d (i.has m d e);
  apart = λ m other d e e2. h.apart m other d (i.has m d e) (i.has other d e2);
}

-- a local variable begins, with variable x
pub fits_begin : (f : TacFn) (s : LoweringScope) (n x : ℕ) → x < length f.variables → Fits f s x
    → Fits f ((n, x) ∷ s) (x + 1)
fits_begin f s n x known h = record {
  below = λ a d e. below a d (nat_eq n a) e;
  known = λ a d e. known_at a d (nat_eq n a) e;
  apart = λ a b d e e2. apart a b d (nat_eq n a) (nat_eq n b) refl refl e e2;
}
  where
    below : (a d : ℕ) (t : Bool) → (if t then Some x else variable_of_local s a) ≡ Some d → d < x + 1
    below a d true e = let is = some_same x d e in omega (arith, is)
    below a d false e = omega (arith, h.below a d e)

    known_at : (a d : ℕ) (t : Bool) → (if t then Some x else variable_of_local s a) ≡ Some d → d < length f.variables
    known_at a d true e = subst (λ z. z < length f.variables) (some_same x d e) known
    known_at a d false e = h.known a d e

    apart : (a b d : ℕ) (t u : Bool) → nat_eq n a ≡ t → nat_eq n b ≡ u
        → (if t then Some x else variable_of_local s a) ≡ Some d → (if u then Some x else variable_of_local s b) ≡ Some d → a ≡ b
    apart a b d true true t u e e2 = sym (tested_eq n a t) ∙ tested_eq n b u
    apart a b d true false t u e e2 =
        let is = some_same x d e in let lt = h.below b d e2 in absurd (omega (arith, is, lt))
    apart a b d false true t u e e2 =
        let is = some_same x d e2 in let lt = h.below a d e in absurd (omega (arith, is, lt))
    apart a b d false false t u e e2 = h.apart a b d e e2

-- ---- variables

module _ (functions : List Function) (f : TacFn) where
  pub stores_keep : (object : ℕ) (fields ds : List ℕ) (place : ℕ) (p q : LoweringPoint)
      → StoresAt functions f object fields ds place p q → q.variable ≡ p.variable
  stores_keep object [] [] place p q h = ap (λ (z : LoweringPoint). z.variable) h
  stores_keep object (k ∷ fields) (d ∷ ds) place p q h = stores_keep object fields ds place (next_point p) q h.1
  stores_keep object [] (d ∷ ds) place p q h = absurd h
  stores_keep object (k ∷ fields) [] place p q h = absurd h

  mutual
    pub term_grows : (scope : LoweringScope) (t : Term) (p : LoweringPoint) (d : ℕ) (q : LoweringPoint) → TermAt functions f scope t p d q
        → p.variable ≤ q.variable
    term_grows scope (tree.Local n) p d q h = variable_le p q h.1
    term_grows scope (tree.Apply action parts ty place) p d q h =
        omega (arith, terms_grow scope parts p h.0 h.1 h.2, variable_le (after_value h.1) q h.5)
    term_grows scope (tree.Logic logic left right place) p d q h =
        omega (
          arith,
          term_grows scope left p h.0 h.1 h.2,
          term_grows scope right (next_point (after_value h.1)) h.4 h.5 h.7,
          variable_le (next_point h.5) q h.10,
        )
    term_grows scope (tree.Build n parts fields place) p d q h =
        omega (
          arith,
          terms_grow scope parts p h.0 h.1 h.2,
          stores_keep h.1.variable fields h.0 place (after_value h.1) q h.4,
        )
    term_grows scope (tree.Call n arguments ty place) p d q h =
        omega (arith, terms_grow scope arguments p h.0 h.1 h.2, variable_le (after_value h.1) q h.7)

    pub terms_grow : (scope : LoweringScope) (ts : Terms) (p : LoweringPoint) (ds : List ℕ) (q : LoweringPoint)
        → TermsAt functions f scope ts p ds q → p.variable ≤ q.variable
    terms_grow scope tree.no_terms p ds q h = variable_le p q h.1
    terms_grow scope (tree.a_term t ts) p ds q h =
        omega (arith, term_grows scope t p h.0 h.2 h.3, terms_grow scope ts h.2 h.1 q h.4)

  pub test_grows : (scope : LoweringScope) (t : Term) (otherwise place : ℕ) (p q : LoweringPoint)
      → TestAt functions f scope t otherwise place p q → p.variable ≤ q.variable
  test_grows scope t otherwise place p q h =
      omega (arith, term_grows scope t p h.0 h.1 h.2, variable_le (next_point h.1) q h.4)

  pub condition_grows : (scope : LoweringScope) (t : Option Term) (otherwise place : ℕ) (p q : LoweringPoint)
      → ConditionAt functions f scope t otherwise place p q → p.variable ≤ q.variable
  condition_grows scope None otherwise place p q h = variable_le p q h
  condition_grows scope (Some t) otherwise place p q h = test_grows scope t otherwise place p q h

  update_grows : (scope : LoweringScope) (c : Change) (p q : LoweringPoint) → UpdateAt functions f scope c p q
      → p.variable ≤ q.variable
  update_grows scope c p q h =
      omega (
        arith,
        terms_grow scope c.operands p h.0 h.1 h.2,
        term_grows scope c.value (after_value h.1) h.4 h.5 h.6,
        variable_le (next_point (after_value h.5)) q h.9,
      )

  mutual
    pub stmt_grows : (s : Stmt) (targets : List Target) (scope : LoweringScope) (p : LoweringPoint) (scope2 : LoweringScope) (q : LoweringPoint)
        → StmtAt functions f s targets scope p scope2 q → p.variable ≤ q.variable
    stmt_grows (tree.Block all) targets scope p scope2 q h = stmts_grow all targets scope p h.0 q h.1
    stmt_grows (tree.Declare n ty value place) targets scope p scope2 q h =
        omega (arith, term_grows scope value p h.0 h.1 h.2, variable_le (after_value h.1) q h.6)
    stmt_grows (tree.Zero n ty place) targets scope p scope2 q h = omega (arith, variable_le (after_value p) q h.3)
    stmt_grows (tree.Assign n value place) targets scope p scope2 q h =
        omega (arith, term_grows scope value p h.0 h.1 h.3, variable_le (next_point h.1) q h.7)
    stmt_grows (tree.Perform action operands place) targets scope p scope2 q h =
        omega (arith, terms_grow scope operands p h.0 h.1 h.2, variable_le (next_point h.1) q h.5)
    stmt_grows (tree.Update c) targets scope p scope2 q h = update_grows scope c p q h.0
    stmt_grows (tree.Discard value) targets scope p scope2 q h = term_grows scope value p h.0 q h.1
    stmt_grows (tree.Invoke n arguments place) targets scope p scope2 q h =
        omega (arith, terms_grow scope arguments p h.0 h.1 h.2, variable_le (next_point h.1) q h.6)
    stmt_grows (tree.Go n arguments place) targets scope p scope2 q h =
        omega (arith, terms_grow scope arguments p h.0 h.1 h.2, variable_le (next_point h.1) q h.6)
    stmt_grows (tree.Print pieces values place) targets scope p scope2 q h =
        omega (arith, terms_grow scope values p h.0 h.1 h.2, variable_le (next_point h.1) q h.5)
    stmt_grows (tree.If test body place) targets scope p scope2 q h =
        omega (arith, test_grows scope test q.instr place p h.0 h.2, stmts_grow body targets scope h.0 h.1 q h.3)
    stmt_grows (tree.IfElse test body other place) targets scope p scope2 q h =
        omega (
          arith,
          test_grows scope test (h.1.instr + 1) place p h.0 h.4,
          stmts_grow body targets scope h.0 h.2 h.1 h.5,
          stmts_grow other targets scope (next_point h.1) h.3 q h.7,
        )
    stmt_grows (tree.Loop test body post place) targets scope p scope2 q h =
        omega (
          arith,
          condition_grows scope test q.instr place p h.0 h.5,
          stmts_grow body (record { break_to = q.instr; continue_to = h.1.instr } ∷ targets) scope h.0 h.3 h.1 h.6,
          stmts_grow post targets scope h.1 h.4 h.2 h.7,
          variable_le (next_point h.2) q h.10,
        )
    stmt_grows (tree.Break place) [] scope p scope2 q h = absurd h
    stmt_grows (tree.Break place) (t ∷ targets) scope p scope2 q h = variable_le (next_point p) q h.2
    stmt_grows (tree.Continue place) [] scope p scope2 q h = absurd h
    stmt_grows (tree.Continue place) (t ∷ targets) scope p scope2 q h = variable_le (next_point p) q h.2
    stmt_grows (tree.Return None place) targets scope p scope2 q h = variable_le (next_point p) q h.3
    stmt_grows (tree.Return (Some value) place) targets scope p scope2 q h =
        omega (arith, term_grows scope value p h.0 h.1 h.3, variable_le (next_point h.1) q h.7)

    pub stmts_grow : (ss : Stmts) (targets : List Target) (scope : LoweringScope) (p : LoweringPoint) (scope2 : LoweringScope) (q : LoweringPoint)
        → StmtsAt functions f ss targets scope p scope2 q → p.variable ≤ q.variable
    stmts_grow tree.no_stmts targets scope p scope2 q h = variable_le p q h.1
    stmts_grow (tree.a_stmt s all) targets scope p scope2 q h =
        omega (arith, stmt_grows s targets scope p h.0 h.1 h.2, stmts_grow all targets h.0 h.1 scope2 q h.3)

  stmt_scopes : (s : Stmt) (targets : List Target) (scope : LoweringScope) (p : LoweringPoint) (scope2 : LoweringScope) (q : LoweringPoint)
      → StmtAt functions f s targets scope p scope2 q → Inside scope scope2
  stmt_scopes (tree.Block all) targets scope p scope2 q h = equal_inside scope scope2 h.2
  stmt_scopes (tree.Declare n ty value place) targets scope p scope2 q h =
      subst (λ z. Inside scope z) (sym h.5) (fresh_inside scope n h.1.variable h.4)
  stmt_scopes (tree.Zero n ty place) targets scope p scope2 q h =
      subst (λ z. Inside scope z) (sym h.2) (fresh_inside scope n p.variable h.1)
  stmt_scopes (tree.Assign n value place) targets scope p scope2 q h = equal_inside scope scope2 h.6
  stmt_scopes (tree.Perform action operands place) targets scope p scope2 q h = equal_inside scope scope2 h.4
  stmt_scopes (tree.Update c) targets scope p scope2 q h = equal_inside scope scope2 h.1
  stmt_scopes (tree.Discard value) targets scope p scope2 q h = equal_inside scope scope2 h.2
  stmt_scopes (tree.Invoke n arguments place) targets scope p scope2 q h = equal_inside scope scope2 h.5
  stmt_scopes (tree.Go n arguments place) targets scope p scope2 q h = equal_inside scope scope2 h.5
  stmt_scopes (tree.Print pieces values place) targets scope p scope2 q h = equal_inside scope scope2 h.4
  stmt_scopes (tree.If test body place) targets scope p scope2 q h = equal_inside scope scope2 h.4
  stmt_scopes (tree.IfElse test body other place) targets scope p scope2 q h = equal_inside scope scope2 h.8
  stmt_scopes (tree.Loop test body post place) targets scope p scope2 q h = equal_inside scope scope2 h.9
  stmt_scopes (tree.Break place) [] scope p scope2 q h = absurd h
  stmt_scopes (tree.Break place) (t ∷ targets) scope p scope2 q h = equal_inside scope scope2 h.1
  stmt_scopes (tree.Continue place) [] scope p scope2 q h = absurd h
  stmt_scopes (tree.Continue place) (t ∷ targets) scope p scope2 q h = equal_inside scope scope2 h.1
  stmt_scopes (tree.Return None place) targets scope p scope2 q h = equal_inside scope scope2 h.2
  stmt_scopes (tree.Return (Some value) place) targets scope p scope2 q h = equal_inside scope scope2 h.6

  pub stmts_scopes : (ss : Stmts) (targets : List Target) (scope : LoweringScope) (p : LoweringPoint) (scope2 : LoweringScope) (q : LoweringPoint)
      → StmtsAt functions f ss targets scope p scope2 q → Inside scope scope2
  stmts_scopes tree.no_stmts targets scope p scope2 q h = equal_inside scope scope2 h.0
  stmts_scopes (tree.a_stmt s all) targets scope p scope2 q h =
      inside_trans scope h.0 scope2 (stmt_scopes s targets scope p h.0 h.1 h.2)
      (stmts_scopes all targets h.0 h.1 scope2 q h.3)
