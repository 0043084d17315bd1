-- Headers and the kinds of statements in the grammar: how reading distinguishes them. A keyword decides at once. The hard case is the
-- first part of a header, which is known to be a condition or a statement only at its end.
use Rattle.std.proofs.Common.{◌≡◌, inr, true, false, List, ◌∷◌, ◌++◌, Option, Some, None, refl, arith, [], ℕ, zero, suc, inl, Bool}
use Rattle.rgo_ast.specs.Tree as tree
use Rattle.rgo_lexer.specs.{declared.terminals.Terminal.{Terminal, TheVariants.{OpenBrace, Semicolon, CloseBrace, Var, Go, If, Else, For, Return, Break, Continue}}, Lexemes.{Leaf, Lexeme, tok}}
use Rattle.rgo_grammar.specs.Grammar.{IsExpr, IsClause, IsCondition, IsStmt, IsIf, IsFor, IsSimple.{plain}, IsClause.{empty, some as a_clause}, IsCondition.{none as unconditional, some as on_condition}, IsStmt.{block as a_block, simple, if' as an_if, for' as a_for, go, var, vars, return as returned, returns, break as broken, continue as continued}, IsIf.{plain, with}, IsFor.{while, three}}
use Rattle.rgo_grammar.specs.reading.{Read.{Reader, Read, Done, ◌>>=◌, yielding, next_lexeme, token, Failed, Starving, single}, Statements.{valued, defining, condition, init, head_end_on, head_by, head, condition_by, condition_on, post_stmt_by, post_stmt_on, for_rest, for_by, for_on, else_body_on, else_by, else_on, return_by, return_on, stmt_by, stmts_by, block_by, stmt, if_stmt, stmts, block}, Expressions.{expr}}
use Rattle.rgo_grammar.proofs.reading.{Complete.{Meets, meets_bind, Opens}, Next.{begins_append, IsNext, next_also}}
use Rattle.rgo_grammar.proofs.expressions.{Starts.{starts, Starts, expr_starts, brace_closes}, Complete.{expr_complete}}
use Rattle.rgo_grammar.proofs.statements.Parts.{ReadsExprs, simple_complete, simple_starts, valued_complete, ends}

module _ (value : Reader tree.Expr) where
  head_kind : (k : Terminal) (l m : List Lexeme) → starts k ≡ true
      → head_by value k l m ≡ (defining value l >>= λ s w. head_end_on s w (next_lexeme w))
  head_kind Semicolon l m h = cc
  head_kind _ l m h = refl

  head_at : (l : List Lexeme) → Starts l
      → head value l ≡ (defining value l >>= λ s w. head_end_on s w (next_lexeme w))
  head_at [] h = absurd h
  head_at (t ∷ l) h = head_kind t.terminal (t ∷ l) l h

  condition_kind : (k : Terminal) (l m : List Lexeme) → starts k ≡ true
      → condition_by value k l m ≡ (value l >>= λ v w. token Semicolon w >>= yielding (λ _. Some v))
  condition_kind Semicolon l m h = cc
  condition_kind _ l m h = refl

  condition_at : (l : List Lexeme) → Starts l
      → condition_on value l (next_lexeme l)
      ≡ (value l >>= λ v w. token Semicolon w >>= yielding (λ _. Some v))
  condition_at [] h = absurd h
  condition_at (t ∷ l) h = condition_kind t.terminal (t ∷ l) l h

  step_kind : (k : Terminal) (l : List Lexeme) → starts k ≡ true
      → post_stmt_by value k l ≡ (valued value l >>= yielding (λ s. Some s))
  step_kind OpenBrace l h = cc
  step_kind _ l h = refl

  step_at : (l : List Lexeme) → Starts l
      → post_stmt_on value l (next_lexeme l) ≡ (valued value l >>= yielding (λ s. Some s))
  step_at [] h = absurd h
  step_at (t ∷ l) h = step_kind t.terminal (t ∷ l) h

  module _ (value_done : ReadsExprs true value) where
    -- a condition before the block
    pub head_condition : {x : List Lexeme} {c : tree.Expr} → IsExpr true 1 x c
        → (k : Leaf) (l : List Lexeme)
        → Meets (head value (x ++ tok OpenBrace k ∷ l)) (Done (condition c) (tok OpenBrace k ∷ l))
    head_condition {x} {c} e k l =
        rw (head_at (x ++ tok OpenBrace k ∷ l)
        (begins_append _ x (tok OpenBrace k ∷ l) (expr_starts e)))
        (meets_bind _ (simple_complete value true value_done (plain e) (tok OpenBrace k ∷ l) refl))

    -- what comes before the first `;`
    pub head_clause : {x : List Lexeme} {s : Option tree.Stmt} → IsClause true x s
        → (j : Leaf) (l : List Lexeme)
        → Meets (head value (x ++ tok Semicolon j ∷ l)) (Done (init s) l)
    head_clause empty j l = inr refl
    head_clause (a_clause {x} {s} h) j l =
        rw (head_at (x ++ tok Semicolon j ∷ l) (simple_starts h (tok Semicolon j ∷ l)))
        (meets_bind _ (simple_complete value true value_done h (tok Semicolon j ∷ l) refl))

    pub condition_complete : {x : List Lexeme} {c : Option tree.Expr} → IsCondition x c
        → (k : Leaf) (l : List Lexeme)
        → Meets (condition_on value (x ++ tok Semicolon k ∷ l)
        (next_lexeme (x ++ tok Semicolon k ∷ l))) (Done c l)
    condition_complete unconditional k l = inr refl
    condition_complete (on_condition {x} {v} e) k l =
        rw (condition_at (x ++ tok Semicolon k ∷ l)
        (begins_append _ x (tok Semicolon k ∷ l) (expr_starts e)))
        (meets_bind _ (value_done x v e (tok Semicolon k ∷ l) (omega arith, refl)))

    pub step_complete : {x : List Lexeme} {p : Option tree.Stmt} → IsClause false x p
        → (m : Leaf) (l : List Lexeme)
        → Meets (post_stmt_on value (x ++ tok OpenBrace m ∷ l) (next_lexeme (x ++ tok OpenBrace m ∷ l)))
        (Done p (tok OpenBrace m ∷ l))
    step_complete empty m l = inr refl
    step_complete (a_clause {x} {s} h) m l =
        rw (step_at (x ++ tok OpenBrace m ∷ l) (simple_starts h (tok OpenBrace m ∷ l)))
        (meets_bind _ (valued_complete value true value_done h (tok OpenBrace m ∷ l) refl))

-- ---- `for`, after its keyword
module _ (value : Reader tree.Expr) (value_done : ReadsExprs true value)
    (block : Reader (List tree.Stmt × Leaf)) (i : Leaf) where
  for_kind : (k : Terminal) (l : List Lexeme) → starts k ≡ true
      → for_by block value i k l ≡ (head value l >>= for_rest block value i)
  for_kind OpenBrace l h = cc
  for_kind _ l h = refl

  pub for_head_at : (l : List Lexeme) → Starts l
      → for_on block value i l (next_lexeme l) ≡ (head value l >>= for_rest block value i)
  for_head_at [] h = absurd h
  for_head_at (t ∷ l) h = for_kind t.terminal (t ∷ l) h

  pub for_clause_at : {x : List Lexeme} {s : Option tree.Stmt} → IsClause true x s
      → (j : Leaf) (l : List Lexeme)
      → for_on block value i (x ++ tok Semicolon j ∷ l) (next_lexeme (x ++ tok Semicolon j ∷ l))
      ≡ (head value (x ++ tok Semicolon j ∷ l) >>= for_rest block value i)
  for_clause_at empty j l = refl
  for_clause_at (a_clause {x} h) j l =
      for_head_at (x ++ tok Semicolon j ∷ l) (simple_starts h (tok Semicolon j ∷ l))

-- what a statement ends before
abbrev pub ends_stmt : Terminal → Bool
ends_stmt Semicolon = true
ends_stmt CloseBrace = true
ends_stmt _ = false

abbrev pub EndsStmt : List Lexeme → Type 0
EndsStmt = IsNext ends_stmt

pub stmt_ends : (k : Terminal) → ends_stmt k ≡ true → ends k ≡ true
stmt_ends Semicolon h = refl
stmt_ends CloseBrace h = refl
stmt_ends _ h = cc

-- expressions, by any bound
pub reads : (h : Bool) (n : ℕ) → ReadsExprs h (expr h n 1)
reads h n x v e l d = expr_complete e n l d

-- ---- the first tokens determine the kind of a statement, so no statement is read as one of another kind

-- an `if` or `for` from its keyword on
abbrev pub if_at : ℕ → List Lexeme → Read tree.Stmt
if_at n [] = Failed Starving
if_at n (t ∷ l) = if_stmt n t.leaf l

abbrev pub for_at : ℕ → List Lexeme → Read tree.Stmt
for_at n [] = Failed Starving
for_at n (t ∷ l) = for_on (block n) (expr true n 1) t.leaf l (next_lexeme l)

pub stmt_if : {x : List Lexeme} {s : tree.Stmt} → IsIf x s → (n : ℕ) (l : List Lexeme)
    → stmt (suc n) (x ++ l) ≡ single (if_at n (x ++ l))
unfolding stmt
stmt_if (plain i k e d f) n l = refl
stmt_if (with i j k c e d f) n l = refl

pub stmt_for : {x : List Lexeme} {s : tree.Stmt} → IsFor x s → (n : ℕ) (l : List Lexeme)
    → stmt (suc n) (x ++ l) ≡ single (for_at n (x ++ l))
unfolding stmt
stmt_for (while i k c d) n l = refl
stmt_for (three i j k m s c p d) n l = refl

simple_kind : (n : ℕ) (block stmts : Reader (List tree.Stmt × Leaf)) (ifs : Leaf → Reader tree.Stmt)
    (k : Terminal) (i : Leaf) (l m : List Lexeme) → starts k ≡ true
    → stmt_by n block stmts ifs k i l m ≡ single (defining (expr false n 1) l)
simple_kind n block stmts ifs OpenBrace i l m h = cc
simple_kind n block stmts ifs If i l m h = cc
simple_kind n block stmts ifs For i l m h = cc
simple_kind n block stmts ifs Go i l m h = cc
simple_kind n block stmts ifs Var i l m h = cc
simple_kind n block stmts ifs Return i l m h = cc
simple_kind n block stmts ifs Break i l m h = cc
simple_kind n block stmts ifs Continue i l m h = cc
simple_kind n block stmts ifs Semicolon i l m h = cc
simple_kind n block stmts ifs _ i l m h = refl

pub stmt_simple : (n : ℕ) (l : List Lexeme) → Starts l
    → stmt (suc n) l ≡ single (defining (expr false n 1) l)
unfolding stmt
stmt_simple n [] h = absurd h
stmt_simple n (t ∷ l) h =
    simple_kind n (block_by (stmt n) n) (stmts_by (stmt n) n) (if_stmt n)
    t.terminal t.leaf (t ∷ l) l h

pub stmt_opens : {x : List Lexeme} {s : tree.Stmt} → IsStmt x s → (l : List Lexeme)
    → Opens CloseBrace (x ++ l)
stmt_opens (a_block i d) l = refl
stmt_opens (simple {x} h) l = next_also (x ++ l) (simple_starts h l) brace_closes
stmt_opens (an_if (plain i k e d f)) l = refl
stmt_opens (an_if (with i j k c e d f)) l = refl
stmt_opens (a_for (while i k c d)) l = refl
stmt_opens (a_for (three i j k m s c p d)) l = refl
stmt_opens (go i j k d) l = refl
stmt_opens (var i h) l = refl
stmt_opens (vars i j d) l = refl
stmt_opens (returned i) l = refl
stmt_opens (returns i e) l = refl
stmt_opens (broken i) l = refl
stmt_opens (continued i) l = refl

-- ---- their parts

return_kind : (value : Reader tree.Expr) (i : Leaf) (k : Terminal) (l : List Lexeme)
    → ends_stmt k ≡ true → return_by value i k l ≡ Done (tree.Return None i.at) l
return_kind value i Semicolon l h = refl
return_kind value i CloseBrace l h = refl
return_kind value i _ l h = cc

pub return_done : (value : Reader tree.Expr) (i : Leaf) (l : List Lexeme) → EndsStmt l
    → return_on value i l (next_lexeme l) ≡ Done (tree.Return None i.at) l
return_done value i [] h = absurd h
return_done value i (t ∷ l) h = return_kind value i t.terminal (t ∷ l) h

returns_kind : (value : Reader tree.Expr) (i : Leaf) (k : Terminal) (l : List Lexeme)
    → starts k ≡ true → return_by value i k l ≡ (value l >>= yielding (λ v. tree.Return (Some v) i.at))
returns_kind value i Semicolon l h = cc
returns_kind value i CloseBrace l h = cc
returns_kind value i _ l h = refl

pub returns_at : (value : Reader tree.Expr) (i : Leaf) (l : List Lexeme) → Starts l
    → return_on value i l (next_lexeme l) ≡ (value l >>= yielding (λ v. tree.Return (Some v) i.at))
returns_at value i [] h = absurd h
returns_at value i (t ∷ l) h = returns_kind value i t.terminal (t ∷ l) h

else_kind : (block : Reader (List tree.Stmt × Leaf)) (again : Leaf → Reader tree.Stmt)
    (k : Terminal) (l m : List Lexeme) → ends_stmt k ≡ true
    → else_by block again k l m ≡ Done None l
else_kind block again Else l m h = cc
else_kind block again _ l m h = refl

pub else_done : (block : Reader (List tree.Stmt × Leaf)) (again : Leaf → Reader tree.Stmt)
    (l : List Lexeme) → EndsStmt l → else_on block again l (next_lexeme l) ≡ Done None l
else_done block again [] h = absurd h
else_done block again (t ∷ l) h = else_kind block again t.terminal (t ∷ l) l h

pub else_if_at : {x : List Lexeme} {s : tree.Stmt} → IsIf x s → (n : ℕ) (l : List Lexeme)
    → else_body_on (block n) (if_stmt n) (x ++ l) (next_lexeme (x ++ l))
    ≡ (if_at n (x ++ l) >>= yielding (λ s. Some s))
else_if_at (plain i k e d f) n l = refl
else_if_at (with i j k c e d f) n l = refl

pub empty_item : (n : ℕ) (i : Leaf) (l : List Lexeme)
    → Meets (stmt n (tok Semicolon i ∷ l)) (Done [] (tok Semicolon i ∷ l))
unfolding stmt
empty_item zero i l = inl refl
empty_item (suc n) i l = inr refl
