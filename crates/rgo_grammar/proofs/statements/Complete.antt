-- Statements and blocks of the grammar are read as such.
use Rattle.std.proofs.Common.{ℕ, zero, suc, inl, inr, true, false, List, [], ◌∷◌, ◌++◌, Option, refl, append_assoc, append-nil, arith}
use Rattle.rgo_ast.specs.Tree as tree
use Rattle.rgo_lexer.specs.{declared.terminals.Terminal.TheVariants.{OpenParen, OpenBrace, CloseBrace, Semicolon}, Lexemes.{Leaf, Lexeme, tok}}
use Rattle.rgo_grammar.specs.Grammar.{IsCondition.{none as unconditional, some as on_condition}, IsStmt, IsStmts, IsIf, IsElse, IsFor, IsStmt.{block as a_block, simple, if' as an_if, for' as a_for, go, var, vars, return as returned, returns, break as broken, continue as continued}, IsStmts.{end, empty, last, more}, IsIf.{plain, with}, IsElse.{none as no_else, an_if as else_if, a_block as else_block}, IsFor.{while, three}}
use Rattle.rgo_grammar.specs.reading.{Read.{Done, next_lexeme, listed}, Expressions.{expr}, Statements.{else_on, stmt, if_stmt, block}}
use Rattle.rgo_grammar.proofs.reading.{Complete.{Meets, meets_trans, meets_bind, listed_none, listed_last, listed_more, meets_then}, Next.{begins_append, next_also}}
use Rattle.rgo_grammar.proofs.expressions.{Starts.{expr_starts}, Complete.{expr_complete, exprs_complete}, Parts.{paren_closer}}
use Rattle.rgo_grammar.proofs.statements.{KindsComplete.{EndsStmt, stmt_ends, reads, if_at, for_at, stmt_if, stmt_for, stmt_simple, stmt_opens, return_done, returns_at, else_done, else_if_at, empty_item, condition_complete, for_clause_at, for_head_at, head_clause, head_condition, step_complete}, Parts.{one_complete, simple_complete, ends_expr, simple_starts, vars_complete}}

mutual
  unfolding stmt

  pub stmt_complete : {x : List Lexeme} {s : tree.Stmt} → IsStmt x s → (n : ℕ) (l : List Lexeme)
      → EndsStmt l → Meets (stmt n (x ++ l)) (Done (s ∷ []) l)
  stmt_complete d zero l h = inl refl
  stmt_complete (a_block i {y} {b} {end = j} d) (suc n) l h = meets_bind _ (stmts_found d n n [] l)
  stmt_complete (simple {x} d) (suc n) l h =
      rw (stmt_simple n (x ++ l) (simple_starts d l))
      (meets_bind _
      (simple_complete (expr false n 1) false (reads false n) d l (next_also l h stmt_ends)))
  stmt_complete (an_if {x} d) (suc n) l h = rw (stmt_if d n l) (meets_bind _ (if_complete d n l h))
  stmt_complete (a_for {x} d) (suc n) l h = rw (stmt_for d n l) (meets_bind _ (for_complete d n l))
  stmt_complete (go i j k d) (suc n) l h =
      meets_bind _ (meets_bind _ (exprs_complete d paren_closer n n l).1)
  stmt_complete (var i {x} {v} d) (suc n) l h =
      let vs = one_complete n (expr false n 1) (reads false n) d l (next_also l h stmt_ends) in
      meets_bind _ (meets_bind _ vs)
  stmt_complete (vars i j {y} {vs} d) (suc n) l h =
      let m = tok OpenParen j ∷ (y ++ l) in
      meets_bind _ (meets_bind _ (vars_complete n (expr false n 1) (reads false n) j d l))
  stmt_complete (returned i) (suc n) l h = meets_bind _ (inr (return_done (expr false n 1) i l h))
  stmt_complete (returns i {x} {v} e) (suc n) l h =
      rw (returns_at (expr false n 1) i (x ++ l) (begins_append _ x l (expr_starts e)))
      (meets_bind _ (meets_bind _ (expr_complete e n l (ends_expr l (next_also l h stmt_ends)))))
  stmt_complete (broken i) (suc n) l h = inr refl
  stmt_complete (continued i) (suc n) l h = inr refl

  pub stmts_found : {y : List Lexeme} {b : List tree.Stmt} {j : Leaf} → IsStmts y b j
      → (n m : ℕ) (found : List tree.Stmt) (l : List Lexeme)
      → Meets (listed Semicolon CloseBrace (stmt n) m found (y ++ l)) (Done (found ++ b, j) l)
  stmts_found (end j) n m found l =
      rw append-nil (listed_none Semicolon CloseBrace refl (stmt n) m found j l)
  stmts_found (empty i {y} {b} {j} d) n m found l =
      let one = listed_more Semicolon CloseBrace refl (stmt n) m found [] i [] (y ++ l) refl
      (empty_item n i (y ++ l)) in
      let one' = rw append-nil at one.1 in
      meets_trans one' (stmts_found d n one.0 found l)
  stmts_found (last j {x} {s} d) n m found l =
      rw append_assoc
      (listed_last Semicolon CloseBrace refl (stmt n) m found (s ∷ []) j x l
      (stmt_opens d (tok CloseBrace j ∷ l)) (stmt_complete d n (tok CloseBrace j ∷ l) refl))
  stmts_found (more i {x} {y} {s} {b} {j} d g) n m found l =
      let one = listed_more Semicolon CloseBrace refl (stmt n) m found (s ∷ []) i x (y ++ l)
      (stmt_opens d (tok Semicolon i ∷ (y ++ l)))
      (stmt_complete d n (tok Semicolon i ∷ (y ++ l)) refl) in
      let rest = stmts_found g n one.0 (found ++ s ∷ []) l in
      let rest' = rw (append_assoc found (s ∷ []) b) at rest in
      rw append_assoc (meets_trans one.1 rest')

  if_complete : {x : List Lexeme} {s : tree.Stmt} → IsIf x s → (n : ℕ) (l : List Lexeme)
      → EndsStmt l → Meets (if_at n (x ++ l)) (Done s l)
  if_complete (plain i k e d f) zero l h = inl refl
  if_complete (with i j k c e d f) zero l h = inl refl
  if_complete (plain i k {x} {y} {z} e d f) (suc n) l h =
      rw (append_assoc x (tok OpenBrace k ∷ (y ++ z)) l, append_assoc y z l)
      (meets_then _ (head_condition (expr true n 1) (reads true n) e k (y ++ (z ++ l)))
      (meets_then _ (stmts_found d n n [] (z ++ l)) (meets_bind _ (else_complete f n l h))))
  if_complete (with i j k {w} {x} {y} {z} c e d f) (suc n) l h =
      rw (
        append_assoc w (tok Semicolon j ∷ (x ++ tok OpenBrace k ∷ (y ++ z))) l,
        append_assoc x (tok OpenBrace k ∷ (y ++ z)) l,
        append_assoc y z l,
      ) (meets_then _
      (head_clause (expr true n 1) (reads true n) c j (x ++ tok OpenBrace k ∷ (y ++ (z ++ l))))
      (meets_then _ (expr_complete e n (tok OpenBrace k ∷ (y ++ (z ++ l))) (omega arith, refl))
      (meets_then _ (stmts_found d n n [] (z ++ l)) (meets_bind _ (else_complete f n l h)))))

  else_complete : {z : List Lexeme} {e : Option tree.Stmt} → IsElse z e → (n : ℕ) (l : List Lexeme)
      → EndsStmt l → Meets (else_on (block n) (if_stmt n) (z ++ l) (next_lexeme (z ++ l))) (Done e l)
  else_complete no_else n l h = inr (else_done (block n) (if_stmt n) l h)
  else_complete (else_if i {x} {s} d) n l h =
      rw (else_if_at d n l) (meets_bind _ (if_complete d n l h))
  else_complete (else_block i k {y} {b} {end = j} d) n l h = meets_bind _ (stmts_found d n n [] l)

  for_complete : {x : List Lexeme} {s : tree.Stmt} → IsFor x s → (n : ℕ) (l : List Lexeme)
      → Meets (for_at n (x ++ l)) (Done s l)
  for_complete (while i k unconditional d) n l = meets_bind _ (stmts_found d n n [] l)
  for_complete (while i k {y = y} (on_condition {x} e) d) n l =
      let z = tok OpenBrace k ∷ (y ++ l) in
      rw (
        append_assoc x (tok OpenBrace k ∷ y) l,
        for_head_at (expr true n 1) (reads true n) (block n) i (x ++ z)
            (begins_append _ x z (expr_starts e)),
      ) (meets_then _ (head_condition (expr true n 1) (reads true n) e k (y ++ l))
      (meets_bind _ (stmts_found d n n [] l)))
  for_complete (three i j k m {u} {v} {w} {y} hs hc hp d) n l =
      let z = w ++ tok OpenBrace m ∷ (y ++ l) in
      let value = expr true n 1 in
      rw (
        append_assoc u (tok Semicolon j ∷ (v ++ tok Semicolon k ∷ (w ++ tok OpenBrace m ∷ y))) l,
        append_assoc v (tok Semicolon k ∷ (w ++ tok OpenBrace m ∷ y)) l,
        append_assoc w (tok OpenBrace m ∷ y) l,
        for_clause_at value (reads true n) (block n) i hs j (v ++ tok Semicolon k ∷ z),
      ) (meets_then _ (head_clause value (reads true n) hs j (v ++ tok Semicolon k ∷ z))
      (meets_then _ (condition_complete value (reads true n) hc k z)
      (meets_then _ (step_complete value (reads true n) hp m (y ++ l))
      (meets_bind _ (stmts_found d n n [] l)))))

pub block_complete : {y : List Lexeme} {b : List tree.Stmt} {j : Leaf} → IsStmts y b j
    → (i : Leaf) (n : ℕ) (l : List Lexeme)
    → Meets (block n (tok OpenBrace i ∷ (y ++ l))) (Done (b, j) l)
block_complete d i n l = stmts_found d n n [] l
