-- Typed statements, with the variables that they declare, count at most 12 for each lexeme of the statement.
use Rattle.std.proofs.Common.{◌≡◌, ℕ, ◌+◌, ◌*◌, ◌≤◌, Bool, true, false, List, [], ◌∷◌, ◌++◌, length, pos, Option, Some, None, refl, arith, length-append}
use Rattle.rgo_ast.specs.Tree as tree
use Rattle.rgo_ast.specs.Tree.{Expr, LocalVar, exprs_of, clause_of}
use Rattle.rgo_ast.specs.declared.names.Ident.{Ident}
use Rattle.rgo_lexer.specs.declared.terminals.Terminal.TheVariants.{Arrow, Assign, Step, Semicolon, CloseBrace, CloseParen, OpenBrace}
use Rattle.rgo_lexer.specs.Lexemes.{Lexeme, Leaf, tok, ident}
use Rattle.rgo_ast.specs.declared.ops.AssignOp.TheVariants as assign_op
use Rattle.rgo_grammar.specs.Grammar as grammar
use Rattle.rgo_grammar.specs.Grammar.{Listed, IsExpr, IsSimple, IsClause, IsCondition, IsLocalVar, IsStmt, IsStmts, IsIf, IsElse, IsFor}
use Rattle.rgo_typed.specs.declared.types.Type.{«Type»}
use Rattle.rgo_typed.specs.Tree as typed
use Rattle.rgo_typed.specs.Tree.{Term, Stmt, stmts_of}
use Rattle.rgo_typing_expressions.specs.Callees.{named_callee}
use Rattle.rgo_typing_expressions.specs.Packages.{Context}
use Rattle.rgo_typing_expressions.specs.Scopes.{meaning_of, resolved}
use Rattle.rgo_typing_expressions.specs.Terms.{typed_term, all_terms, wanted_of, int_constant, element_type}
use Rattle.rgo_typing_expressions.specs.Types.{type_of}
use Rattle.rgo_typing_statements.specs.Statements as source
use Rattle.rgo_typing_statements.specs.Statements.{Enclosing, within_loop, in_block, header, type_or}
use Rattle.rgo_typing_statements.specs.Statements.{context_after, after_all, after_block, after_clause, after_var, after_vars}
use Rattle.rgo_typing_statements.specs.TypedStatements.{zeros, define_stmt, var_stmts, vars_stmts, optional_term, has_clause}
use Rattle.rgo_typing_statements.specs.TypedStatements.{headed, if_or_else, typed_stmt, typed_all, typed_clause}
use Rattle.rgo_lower.specs.Sizes.{term_size, value_size, stmt_size, stmts_size}
use Rattle.rgo_size_laws.proofs.Terms.{retyped}
use Rattle.rgo_size_laws.proofs.Expressions.{expr_small, exprs_small}
use Rattle.rgo_size_laws.proofs.Names.{names_few, declared_many}
use Rattle.rgo_size_laws.proofs.Simple.{plain_small, changed_small, assign_small, go_small, result_retyped}

-- Typed statements between two contexts, for n lexemes. The local variables that they declare count as well, since a program's size has
-- those; so the bound is on both together.
abbrev pub Small : ℕ → Context → Context → List Stmt → Type 0
Small n c h l = stmts_size (stmts_of l) + length h.scope.types ≤ 12 * n + length c.scope.types

both_size : (l m : List Stmt) → stmts_size (stmts_of (l ++ m)) ≡ stmts_size (stmts_of l) + stmts_size (stmts_of m)
both_size [] m = omega arith
both_size (s ∷ l) m = omega (arith, both_size l m)

-- ---- local variables

zeros_size : (n : ℕ) (ty : «Type») (names : List Ident) → stmts_size (stmts_of (zeros n ty names)) ≡ length names * 3
zeros_size n ty [] = refl
zeros_size n ty (x ∷ names) = omega (arith, zeros_size (n + 1) ty names)

define_small : {header : Bool} {least : ℕ} {x : List Lexeme} {v : Expr} → IsExpr header least x v → (c : Context)
    (name : Ident) (wanted : Option «Type») (at : ℕ)
    → Small (length x + 1) c (source.after_define c name wanted v) (define_stmt c wanted v at ∷ [])
define_small {v = v} e c name wanted at =
    let ty = type_or wanted (type_of c v) in
    omega (arith, expr_small e c, retyped ty (typed_term c v), length-append c.scope.types (ty ∷ []))

var_small : {x : List Lexeme} {v : LocalVar} → IsLocalVar x v → (c : Context)
    → Small (length x) c (after_var c v) (var_stmts c v)
var_small (grammar.IsLocalVar.zero (grammar.IsBinding.binding {x = x} {y = y} {ns = names} {t = t} is is_type)) c =
    let ty = resolved c t in
    omega (
      arith,
      names_few is,
      zeros_size (length c.scope.types) ty names,
      declared_many ty c.scope names,
      length-append x y,
    )
var_small (grammar.IsLocalVar.typed i j {x = x} {y = y} {t = t} is_type e) c =
    omega (
      arith,
      define_small e c (ident i) (Some (resolved c t)) j.at,
      length-append x (tok (Assign assign_op.Plain) j ∷ y),
    )
var_small (grammar.IsLocalVar.inferred i j e) c = omega (arith, define_small e c (ident i) None j.at)

vars_small : {x : List Lexeme} {all : List LocalVar} → Listed IsLocalVar Semicolon CloseParen x all → (c : Context)
    → Small (length x) c (after_vars c all) (vars_stmts c all)
vars_small (grammar.Listed.none j) c = omega arith
vars_small (grammar.Listed.last j {x = x} {a = v} is) c =
    omega (arith, var_small is c, both_size (var_stmts c v) [], length-append x (tok CloseParen j ∷ []))
vars_small (grammar.Listed.more j {x = x} {y = y} {a = v} {all = all} is rest) c =
    omega (
      arith,
      var_small is c,
      vars_small rest (after_var c v),
      both_size (var_stmts c v) (vars_stmts (after_var c v) all),
      length-append x (tok Semicolon j ∷ y),
    )

-- ---- statements that contain others

headed_small : (has : Bool) (init : List Stmt) (s : Stmt)
    → stmts_size (stmts_of (headed has init s)) ≤ stmts_size (stmts_of init) + stmt_size s
headed_small false init s = omega arith
headed_small true init s = omega (arith, both_size init (s ∷ []))

branches_small : (has : Bool) (test : Term) (body other : List Stmt) (at : ℕ)
    → stmt_size (if_or_else has test body other at)
    ≤ term_size test + stmts_size (stmts_of body) + stmts_size (stmts_of other) + 9
branches_small false test body other at = omega arith
branches_small true test body other at = omega arith

condition_small : {x : List Lexeme} {test : Option Expr} → IsCondition x test → (c : Context)
    → value_size (optional_term c test) ≤ 12 * length x
condition_small grammar.IsCondition.none c = omega arith
condition_small (grammar.IsCondition.some e) c = expr_small e c

simple_small : {header defines : Bool} {x : List Lexeme} {s : tree.Stmt} → IsSimple header defines x s
    → (f : Enclosing) (c : Context) → Small (length x) c (context_after c s) (typed_stmt f c s)
simple_small (grammar.IsSimple.plain e) f c = omega (arith, plain_small e c)
simple_small (grammar.IsSimple.send i {x = x} {y = y} {a = a} {b = b} e g) f c =
    omega (
      arith,
      expr_small e c,
      expr_small g c,
      retyped (element_type (type_of c a)) (typed_term c b),
      length-append x (tok Arrow i ∷ y),
    )
simple_small (grammar.IsSimple.step o i {x = x} {v = v} e) f c =
    omega (
      arith,
      expr_small e c,
      changed_small (source.step_op o) (typed_term c v) (int_constant (pos 1) i.at) i.at,
      length-append x (tok (Step o) i ∷ []),
    )
simple_small (grammar.IsSimple.assign o i {x = x} {y = y} {a = a} {b = b} e g) f c =
    omega (
      arith,
      expr_small e c,
      expr_small g c,
      assign_small c (source.assign_op o) a b i.at,
      length-append x (tok (Assign o) i ∷ y),
    )
simple_small (grammar.IsSimple.define i j e) f c = omega (arith, define_small e c (ident i) None j.at)

clause_small : {defines : Bool} {x : List Lexeme} {s : Option tree.Stmt} → IsClause defines x s
    → (f : Enclosing) (c : Context) → Small (length x) c (after_clause c (clause_of s)) (typed_clause f c (clause_of s))
clause_small grammar.IsClause.empty f c = omega arith
clause_small (grammar.IsClause.some s) f c = simple_small s f c

mutual
  stmt_small : {x : List Lexeme} {s : tree.Stmt} → IsStmt x s → (f : Enclosing) (c : Context)
      → Small (length x) c (context_after c s) (typed_stmt f c s)
  stmt_small (grammar.IsStmt.block i all) f c = omega (arith, stmts_small all f (in_block c))
  stmt_small (grammar.IsStmt.simple s) f c = simple_small s f c
  stmt_small (grammar.IsStmt.if' s) f c = if_small s f c
  stmt_small (grammar.IsStmt.for' s) f c = for_small s f c
  stmt_small (grammar.IsStmt.go i j k {vs = vs} all) f c =
      let callee = named_callee (ident j).at (meaning_of c (ident j).name) in
      let types = wanted_of c.globals callee in
      omega (arith, exprs_small all c types, go_small callee (all_terms c types (exprs_of vs)) i.at)
  stmt_small (grammar.IsStmt.var i {v = v} is) f c = omega (arith, var_small is c, both_size (var_stmts c v) [])
  stmt_small (grammar.IsStmt.vars i j all) f c = omega (arith, vars_small all c)
  stmt_small (grammar.IsStmt.return i) f c = omega arith
  stmt_small (grammar.IsStmt.returns i {v = v} e) f c =
      omega (arith, expr_small e c, result_retyped f.result_type (typed_term c v))
  stmt_small (grammar.IsStmt.break i) f c = omega arith
  stmt_small (grammar.IsStmt.continue i) f c = omega arith

  pub stmts_small : {x : List Lexeme} {l : List tree.Stmt} {end : Leaf} → IsStmts x l end → (f : Enclosing) (c : Context)
      → Small (length x) c (after_all c (tree.stmts_of l)) (typed_all f c (tree.stmts_of l))
  stmts_small (grammar.IsStmts.end j) f c = omega arith
  stmts_small (grammar.IsStmts.empty i rest) f c = omega (arith, stmts_small rest f c)
  stmts_small (grammar.IsStmts.last j {x = x} {s = s} is) f c =
      omega (arith, stmt_small is f c, both_size (typed_stmt f c s) [], length-append x (tok CloseBrace j ∷ []))
  stmts_small (grammar.IsStmts.more i {x = x} {y = y} {s = s} {b = l} is rest) f c =
      omega (
        arith,
        stmt_small is f c,
        stmts_small rest f (context_after c s),
        both_size (typed_stmt f c s) (typed_all f (context_after c s) (tree.stmts_of l)),
        length-append x (tok Semicolon i ∷ y),
      )

  if_small : {x : List Lexeme} {s : tree.Stmt} → IsIf x s → (f : Enclosing) (c : Context)
      → Small (length x) c (context_after c s) (typed_stmt f c s)
  if_small (grammar.IsIf.plain i k {x = x} {y = y} {z = z} {c = test} {b = body} {e = other} t all rest) f c =
      let c1 = header c tree.no_clause in
      let c2 = after_block c1 (tree.stmts_of body) in
      let then_part = typed_all f (in_block c1) (tree.stmts_of body) in
      let else_part = typed_clause f c2 (clause_of other) in
      omega (
        arith,
        expr_small t c1,
        stmts_small all f (in_block c1),
        else_small rest f c2,
        branches_small (has_clause (clause_of other)) (typed_term c1 test) then_part else_part i.at,
        length-append x (tok OpenBrace k ∷ (y ++ z)),
        length-append y z,
      )
  if_small (grammar.IsIf.with i j k {w = w} {x = x} {y = y} {z = z} {s = init} {c = test} {b = body} {e = other} s t all rest)
      f c =
      let c1 = header c (clause_of init) in
      let c2 = after_block c1 (tree.stmts_of body) in
      let first = typed_clause f (in_block c) (clause_of init) in
      let then_part = typed_all f (in_block c1) (tree.stmts_of body) in
      let else_part = typed_clause f c2 (clause_of other) in
      let whole = if_or_else (has_clause (clause_of other)) (typed_term c1 test) then_part else_part i.at in
      omega (
        arith,
        clause_small s f (in_block c),
        expr_small t c1,
        stmts_small all f (in_block c1),
        else_small rest f c2,
        branches_small (has_clause (clause_of other)) (typed_term c1 test) then_part else_part i.at,
        headed_small (has_clause (clause_of init)) first whole,
        length-append w (tok Semicolon j ∷ (x ++ tok OpenBrace k ∷ (y ++ z))),
        length-append x (tok OpenBrace k ∷ (y ++ z)),
        length-append y z,
      )

  else_small : {x : List Lexeme} {s : Option tree.Stmt} → IsElse x s → (f : Enclosing) (c : Context)
      → Small (length x) c (after_clause c (clause_of s)) (typed_clause f c (clause_of s))
  else_small grammar.IsElse.none f c = omega arith
  else_small (grammar.IsElse.an_if i s) f c = omega (arith, if_small s f c)
  else_small (grammar.IsElse.a_block i k all) f c = omega (arith, stmts_small all f (in_block c))

  for_small : {x : List Lexeme} {s : tree.Stmt} → IsFor x s → (f : Enclosing) (c : Context)
      → Small (length x) c (context_after c s) (typed_stmt f c s)
  for_small (grammar.IsFor.while i k {x = x} {y = y} test all) f c =
      omega (
        arith,
        condition_small test (in_block c),
        stmts_small all (within_loop f) (in_block (in_block c)),
        length-append x (tok OpenBrace k ∷ y),
      )
  for_small (grammar.IsFor.three i j k m {u = u} {v = v} {w = w} {y = y} {s = init} {p = post} {c = test} {b = body} s t p all)
      f c =
      let c1 = header c (clause_of init) in
      let c2 = after_clause c1 (clause_of post) in
      let first = typed_clause f (in_block c) (clause_of init) in
      let whole : Stmt = typed.Loop (optional_term c1 test)
      (stmts_of (typed_all (within_loop f) (in_block c2) (tree.stmts_of body)))
      (stmts_of (typed_clause f c1 (clause_of post))) i.at in
      omega (
        arith,
        clause_small s f (in_block c),
        condition_small t c1,
        clause_small p f c1,
        stmts_small all (within_loop f) (in_block c2),
        headed_small (has_clause (clause_of init)) first whole,
        length-append u (tok Semicolon j ∷ (v ++ tok Semicolon k ∷ (w ++ tok OpenBrace m ∷ y))),
        length-append v (tok Semicolon k ∷ (w ++ tok OpenBrace m ∷ y)),
        length-append w (tok OpenBrace m ∷ y),
      )
