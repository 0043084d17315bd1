-- The trees of the grammar have its headers, by induction on the derivation. This is the only proof here about the grammar; all others
-- are about any tree with such headers.
use Rattle.std.proofs.Common.{Bool, false, List, Option}
use Rattle.std.specs.List.{AllByRecursion}
use Rattle.rgo_ast.specs.Tree as tree
use Rattle.rgo_ast.specs.Tree.{Decl, stmts_of, clause_of}
use Rattle.rgo_grammar.specs.Grammar as grammar
use Rattle.rgo_grammar.specs.Grammar.{IsSimple, IsClause, IsStmt, IsStmts, IsIf, IsElse, IsFor, IsDecl, EachWithSemicolon, IsProgram}
use Rattle.rgo_lexer.specs.Lexemes.{Lexeme, Leaf}
use Rattle.rgo_typing_laws.specs.Headers.{IsInit, IsPost, HasHeaders, HaveHeaders, ClauseHasHeaders, DeclHasHeaders}
use Rattle.rgo_typing_laws.specs.Laws.{GrammarHasHeaders}

simple_headers : {header defines : Bool} {x : List Lexeme} {s : tree.Stmt} → IsSimple header defines x s → HasHeaders s
simple_headers (grammar.IsSimple.plain e) = tt
simple_headers (grammar.IsSimple.send i a b) = tt
simple_headers (grammar.IsSimple.step o i e) = tt
simple_headers (grammar.IsSimple.assign o i a b) = tt
simple_headers (grammar.IsSimple.define i j e) = tt

simple_init : {header defines : Bool} {x : List Lexeme} {s : tree.Stmt} → IsSimple header defines x s
    → IsInit (tree.a_clause s)
simple_init (grammar.IsSimple.plain e) = tt
simple_init (grammar.IsSimple.send i a b) = tt
simple_init (grammar.IsSimple.step o i e) = tt
simple_init (grammar.IsSimple.assign o i a b) = tt
simple_init (grammar.IsSimple.define i j e) = tt

simple_post : {header : Bool} {x : List Lexeme} {s : tree.Stmt} → IsSimple header false x s → IsPost (tree.a_clause s)
simple_post (grammar.IsSimple.plain e) = tt
simple_post (grammar.IsSimple.send i a b) = tt
simple_post (grammar.IsSimple.step o i e) = tt
simple_post (grammar.IsSimple.assign o i a b) = tt

init_of : {defines : Bool} {x : List Lexeme} {s : Option tree.Stmt} → IsClause defines x s → IsInit (clause_of s)
init_of grammar.IsClause.empty = tt
init_of (grammar.IsClause.some s) = simple_init s

post_of : {x : List Lexeme} {s : Option tree.Stmt} → IsClause false x s → IsPost (clause_of s)
post_of grammar.IsClause.empty = tt
post_of (grammar.IsClause.some s) = simple_post s

mutual
  stmt_headers : {x : List Lexeme} {s : tree.Stmt} → IsStmt x s → HasHeaders s
  stmt_headers (grammar.IsStmt.block i all) = stmts_headers all
  stmt_headers (grammar.IsStmt.simple s) = simple_headers s
  stmt_headers (grammar.IsStmt.if' s) = if_headers s
  stmt_headers (grammar.IsStmt.for' s) = for_headers s
  stmt_headers (grammar.IsStmt.go i j k args) = tt
  stmt_headers (grammar.IsStmt.var i v) = tt
  stmt_headers (grammar.IsStmt.vars i j all) = tt
  stmt_headers (grammar.IsStmt.return i) = tt
  stmt_headers (grammar.IsStmt.returns i e) = tt
  stmt_headers (grammar.IsStmt.break i) = tt
  stmt_headers (grammar.IsStmt.continue i) = tt

  stmts_headers : {x : List Lexeme} {l : List tree.Stmt} {j : Leaf} → IsStmts x l j → HaveHeaders (stmts_of l)
  stmts_headers (grammar.IsStmts.end j) = tt
  stmts_headers (grammar.IsStmts.empty i rest) = stmts_headers rest
  stmts_headers (grammar.IsStmts.last j s) = (stmt_headers s, tt)
  stmts_headers (grammar.IsStmts.more i s rest) = (stmt_headers s, stmts_headers rest)

  if_headers : {x : List Lexeme} {s : tree.Stmt} → IsIf x s → HasHeaders s
  if_headers (grammar.IsIf.plain i k test body other) = (tt, stmts_headers body, else_headers other)
  if_headers (grammar.IsIf.with i j k init test body other) = (init_of init, stmts_headers body, else_headers other)

  else_headers : {x : List Lexeme} {s : Option tree.Stmt} → IsElse x s → ClauseHasHeaders (clause_of s)
  else_headers grammar.IsElse.none = tt
  else_headers (grammar.IsElse.an_if i s) = if_headers s
  else_headers (grammar.IsElse.a_block i k all) = stmts_headers all

  for_headers : {x : List Lexeme} {s : tree.Stmt} → IsFor x s → HasHeaders s
  for_headers (grammar.IsFor.while i k test body) = (tt, tt, stmts_headers body)
  for_headers (grammar.IsFor.three i j k m init test post body) = (init_of init, post_of post, stmts_headers body)

decl_headers : {x : List Lexeme} {d : Decl} → IsDecl x d → DeclHasHeaders d
decl_headers (grammar.IsDecl.type i s) = tt
decl_headers (grammar.IsDecl.types i j all) = tt
decl_headers (grammar.IsDecl.var i b) = tt
decl_headers (grammar.IsDecl.vars i j all) = tt
decl_headers (grammar.IsDecl.func i j k m end params result body) = stmts_headers body

decls_headers : {x : List Lexeme} {l : List Decl} → EachWithSemicolon IsDecl x l → AllByRecursion DeclHasHeaders l
decls_headers grammar.EachWithSemicolon.none = tt
decls_headers (grammar.EachWithSemicolon.next j d rest) = (decl_headers d, decls_headers rest)

pub grammar_has_headers : GrammarHasHeaders
grammar_has_headers l imports decls h = go h
  where
    go : {l : List Lexeme} {imports : List tree.Import} {decls : List Decl} → IsProgram l imports decls
        → AllByRecursion DeclHasHeaders decls
    go (grammar.IsProgram.program i j k x y) = decls_headers y
