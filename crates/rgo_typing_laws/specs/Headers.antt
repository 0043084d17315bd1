-- What the grammar ensures for the headers of `if` and `for`, and trees alone do not: a simple statement precedes the condition, and
-- the post statement of a `for` declares nothing. The law in Laws.antt needs this: the post statement is checked before the body, but
-- is after it in the typed tree, so a variable that it declared would be used before its declaration.
use Rattle.std.specs.Prelude.{⊤}
use Rattle.std.specs.List.{AllByRecursion}
use Rattle.rgo_ast.specs.Tree.{Stmt, Stmts, Clause, Decl, Program, stmts_of}
use Rattle.rgo_ast.specs.Tree as tree

-- a simple statement: an expression, a send, an assignment, or a declaration by `:=`
abbrev pub IsInit : Clause → Type 0
IsInit tree.no_clause = ⊤
IsInit (tree.a_clause (tree.Plain e)) = ⊤
IsInit (tree.a_clause (tree.Send a b at)) = ⊤
IsInit (tree.a_clause (tree.Step op e at)) = ⊤
IsInit (tree.a_clause (tree.Assign op a b at)) = ⊤
IsInit (tree.a_clause (tree.Define x e at)) = ⊤
IsInit _ = ⊥

-- a simple statement other than a declaration
abbrev pub IsPost : Clause → Type 0
IsPost tree.no_clause = ⊤
IsPost (tree.a_clause (tree.Plain e)) = ⊤
IsPost (tree.a_clause (tree.Send a b at)) = ⊤
IsPost (tree.a_clause (tree.Step op e at)) = ⊤
IsPost (tree.a_clause (tree.Assign op a b at)) = ⊤
IsPost _ = ⊥

-- all headers in a statement
abbrev mutual
  pub HasHeaders : Stmt → Type 0
  HasHeaders (tree.Block all at) = HaveHeaders all
  HasHeaders (tree.If init test body other at) = IsInit init × HaveHeaders body × ClauseHasHeaders other
  HasHeaders (tree.For init test post body at) = IsInit init × IsPost post × HaveHeaders body
  HasHeaders _ = ⊤

  pub HaveHeaders : Stmts → Type 0
  HaveHeaders tree.no_stmts = ⊤
  HaveHeaders (tree.a_stmt s l) = HasHeaders s × HaveHeaders l

  pub ClauseHasHeaders : Clause → Type 0
  ClauseHasHeaders tree.no_clause = ⊤
  ClauseHasHeaders (tree.a_clause s) = HasHeaders s

abbrev pub DeclHasHeaders : Decl → Type 0
DeclHasHeaders (tree.Func f) = HaveHeaders (stmts_of f.body)
DeclHasHeaders _ = ⊤

abbrev pub ProgramHasHeaders : Program → Type 0
ProgramHasHeaders program = AllByRecursion DeclHasHeaders program.decls
