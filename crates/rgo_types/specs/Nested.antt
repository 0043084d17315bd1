-- What a check of lists of statements and of function bodies returns: the definitions of rgo_typing_statements, cut into the parts that
-- one function of the code checks.
use Rattle.std.specs.Prelude.{◌≡◌, ℕ, false, length, List, [], ◌∷◌, ◌++◌, map, Vec, Option, None, is_some, Result, Ok, Err}
use Rattle.std.specs.declared.alloc.Global.{Global}
use Rattle.rgo_ast.specs.Tree as tree
use Rattle.rgo_ast.specs.Tree.{Expr}
use Rattle.rgo_typed.specs.Tree as typed_tree
use Rattle.rgo_typed.specs.Tree.{Function, Stmt, Term, stmts_of}
use Rattle.rgo_typed.specs.Views.{stmt_of}
use Rattle.rgo_typed.specs.declared.types.Type.{«Type»}
use Rattle.rgo_typed.specs.declared.statements.Stmt.{Stmt as CodeStmt}
use Rattle.rgo_typing_rules.specs.Checks.{Refuses}
use Rattle.rgo_typing_rules.specs.Nodes as node
use Rattle.rgo_typing_rules.specs.Sites.{Site, first_refusal}
use Rattle.rgo_typing_rules.specs.declared.errors.TypeError.{TypeError}
use Rattle.rgo_typing_rules.specs.Shapes.{Shape}
use Rattle.rgo_typing_rules.specs.declared.roles.Role.TheVariants as role
use Rattle.rgo_typing_expressions.specs.Checking.{nodes}
use Rattle.rgo_typing_expressions.specs.Packages.{Context}
use Rattle.rgo_typing_expressions.specs.Terms.{typed_term}
use Rattle.rgo_typing_expressions.specs.Types.{type_of}
use Rattle.rgo_typing_operations.specs.declared.results.Checked.{Checked}
use Rattle.rgo_typing_statements.specs.Outcomes.{StmtsOutcome, Passes}
use Rattle.rgo_typing_statements.specs.Statements.{Enclosing, in_block, all_sites, clause_sites, after_all, after_block, after_clause}
use Rattle.rgo_typing_statements.specs.Statements.{within_loop, optional_nodes, optional_type, condition_sites}
use Rattle.rgo_typing_statements.specs.TypedStatements.{has_clause, if_or_else, optional_term, typed_all, typed_clause}
use Rattle.rgo_types.specs.Flow.{stmts_terminate}
use Rattle.rgo_types.specs.Views.{optional_checked_shape, optional_term_of}

-- a check of these nodes that returns an expression's shape and term, if there is an expression
abbrev pub ChecksToOptional : Result (Option Checked) TypeError → List Site → Option Shape → Option Term → Type 0
ChecksToOptional (Ok e) sites shape term =
    (first_refusal sites ≡ None) × (optional_checked_shape e ≡ shape) × (optional_term_of e ≡ term)
ChecksToOptional (Err e) sites shape term = Refuses e (first_refusal sites)

-- for statements one after another
abbrev pub all_outcome : Enclosing → Context → tree.Stmts → StmtsOutcome
all_outcome f c l = record { sites = all_sites f c l; after = after_all c l; typed = typed_all f c l }

-- for statements in a block
abbrev pub block_outcome : Enclosing → Context → tree.Stmts → StmtsOutcome
block_outcome f c l = record {
  sites = all_sites f (in_block c) l;
  after = after_block c l;
  typed = typed_all f (in_block c) l;
}

abbrev pub clause_outcome : Enclosing → Context → tree.Clause → StmtsOutcome
clause_outcome f c l = record { sites = clause_sites f c l; after = after_clause c l; typed = typed_clause f c l }

-- for an `if` after its first statement, in the block of its header: its nodes, and its typed tree
abbrev pub if_sites : Enclosing → Context → Expr → tree.Stmts → tree.Clause → ℕ → List Site
if_sites f c test body other at =
    nodes c role.Value test
    ++ (all_sites f (in_block c) body
    ++ (clause_sites f (after_block c body) other ++ (at, node.Condition (type_of c test)) ∷ []))

abbrev pub typed_if : Enclosing → Context → Expr → tree.Stmts → tree.Clause → ℕ → Stmt
typed_if f c test body other at =
    if_or_else (has_clause other) (typed_term c test) (typed_all f (in_block c) body)
    (typed_clause f (after_block c body) other) at

-- for a `for` after its first statement
abbrev pub loop_sites : Enclosing → Context → Option Expr → tree.Clause → tree.Stmts → ℕ → List Site
loop_sites f c test post body at =
    optional_nodes c test
    ++ (clause_sites f c post
    ++ (all_sites (within_loop f) (in_block (after_clause c post)) body ++ condition_sites (optional_type c test) at))

abbrev pub typed_loop : Enclosing → Context → Option Expr → tree.Clause → tree.Stmts → ℕ → Stmt
typed_loop f c test post body at =
    typed_tree.Loop (optional_term c test)
    (stmts_of (typed_all (within_loop f) (in_block (after_clause c post)) body)) (stmts_of (typed_clause f c post)) at

-- for a function with this result type, from the beginning of its body: its statements, and then its end
abbrev pub body_outcome : Option «Type» → Context → tree.Function → StmtsOutcome
body_outcome result_type c f = record {
  sites = all_sites (record { result_type = result_type; in_loop = false }) c (tree.stmts_of f.body)
      ++ (f.end, node.End (is_some f.result_type) (stmts_terminate (tree.stmts_of f.body))) ∷ [];
  after = after_all c (tree.stmts_of f.body);
  typed = typed_all (record { result_type = result_type; in_loop = false }) c (tree.stmts_of f.body);
}

-- the typed tree of such a function, if its parameters are all local variables so far
abbrev pub function_from : Option «Type» → Context → tree.Function → Function
function_from result_type c f = record {
  name = f.name.name;
  params = length c.scope.types;
  locals = (after_all c (tree.stmts_of f.body)).scope.types;
  result_type = result_type;
  body = (body_outcome result_type c f).typed;
  end = f.end;
}

-- a check that returns one typed tree, and leaves this context
abbrev pub MakesStmt : Result CodeStmt TypeError → List Site → Stmt → Context → Context → Type 0
MakesStmt (Ok s) sites stmt c after = (first_refusal sites ≡ None) × (stmt_of s ≡ stmt) × (c ≡ after)
MakesStmt (Err e) sites stmt c after = Refuses e (first_refusal sites)

-- a check that returns a list of typed trees
abbrev pub Makes : Result (Vec CodeStmt Global) TypeError → StmtsOutcome → Context → Type 0
Makes (Ok all) o c = Passes o c [] (map stmt_of all.items)
Makes (Err e) o c = Refuses e (first_refusal o.sites)
