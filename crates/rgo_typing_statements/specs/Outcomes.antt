-- What a check of statements returns: the first refusal; or, if no node breaks a rule, the context after them and their typed trees.
-- After a refusal nothing is stated of the context and the trees, since the check of the program ends there.
use Rattle.std.specs.Prelude.{◌≡◌, ℕ, Bool, true, false, length, List, [], ◌∷◌, ◌++◌, map, Option, None, Result, Ok, Err}
use Rattle.rgo_ast.specs.Tree as tree
use Rattle.rgo_ast.specs.Tree.{Expr, LocalVar}
use Rattle.rgo_ast.specs.declared.names.Ident.{Ident}
use Rattle.rgo_typed.specs.Tree.{Stmt}
use Rattle.rgo_typed.specs.Views.{stmt_of}
use Rattle.rgo_typed.specs.declared.types.Type.{«Type»}
use Rattle.rgo_typed.specs.declared.statements.Stmt.{Stmt as CodeStmt}
use Rattle.rgo_typing_rules.specs.Checks.{Refuses}
use Rattle.rgo_typing_rules.specs.Sites.{Site, first_refusal}
use Rattle.rgo_typing_rules.specs.declared.errors.TypeError.{TypeError}
use Rattle.rgo_typing_expressions.specs.Packages.{Context}
use Rattle.rgo_typing_expressions.specs.Scopes.{in_scope}
use Rattle.rgo_typing_packages.specs.Names.{name_sites, with_names}
use Rattle.rgo_typing_statements.specs.Statements.{define_sites, after_define, var_sites, after_var, local_vars_sites, after_vars}
use Rattle.rgo_typing_statements.specs.Statements.{Enclosing, stmt_sites, context_after}
use Rattle.rgo_typing_statements.specs.TypedStatements.{define_stmt, zeros, var_stmts, vars_stmts, typed_stmt}

-- a check of these nodes that returns this statement
abbrev pub ChecksStmt : Result CodeStmt TypeError → List Site → Stmt → Type 0
ChecksStmt (Ok s) sites stmt = (first_refusal sites ≡ None) × (stmt_of s ≡ stmt)
ChecksStmt (Err e) sites stmt = Refuses e (first_refusal sites)

-- what a check of statements is about: their nodes, the context after them, and their typed trees
pub record StmtsOutcome : Type 0 where
  pub sites : List Site
  pub after : Context
  pub typed : List Stmt

abbrev pub stmt_outcome : Enclosing → Context → tree.Stmt → StmtsOutcome
stmt_outcome f c s = record { sites = stmt_sites f c s; after = context_after c s; typed = typed_stmt f c s }

-- a statement that contains no other
abbrev pub is_simple_stmt : tree.Stmt → Bool
is_simple_stmt (tree.Block all at) = false
is_simple_stmt (tree.If init test body other at) = false
is_simple_stmt (tree.For init test post body at) = false
is_simple_stmt _ = true

-- for a statement that changes no scope
abbrev pub simple_outcome : Context → List Site → Stmt → StmtsOutcome
simple_outcome c sites s = record { sites = sites; after = c; typed = s ∷ [] }

-- for a variable that is declared with a value
abbrev pub define_outcome : Context → Ident → Option «Type» → Expr → ℕ → StmtsOutcome
define_outcome c x wanted e at = record {
  sites = define_sites c x wanted e at;
  after = after_define c x wanted e;
  typed = define_stmt c wanted e at ∷ [];
}

-- for variables that begin with zeros
abbrev pub zeros_outcome : Context → «Type» → List Ident → StmtsOutcome
zeros_outcome c ty names = record {
  sites = name_sites ty c.scope names;
  after = in_scope (with_names ty c.scope names) c;
  typed = zeros (length c.scope.types) ty names;
}

abbrev pub var_outcome : Context → LocalVar → StmtsOutcome
var_outcome c v = record { sites = var_sites c v; after = after_var c v; typed = var_stmts c v }

abbrev pub vars_outcome : Context → List LocalVar → StmtsOutcome
vars_outcome c l = record { sites = local_vars_sites c l; after = after_vars c l; typed = vars_stmts c l }

-- if no node breaks a rule: the context after the statements, and their typed trees after those before
pub record Passes (o : StmtsOutcome) (c : Context) (before all : List Stmt) : Type 0 where
  pub unbroken : first_refusal o.sites ≡ None
  pub context : c ≡ o.after
  pub typed : all ≡ before ++ o.typed

-- a check that appends typed trees to a list
abbrev pub Appends : {X : Type 0} → Result X TypeError → StmtsOutcome → Context → List CodeStmt → List CodeStmt → Type 0
Appends (Ok x) o c before all = Passes o c (map stmt_of before) (map stmt_of all)
Appends (Err e) o c before all = Refuses e (first_refusal o.sites)
