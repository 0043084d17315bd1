-- The views: the plain data that contracts see in place of each tree of the code.
use Rattle.std.specs.Prelude.{Option, Some, None, option_map, map}
use Rattle.std.specs.declared.boxed.Box.{Box}
use Rattle.std.specs.declared.alloc.Global.{Global}
use Rattle.rgo_ast.specs.declared.types.TypeExpr as code_type_expr
use Rattle.rgo_ast.specs.declared.types.Binding.{Binding as CodeBinding}
use Rattle.rgo_ast.specs.declared.expressions.Expr as code
use Rattle.rgo_ast.specs.declared.expressions.Element.{Element as CodeElement}
use Rattle.rgo_ast.specs.declared.statements.LocalVar as code_var
use Rattle.rgo_ast.specs.declared.statements.LocalVar.TheVariants as local
use Rattle.rgo_ast.specs.declared.statements.Stmt as code_stmt
use Rattle.rgo_ast.specs.declared.declarations.TypeSpec.{TypeSpec as CodeTypeSpec}
use Rattle.rgo_ast.specs.declared.declarations.Function.{Function as CodeFunction}
use Rattle.rgo_ast.specs.declared.declarations.Decl as code_decl
use Rattle.rgo_ast.specs.declared.declarations.Decl.TheVariants as top
use Rattle.rgo_ast.specs.declared.declarations.Import.{Import as CodeImport}
use Rattle.rgo_ast.specs.declared.declarations.Program.{Program as CodeProgram}
use Rattle.rgo_ast.specs.declared.names.Ident.{Ident}
use Rattle.rgo_ast.specs.Tree.{TypeExpr, Binding, Expr, Exprs, Elements, Capacity, LocalVar, Stmt, Stmts, Clause}
use Rattle.rgo_ast.specs.Tree.{TypeSpec, Function, Decl, Import, Program}
use Rattle.rgo_ast.specs.Tree as tree

abbrev pub type_expr_of : code_type_expr.TypeExpr → TypeExpr
type_expr_of (code_type_expr.Named name) = tree.Named name
type_expr_of (code_type_expr.Pointer name at) = tree.Pointer name at
type_expr_of (code_type_expr.Slice' p ty at) = tree.Slice (type_expr_of ty) at
type_expr_of (code_type_expr.Chan' p ty at) = tree.Chan (type_expr_of ty) at

abbrev pub binding_of : CodeBinding → Binding
binding_of b = record { names = b.names.items; ty = type_expr_of b.ty }

abbrev mutual
  pub expr_of : code.Expr → Expr
  expr_of (code.Number n at) = tree.Number n at
  expr_of (code.Text bytes at) = tree.Text bytes.items at
  expr_of (code.Name name) = tree.Name name
  expr_of (code.Paren' p e at) = tree.Paren (expr_of e) at
  expr_of (code.New name at) = tree.New name at
  expr_of (code.MakeSlice' ty p e at) = tree.MakeSlice (type_expr_of ty) (expr_of e) at
  expr_of (code.MakeChan' ty capacity at) = tree.MakeChan (type_expr_of ty) (capacity_in capacity) at
  expr_of (code.Select' p e field) = tree.Select (expr_of e) field
  expr_of (code.Index' p a q b at) = tree.Index (expr_of a) (expr_of b) at
  expr_of (code.Call' p f shape args at) = tree.Called (expr_of f) (exprs_in args) at
  expr_of (code.Unary' op p e at) = tree.Unary op (expr_of e) at
  expr_of (code.Binary' op p a q b at) = tree.Binary op (expr_of a) (expr_of b) at
  expr_of (code.Literal' name shape values at) = tree.Literal name (exprs_in values) at
  expr_of (code.Keyed' name shape elements at) = tree.Keyed name (elements_in elements) at

  pub exprs_in : {m : _} → code.Row_of-Expr m → Exprs
  exprs_in code.end_of-Expr = tree.no_exprs
  exprs_in (code.more_of-Expr e rest) = tree.an_expr (expr_of e) (exprs_in rest)

  pub elements_in : {m : _} → code.Row_of-Element m → Elements
  elements_in code.end_of-Element = tree.no_elements
  elements_in (code.more_of-Element field e rest) = tree.an_element field (expr_of e) (elements_in rest)

  pub capacity_in : code.Held-Expr-MakeChan-1 → Capacity
  capacity_in code.None' = tree.no_capacity
  capacity_in (code.Some' p e) = tree.a_capacity (expr_of e)

-- an expression that may be left out
abbrev pub boxed_expr_of : Option (Box code.Expr Global) → Option Expr
boxed_expr_of None = None
boxed_expr_of (Some e) = Some (expr_of e.value)

-- an element of a literal with its field
abbrev pub element_of : CodeElement → Ident × Expr
element_of e = (e.field, expr_of e.value)

abbrev pub local_var_of : code_var.LocalVar → LocalVar
local_var_of (local.Zero b) = tree.Zero (binding_of b)
local_var_of (local.Typed name ty e at) = tree.Typed name (type_expr_of ty) (expr_of e.value) at
local_var_of (local.Inferred name e at) = tree.Inferred name (expr_of e.value) at

abbrev mutual
  pub stmt_of : code_stmt.Stmt → Stmt
  stmt_of (code_stmt.Block' shape all at) = tree.Block (stmts_in all) at
  stmt_of (code_stmt.Plain e) = tree.Plain (expr_of e.value)
  stmt_of (code_stmt.Send a b at) = tree.Send (expr_of a.value) (expr_of b.value) at
  stmt_of (code_stmt.Step op e at) = tree.Step op (expr_of e.value) at
  stmt_of (code_stmt.Assign op a b at) = tree.Assign op (expr_of a.value) (expr_of b.value) at
  stmt_of (code_stmt.Define name e at) = tree.Define name (expr_of e.value) at
  stmt_of (code_stmt.If' init test shape body other at) =
      tree.If (clause_in init) (expr_of test.value) (stmts_in body) (clause_in other) at
  stmt_of (code_stmt.For' init test post shape body at) =
      tree.For (clause_in init) (boxed_expr_of test) (clause_in post) (stmts_in body) at
  stmt_of (code_stmt.Go name args at) = tree.Go name (tree.exprs_of (map expr_of args.items)) at
  stmt_of (code_stmt.Var vars at) = tree.Var (map local_var_of vars.items) at
  stmt_of (code_stmt.Return value at) = tree.Return (boxed_expr_of value) at
  stmt_of (code_stmt.Break at) = tree.Break at
  stmt_of (code_stmt.Continue at) = tree.Continue at

  pub stmts_in : {m : _} → code_stmt.Row_of-Stmt m → Stmts
  stmts_in code_stmt.end_of-Stmt = tree.no_stmts
  stmts_in (code_stmt.more_of-Stmt s rest) = tree.a_stmt (stmt_of s) (stmts_in rest)

  pub clause_in : code_stmt.Held-Stmt-If-0 → Clause
  clause_in code_stmt.None' = tree.no_clause
  clause_in (code_stmt.Some' p s) = tree.a_clause (stmt_of s)

-- a statement that may be left out
abbrev pub boxed_stmt_of : Option (Box code_stmt.Stmt Global) → Option Stmt
boxed_stmt_of None = None
boxed_stmt_of (Some s) = Some (stmt_of s.value)

abbrev pub type_spec_of : CodeTypeSpec → TypeSpec
type_spec_of t = record { name = t.name; fields = map binding_of t.fields.items }

abbrev pub function_of : CodeFunction → Function
function_of f = record {
  name = f.name;
  params = map binding_of f.params.items;
  result_type = option_map type_expr_of f.result_type;
  body = map stmt_of f.body.items;
  at = f.at;
  end = f.end;
}

abbrev pub decl_of : code_decl.Decl → Decl
decl_of (top.Types types at) = tree.Types (map type_spec_of types.items) at
decl_of (top.Vars vars at) = tree.Vars (map binding_of vars.items) at
decl_of (top.Func f) = tree.Func (function_of f)

abbrev pub import_of : CodeImport → Import
import_of i = record { paths = i.paths.items; at = i.at }

abbrev pub program_of : CodeProgram → Program
program_of p = record {
  imports = map import_of p.imports.items;
  decls = map decl_of p.decls.items;
  end = p.end;
}
