-- The views: the plain data that contracts see in place of each typed tree of the code.
use Rattle.std.specs.Prelude.{Option, Some, None, map}
use Rattle.std.specs.declared.boxed.Box.{Box}
use Rattle.std.specs.declared.alloc.Global.{Global}
use Rattle.rgo_typed.specs.declared.terms.Term as code
use Rattle.rgo_typed.specs.declared.statements.Stmt as code_stmt
use Rattle.rgo_typed.specs.declared.programs.Function.{Function as CodeFunction}
use Rattle.rgo_typed.specs.declared.programs.Typed.{Typed as CodeTyped}
use Rattle.rgo_typed.specs.Tree.{Term, Terms, terms_of, Stmt, Stmts, stmts_of, Function, Typed}
use Rattle.rgo_typed.specs.Tree as tree

abbrev mutual
  pub term_of : code.Term → Term
  term_of (code.Local n) = tree.Local n
  term_of (code.Apply' action shape parts ty at) = tree.Apply action (terms_in parts) ty at
  term_of (code.Logic' op p a q b at) = tree.Logic op (term_of a) (term_of b) at
  term_of (code.Build' struct shape parts fields at) = tree.Build struct (terms_in parts) fields at
  term_of (code.Call' function shape parts ty at) = tree.Call function (terms_in parts) ty at

  pub terms_in : {m : _} → code.Row_of-Term m → Terms
  terms_in code.end_of-Term = tree.no_terms
  terms_in (code.more_of-Term t rest) = tree.a_term (term_of t) (terms_in rest)

-- a term that may be left out
abbrev pub boxed_term_of : Option (Box code.Term Global) → Option Term
boxed_term_of None = None
boxed_term_of (Some t) = Some (term_of t.value)

abbrev mutual
  pub stmt_of : code_stmt.Stmt → Stmt
  stmt_of (code_stmt.Block' shape all) = tree.Block (stmts_in all)
  stmt_of (code_stmt.Declare n ty t at) = tree.Declare n ty (term_of t.value) at
  stmt_of (code_stmt.Zero n ty at) = tree.Zero n ty at
  stmt_of (code_stmt.Assign n t at) = tree.Assign n (term_of t.value) at
  stmt_of (code_stmt.Perform action parts at) = tree.Perform action (terms_of (map term_of parts.items)) at
  stmt_of (code_stmt.Update operands read ty read_at op value write at) = tree.Update (record {
    operands = terms_of (map term_of operands.items);
    read = read;
    ty = ty;
    read_at = read_at;
    op = op;
    value = term_of value.value;
    write = write;
    at = at;
  })
  stmt_of (code_stmt.Discard t) = tree.Discard (term_of t.value)
  stmt_of (code_stmt.Invoke function args at) = tree.Invoke function (terms_of (map term_of args.items)) at
  stmt_of (code_stmt.Go function args at) = tree.Go function (terms_of (map term_of args.items)) at
  stmt_of (code_stmt.Print pieces values at) = tree.Print pieces (terms_of (map term_of values.items)) at
  stmt_of (code_stmt.If' test shape body at) = tree.If (term_of test.value) (stmts_in body) at
  stmt_of (code_stmt.IfElse' test shape body shape2 other at) =
      tree.IfElse (term_of test.value) (stmts_in body) (stmts_in other) at
  stmt_of (code_stmt.Loop' test shape body shape2 post at) =
      tree.Loop (boxed_term_of test) (stmts_in body) (stmts_in post) at
  stmt_of (code_stmt.Break at) = tree.Break at
  stmt_of (code_stmt.Continue at) = tree.Continue at
  stmt_of (code_stmt.Return value at) = tree.Return (boxed_term_of value) at

  pub stmts_in : {m : _} → code_stmt.Row_of-Stmt m → Stmts
  stmts_in code_stmt.end_of-Stmt = tree.no_stmts
  stmts_in (code_stmt.more_of-Stmt s rest) = tree.a_stmt (stmt_of s) (stmts_in rest)

abbrev pub typed_function_of : CodeFunction → Function
typed_function_of f = record {
  name = f.name;
  params = f.params;
  locals = f.locals;
  result_type = f.result_type;
  body = map stmt_of f.body.items;
  end = f.end;
}

abbrev pub typed_of : CodeTyped → Typed
typed_of p = record {
  structs = p.structs;
  variables = p.variables;
  functions = map typed_function_of p.functions.items;
}
