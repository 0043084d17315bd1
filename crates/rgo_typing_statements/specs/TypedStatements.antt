-- The typed trees of statements. A statement is a list of typed ones: a declaration has one for each variable, all others have one.
-- These definitions say what a program means and are not proved against others, so they have to be read.
use Rattle.std.specs.Prelude.{ℕ, Bool, true, false, pos, List, [], ◌∷◌, ◌++◌, ◌+◌, length, Option, Some, None}
use Rattle.rgo_ast.specs.Tree as tree
use Rattle.rgo_ast.specs.Tree.{Expr, Exprs, Clause, LocalVar}
use Rattle.rgo_ast.specs.declared.names.Ident.{Ident}
use Rattle.rgo_ast.specs.declared.ops.BinaryOp.{BinaryOp}
use Rattle.rgo_typed.specs.declared.actions.Action.{Action}
use Rattle.rgo_typed.specs.declared.actions.Action.TheVariants as action
use Rattle.rgo_typed.specs.declared.statements.Piece.{Piece}
use Rattle.rgo_typed.specs.declared.statements.Piece.TheVariants as piece
use Rattle.rgo_typed.specs.declared.types.Type.{«Type»}
use Rattle.rgo_typed.specs.Tree as typed
use Rattle.rgo_typed.specs.Tree.{Term, Terms, Stmt, stmts_of, no_terms, a_term}
use Rattle.rgo_typing_rules.specs.Builtins.{result_of, action_of}
use Rattle.rgo_typing_rules.specs.Shapes as shape
use Rattle.rgo_typing_rules.specs.Shapes.{Shape}
use Rattle.rgo_typing_expressions.specs.Callees.{callee_of, named_callee, without_parens}
use Rattle.rgo_typing_expressions.specs.Packages.{Package, Context}
use Rattle.rgo_typing_expressions.specs.Scopes.{int, resolved, meaning_of}
use Rattle.rgo_typing_expressions.specs.Terms.{typed_term, all_terms, wanted_of, int_constant, with_type, type_in, element_type, pair_of_terms, call_term}
use Rattle.rgo_typing_expressions.specs.Types.{type_of, call_shape}
use Rattle.rgo_typing_expressions.specs.declared.callees.Callee.{Callee}
use Rattle.rgo_typing_expressions.specs.declared.callees.Callee.TheVariants as callee
use Rattle.rgo_typing_statements.specs.Statements.{Enclosing, within_loop, in_block, type_or, after_var, context_after, after_block, header, after_clause}
use Rattle.rgo_typing_statements.specs.Statements.{assign_op, step_op}

-- ---- prints and calls

-- a string: a print writes it from the program's text, so it is no operand
abbrev pub is_text : Expr → Bool
is_text (tree.Text bytes at) = true
is_text _ = false

-- what a print writes for one argument: the bytes of a string, or the next value
abbrev pub piece_of : Expr → Piece
piece_of (tree.Text bytes at) = piece.Text bytes
piece_of _ = piece.Value

-- what a print writes: each string as its bytes
abbrev pub printed_pieces : Exprs → List Piece
printed_pieces tree.no_exprs = []
printed_pieces (tree.an_expr e l) = piece_of (without_parens e) ∷ printed_pieces l

-- one more operand, unless the argument is a string
abbrev pub unless_text : Bool → Term → Terms → Terms
unless_text true t l = l
unless_text false t l = a_term t l

-- the term of an operand, unless it is a string
abbrev pub kept_operand : Bool → Term → List Term
kept_operand true t = []
kept_operand false t = t ∷ []

-- the values of a print: all operands but the strings
abbrev pub printed_terms : Exprs → Terms → Terms
printed_terms tree.no_exprs ts = no_terms
printed_terms (tree.an_expr e l) no_terms = no_terms
printed_terms (tree.an_expr e l) (a_term t ts) = unless_text (is_text (without_parens e)) t (printed_terms l ts)

-- a call of a function, which may have no result
abbrev pub called_stmt : Shape → Term → Stmt
called_stmt shape.NoResult (typed.Call n args ty at) = typed.Invoke n args at
called_stmt shape.NoResult t = typed.Discard t
called_stmt _ t = typed.Discard t

-- a call of a builtin as a statement: a print if it has no action
abbrev pub builtin_stmt : Option Action → Option «Type» → Exprs → Terms → ℕ → Stmt
builtin_stmt None result args ts at = typed.Print (printed_pieces args) (printed_terms args ts) at
builtin_stmt (Some a) None args ts at = typed.Perform a ts at
builtin_stmt (Some a) (Some ty) args ts at = typed.Discard (typed.Apply a ts ty at)

-- a call as a statement, from its arguments
abbrev pub call_stmt : Package → Callee → Exprs → Terms → ℕ → Stmt
call_stmt p (callee.Builtin b) args ts at = builtin_stmt (action_of b) (result_of b) args ts at
call_stmt p c args ts at = called_stmt (call_shape p c) (call_term p c ts at)

-- `plain_stmt` of an expression without parentheses around it: a call, or a receive, whose value is dropped
abbrev pub bare_plain : Context → Expr → Stmt
bare_plain c (tree.Called f args at) =
    call_stmt c.globals (callee_of c f) args (all_terms c (wanted_of c.globals (callee_of c f)) args) at
bare_plain c e = typed.Discard (typed_term c e)

-- an expression statement
abbrev pub plain_stmt : Context → Expr → Stmt
plain_stmt c e = bare_plain c (without_parens e)

-- a start of the function; of function 0 where the name is not a function's, in a program that is refused
abbrev pub go_stmt : Callee → Terms → ℕ → Stmt
go_stmt (callee.Routine n) ts at = typed.Go n ts at
go_stmt _ ts at = typed.Go 0 ts at

-- the same from the arguments as they are written, each with the type of its parameter
abbrev pub started : Context → Callee → Exprs → ℕ → Stmt
started c f args at = go_stmt f (all_terms c (wanted_of c.globals f) args) at

-- ---- sends and assignments

-- a send, whose value gets the type of the channel's elements, so that a `nil` has a type
abbrev pub send_stmt : Context → Expr → Expr → ℕ → Stmt
send_stmt c a b at = typed.Perform action.Send (pair_of_terms (typed_term c a) (with_type (element_type (type_of c a)) (typed_term c b))) at

-- these terms and one more at the end
abbrev pub with_last : Terms → Term → Terms
with_last no_terms t = a_term t no_terms
with_last (a_term u l) t = a_term u (with_last l t)

-- the write that belongs to a read
abbrev pub write_of : Action → Option Action
write_of (action.Get n) = Some (action.Set n)
write_of (action.Load k) = Some (action.Store k)
write_of action.At = Some action.Put
write_of _ = None

-- the write, whose operands are those of the read and then the value; without a write the program is refused
abbrev pub stored_by : Option Action → Terms → Term → ℕ → Stmt
stored_by None parts value at = typed.Discard value
stored_by (Some write) parts value at = typed.Perform write (with_last parts value) at

-- A value is assigned to the left side, whose term is a read. A term that is not a place was refused, and only its value is kept here.
abbrev pub store_stmt : Term → Term → ℕ → Stmt
store_stmt (typed.Local n) value at = typed.Assign n value at
store_stmt (typed.Apply read parts ty read_at) value at = stored_by (write_of read) parts value at
store_stmt _ value at = typed.Discard value

-- the update of the place that `read` reads, with the operands `parts`; without a write the program is refused
abbrev pub changed_by : Option Action → Action → Terms → «Type» → ℕ → BinaryOp → Term → ℕ → Stmt
changed_by None read parts ty read_at op value at = typed.Discard value
changed_by (Some write) read parts ty read_at op value at = typed.Update (record {
  operands = parts;
  read = read;
  ty = ty;
  read_at = read_at;
  op = op;
  value = value;
  write = write;
  at = at;
})

-- the left side is read, computed with and written; its operands are evaluated once
abbrev pub changed : BinaryOp → Term → Term → ℕ → Stmt
changed op (typed.Local n) value at =
    typed.Assign n (typed.Apply (action.Binary op) (pair_of_terms (typed.Local n) value) int at) at
changed op (typed.Apply read parts ty read_at) value at = changed_by (write_of read) read parts ty read_at op value at
changed op _ value at = typed.Discard value

-- an assignment to a left side of this shape and term
abbrev pub assigned_stmt : Option BinaryOp → Shape → Term → Term → ℕ → Stmt
assigned_stmt None s left value at = store_stmt left (with_type (type_in s) value) at
assigned_stmt (Some op) s left value at = changed op left value at

-- an assignment, from its two sides as they are written
abbrev pub assign_stmt : Context → Option BinaryOp → Expr → Expr → ℕ → Stmt
assign_stmt c op a b at = assigned_stmt op (type_of c a) (typed_term c a) (typed_term c b) at

-- `++` and `--`, as updates by the constant 1
abbrev pub step_stmt : Context → BinaryOp → Expr → ℕ → Stmt
step_stmt c op e at = changed op (typed_term c e) (int_constant (pos 1) at) at

-- ---- local variables

-- a variable begins with a value
abbrev pub define_stmt : Context → Option «Type» → Expr → ℕ → Stmt
define_stmt c wanted e at =
    typed.Declare (length c.scope.types) (type_or wanted (type_of c e))
    (with_type (type_or wanted (type_of c e)) (typed_term c e)) at

-- variables begin with the zero of their type, at their names
abbrev pub zeros : ℕ → «Type» → List Ident → List Stmt
zeros n ty [] = []
zeros n ty (x ∷ l) = typed.Zero n ty x.at ∷ zeros (n + 1) ty l

-- one declaration of a `var`: a statement for each of its variables
abbrev pub var_stmts : Context → LocalVar → List Stmt
var_stmts c (tree.Zero b) = zeros (length c.scope.types) (resolved c b.ty) b.names
var_stmts c (tree.Typed x ty e at) = define_stmt c (Some (resolved c ty)) e at ∷ []
var_stmts c (tree.Inferred x e at) = define_stmt c None e at ∷ []

-- several, each in the context after those before it
abbrev pub vars_stmts : Context → List LocalVar → List Stmt
vars_stmts c [] = []
vars_stmts c (v ∷ l) = var_stmts c v ++ vars_stmts (after_var c v) l

-- ---- statements that contain others

-- a returned value, which gets the result type of the function, so that a `nil` has a type
abbrev pub with_result : Option «Type» → Term → Term
with_result None t = t
with_result (Some ty) t = with_type ty t

-- the value of a `return`, if it has one
abbrev pub returned : Option «Type» → Context → Option Expr → Option Term
returned result_type c None = None
returned result_type c (Some e) = Some (with_result result_type (typed_term c e))

-- an expression that may be left out: the condition of a `for`
abbrev pub optional_term : Context → Option Expr → Option Term
optional_term c None = None
optional_term c (Some e) = Some (typed_term c e)

-- whether a statement that may be left out is there
abbrev pub has_clause : Clause → Bool
has_clause tree.no_clause = false
has_clause (tree.a_clause s) = true

-- a statement with a header is in a block with it
abbrev pub headed : Bool → List Stmt → Stmt → List Stmt
headed false init s = s ∷ []
headed true init s = typed.Block (stmts_of (init ++ s ∷ [])) ∷ []

-- an `if` with or without an `else`
abbrev pub if_or_else : Bool → Term → List Stmt → List Stmt → ℕ → Stmt
if_or_else false test body other at = typed.If test (stmts_of body) at
if_or_else true test body other at = typed.IfElse test (stmts_of body) (stmts_of other) at

abbrev mutual
  -- the typed statements of a statement in this context; of what encloses it only the result type matters here
  pub typed_stmt : Enclosing → Context → tree.Stmt → List Stmt
  typed_stmt f c (tree.Block all at) = typed.Block (stmts_of (typed_all f (in_block c) all)) ∷ []
  typed_stmt f c (tree.Plain e) = plain_stmt c e ∷ []
  typed_stmt f c (tree.Send a b at) = send_stmt c a b at ∷ []
  typed_stmt f c (tree.Step op e at) = step_stmt c (step_op op) e at ∷ []
  typed_stmt f c (tree.Assign op a b at) = assign_stmt c (assign_op op) a b at ∷ []
  typed_stmt f c (tree.Define x e at) = define_stmt c None e at ∷ []
  typed_stmt f c (tree.If init test body other at) =
      headed (has_clause init) (typed_clause f (in_block c) init)
      (if_or_else (has_clause other) (typed_term (header c init) test) (typed_all f (in_block (header c init)) body)
      (typed_clause f (after_block (header c init) body) other) at)
  typed_stmt f c (tree.For init test post body at) =
      headed (has_clause init) (typed_clause f (in_block c) init)
      (typed.Loop (optional_term (header c init) test)
      (stmts_of (typed_all (within_loop f) (in_block (after_clause (header c init) post)) body))
      (stmts_of (typed_clause f (header c init) post)) at)
  typed_stmt f c (tree.Go x args at) = started c (named_callee x.at (meaning_of c x.name)) args at ∷ []
  typed_stmt f c (tree.Var vars at) = vars_stmts c vars
  typed_stmt f c (tree.Return value at) = typed.Return (returned f.result_type c value) at ∷ []
  typed_stmt f c (tree.Break at) = typed.Break at ∷ []
  typed_stmt f c (tree.Continue at) = typed.Continue at ∷ []

  -- of all statements of a list, each in the context after those before it
  pub typed_all : Enclosing → Context → tree.Stmts → List Stmt
  typed_all f c tree.no_stmts = []
  typed_all f c (tree.a_stmt s l) = typed_stmt f c s ++ typed_all f (context_after c s) l

  -- of a statement that may be left out; none if it is
  pub typed_clause : Enclosing → Context → Clause → List Stmt
  typed_clause f c tree.no_clause = []
  typed_clause f c (tree.a_clause s) = typed_stmt f c s
