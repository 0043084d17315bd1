-- The count of statements that contain no others, by the counts of their terms or their lexemes.
use Rattle.std.proofs.Common.{◌≡◌, ℕ, ◌+◌, ◌*◌, ◌≤◌, Bool, true, false, List, [], ◌∷◌, length, Option, Some, None, refl, arith, length-append}
use Rattle.rgo_ast.specs.Tree as tree
use Rattle.rgo_ast.specs.Tree.{Expr, Exprs, exprs_of}
use Rattle.rgo_ast.specs.declared.ops.BinaryOp.{BinaryOp}
use Rattle.rgo_lexer.specs.declared.terminals.Terminal.TheVariants.{OpenParen, CloseParen}
use Rattle.rgo_lexer.specs.Lexemes.{Lexeme, tok}
use Rattle.rgo_grammar.specs.Grammar as grammar
use Rattle.rgo_grammar.specs.Grammar.{IsExpr, IsUnary, IsPrimary}
use Rattle.rgo_typed.specs.declared.actions.Action.{Action}
use Rattle.rgo_typed.specs.declared.types.Type.{«Type»}
use Rattle.rgo_typed.specs.Tree as typed
use Rattle.rgo_typed.specs.Tree.{Term, Terms}
use Rattle.rgo_typing_rules.specs.Builtins.{result_of, action_of}
use Rattle.rgo_typing_rules.specs.Shapes as shape
use Rattle.rgo_typing_rules.specs.Shapes.{Shape}
use Rattle.rgo_typing_expressions.specs.Callees.{without_parens, callee_of}
use Rattle.rgo_typing_expressions.specs.Packages.{Package, Context}
use Rattle.rgo_typing_expressions.specs.Terms.{typed_term, all_terms, wanted_of, with_type, type_in, call_term}
use Rattle.rgo_typing_expressions.specs.Types.{type_of, call_shape}
use Rattle.rgo_typing_expressions.specs.declared.callees.Callee.{Callee}
use Rattle.rgo_typing_expressions.specs.declared.callees.Callee.TheVariants as callee
use Rattle.rgo_typing_statements.specs.TypedStatements.{is_text, unless_text, printed_terms, called_stmt, builtin_stmt, call_stmt, plain_stmt}
use Rattle.rgo_typing_statements.specs.TypedStatements.{go_stmt, with_last, write_of, store_stmt, stored_by, changed, changed_by, assign_stmt, with_result}
use Rattle.rgo_lower.specs.Sizes.{term_size, terms_size, stmt_size}
use Rattle.rgo_size_laws.proofs.Terms.{retyped, call_small}
use Rattle.rgo_size_laws.proofs.Expressions.{expr_small, unary_expr_small, primary_small, exprs_small}

-- ---- calls

unless_small : (text : Bool) (t : Term) (l : Terms) (n : ℕ) → terms_size l ≤ n
    → terms_size (unless_text text t l) ≤ term_size t + n
unless_small true t l n h = omega (arith, h)
unless_small false t l n h = omega (arith, h)

-- the terms of a print are those of its operands without the strings, so they count no more
printed_small : (args : Exprs) (l : Terms) → terms_size (printed_terms args l) ≤ terms_size l
printed_small tree.no_exprs l = omega arith
printed_small (tree.an_expr e args) typed.no_terms = omega arith
printed_small (tree.an_expr e args) (typed.a_term t l) =
    unless_small (is_text (without_parens e)) t (printed_terms args l) (terms_size l) (printed_small args l)

called_small : (s : Shape) (t : Term) → stmt_size (called_stmt s t) ≤ term_size t
called_small shape.NoResult (typed.Call n args ty at) = omega arith
called_small shape.NoResult t = omega arith
called_small s t = omega arith

builtin_stmt_small : (o : Option Action) (result : Option «Type») (args : Exprs) (l : Terms) (at : ℕ)
    → stmt_size (builtin_stmt o result args l at) ≤ terms_size l + 3
builtin_stmt_small None result args l at = omega (arith, printed_small args l)
builtin_stmt_small (Some a) None args l at = omega arith
builtin_stmt_small (Some a) (Some ty) args l at = omega arith

call_stmt_small : (p : Package) (f : Callee) (args : Exprs) (l : Terms) (at : ℕ)
    → stmt_size (call_stmt p f args l at) ≤ terms_size l + 3
call_stmt_small p (callee.Builtin b) args l at = builtin_stmt_small (action_of b) (result_of b) args l at
call_stmt_small p f args l at = omega (arith, called_small (call_shape p f) (call_term p f l at), call_small p f l at)

pub go_small : (f : Callee) (l : Terms) (at : ℕ) → stmt_size (go_stmt f l at) ≤ terms_size l + 3
go_small (callee.Routine n) l at = omega arith
go_small f l at = omega arith

-- ---- assignments

ended_size : (l : Terms) (t : Term) → terms_size (with_last l t) ≡ terms_size l + term_size t
ended_size typed.no_terms t = omega arith
ended_size (typed.a_term u l) t = omega (arith, ended_size l t)

stored_by_small : (write : Option Action) (l : Terms) (value : Term) (at : ℕ)
    → stmt_size (stored_by write l value at) ≤ terms_size l + term_size value + 3
stored_by_small None l value at = omega arith
stored_by_small (Some write) l value at = omega (arith, ended_size l value)

stored_small : (left value : Term) (at : ℕ) → stmt_size (store_stmt left value at) ≤ term_size left + term_size value + 6
stored_small (typed.Local n) value at = omega arith
stored_small (typed.Apply read l ty read_at) value at = omega (arith, stored_by_small (write_of read) l value at)
stored_small left value at = omega arith

changed_by_small : (write : Option Action) (read : Action) (l : Terms) (ty : «Type») (read_at : ℕ) (op : BinaryOp)
    (value : Term) (at : ℕ)
    → stmt_size (changed_by write read l ty read_at op value at) ≤ terms_size l + term_size value + 9
changed_by_small None read l ty read_at op value at = omega arith
changed_by_small (Some write) read l ty read_at op value at = omega arith

pub changed_small : (op : BinaryOp) (left value : Term) (at : ℕ)
    → stmt_size (changed op left value at) ≤ term_size left + term_size value + 6
changed_small op (typed.Local n) value at = omega arith
changed_small op (typed.Apply read l ty read_at) value at =
    omega (arith, changed_by_small (write_of read) read l ty read_at op value at)
changed_small op left value at = omega arith

pub assign_small : (c : Context) (op : Option BinaryOp) (a b : Expr) (at : ℕ)
    → stmt_size (assign_stmt c op a b at) ≤ term_size (typed_term c a) + term_size (typed_term c b) + 6
assign_small c None a b at =
    let ty = type_in (type_of c a) in
    omega (arith, stored_small (typed_term c a) (with_type ty (typed_term c b)) at, retyped ty (typed_term c b))
assign_small c (Some op) a b at = changed_small op (typed_term c a) (typed_term c b) at

-- ---- expressions

pub result_retyped : (result : Option «Type») (t : Term) → term_size (with_result result t) ≡ term_size t
result_retyped None t = refl
result_retyped (Some ty) t = retyped ty t

-- an expression statement, by what is in its parentheses
mutual
  pub plain_small : {header : Bool} {least : ℕ} {x : List Lexeme} {v : Expr} → IsExpr header least x v → (c : Context)
      → stmt_size (plain_stmt c v) ≤ 12 * length x
  plain_small (grammar.IsExpr.unary e) c = unary_plain_small e c
  plain_small e c = expr_small e c

  unary_plain_small : {header : Bool} {x : List Lexeme} {v : Expr} → IsUnary header x v → (c : Context)
      → stmt_size (plain_stmt c v) ≤ 12 * length x
  unary_plain_small (grammar.IsUnary.primary e) c = primary_plain_small e c
  unary_plain_small e c = unary_expr_small e c

  primary_plain_small : {x : List Lexeme} {v : Expr} → IsPrimary x v → (c : Context)
      → stmt_size (plain_stmt c v) ≤ 12 * length x
  primary_plain_small (grammar.IsPrimary.parens i j {x = x} e) c =
      omega (arith, plain_small e c, length-append x (tok CloseParen j ∷ []))
  primary_plain_small (grammar.IsPrimary.call i {x = x} {y = y} {v = v} {vs = vs} f all) c =
      let types = wanted_of c.globals (callee_of c v) in
      omega (
        arith,
        exprs_small all c types,
        call_stmt_small c.globals (callee_of c v) (exprs_of vs) (all_terms c types (exprs_of vs)) i.at,
        length-append x (tok OpenParen i ∷ y),
      )
  primary_plain_small e c = primary_small e c
