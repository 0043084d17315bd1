-- What statements keep of a context: its package, the blocks around it, and the types of earlier local variables. A typed function lists
-- all its local variables, while a statement is checked when only some are declared: by this the list begins with those.
use Rattle.std.proofs.Common.{◌≡◌, List, [], ◌∷◌, ◌++◌, append_assoc, refl, ap, sym, ◌∙◌}
use Rattle.std.proofs.lemmas.List.{append-nil}
use Rattle.std.specs.Prelude.{Option, None, ℕ}
use Rattle.rgo_ast.specs.Tree as tree
use Rattle.rgo_ast.specs.Tree.{Expr, Stmt, Stmts, Clause, LocalVar}
use Rattle.rgo_ast.specs.declared.names.Ident.{Ident}
use Rattle.rgo_typed.specs.declared.types.Type.{«Type»}
use Rattle.rgo_scopes.specs.Blocks.{left_to}
use Rattle.rgo_typing_expressions.specs.Packages.{Scope, Context}
use Rattle.rgo_typing_expressions.specs.Scopes.{with_local, resolved}
use Rattle.rgo_typing_expressions.specs.Types.{type_of}
use Rattle.rgo_typing_packages.specs.Names.{with_names}
use Rattle.rgo_typing_statements.specs.Statements.{type_or, in_block, out_of_block, header, after_block}
use Rattle.rgo_typing_statements.specs.Statements.{context_after, after_all, after_clause, after_var, after_vars}

-- a list begins with another
abbrev pub Begins : {A : Type 0} → List A → List A → Type 0
Begins {A} l m = (rest : List A) × (m ≡ l ++ rest)

pub begins_itself : {A : Type 0} (l : List A) → Begins l l
begins_itself l = ([], sym (append-nil l))

pub begins_more : {A : Type 0} (l m : List A) → Begins l (l ++ m)
begins_more l m = (m, refl)

pub begins_trans : {A : Type 0} (l m n : List A) → Begins l m → Begins m n → Begins l n
begins_trans l m n h k =
    (h.0 ++ k.0, k.1 ∙ ap (λ x. x ++ k.0) h.1 ∙ append_assoc l h.0 k.0)

-- ---- contexts

-- a context in the same package and inside the same blocks, with more local variables
pub record Extends (c h : Context) : Type 0 where
  pub globals : h.globals ≡ c.globals
  pub outer : h.scope.locals.outer ≡ c.scope.locals.outer
  pub types : Begins c.scope.types h.scope.types

pub same_context : (c : Context) → Extends c c
same_context c = record { globals = refl; outer = refl; types = begins_itself c.scope.types }

pub extends_trans : (c h k : Context) → Extends c h → Extends h k → Extends c k
extends_trans c h k a b = record {
  globals = b.globals ∙ a.globals;
  outer = b.outer ∙ a.outer;
  types = begins_trans c.scope.types h.scope.types k.scope.types a.types b.types;
}

-- a context in which the same names are declared as well
pub record Restores (c h : Context) : Type 0 where
  pub globals : h.globals ≡ c.globals
  pub locals : h.scope.locals ≡ c.scope.locals
  pub types : Begins c.scope.types h.scope.types

-- out of the block that was entered
pub leaves : (c h : Context) → Extends (in_block c) h → Restores c (out_of_block h)
leaves c h a = record { globals = a.globals; locals = ap left_to a.outer; types = a.types }

pub restored : (c h : Context) → Restores c h → Extends c h
restored c h a = record { globals = a.globals; outer = ap (λ b. b.outer) a.locals; types = a.types }

-- ---- declarations

outer_names : (ty : «Type») (g : Scope) (names : List Ident) → (with_names ty g names).locals.outer ≡ g.locals.outer
outer_names ty g [] = refl
outer_names ty g (x ∷ names) = outer_names ty (with_local x.name ty g) names

pub grows_names : (ty : «Type») (g : Scope) (names : List Ident) → Begins g.types (with_names ty g names).types
grows_names ty g [] = begins_itself g.types
grows_names ty g (x ∷ names) =
    begins_trans g.types (g.types ++ ty ∷ []) (with_names ty (with_local x.name ty g) names).types
    (begins_more g.types (ty ∷ [])) (grows_names ty (with_local x.name ty g) names)

pub grows_var : (c : Context) (v : LocalVar) → Extends c (after_var c v)
grows_var c (tree.Zero b) = record {
  globals = refl;
  outer = outer_names (resolved c b.ty) c.scope b.names;
  types = grows_names (resolved c b.ty) c.scope b.names;
}
grows_var c (tree.Typed x ty e at) =
    record { globals = refl; outer = refl; types = begins_more c.scope.types (resolved c ty ∷ []) }
grows_var c (tree.Inferred x e at) =
    record { globals = refl; outer = refl; types = begins_more c.scope.types (type_or None (type_of c e) ∷ []) }

pub grows_vars : (c : Context) (vars : List LocalVar) → Extends c (after_vars c vars)
grows_vars c [] = same_context c
grows_vars c (v ∷ vars) =
    extends_trans c (after_var c v) (after_vars (after_var c v) vars) (grows_var c v) (grows_vars (after_var c v) vars)

-- ---- statements

-- after a block, an `if` or a `for` the names are those before it
block_restores : (c : Context) (l : Stmts) → Extends (in_block c) (after_all (in_block c) l)
    → Restores c (after_block c l)
block_restores c l body = leaves c (after_all (in_block c) l) body

if_restores : (c : Context) (init : Clause) (body : Stmts) (other : Clause) → Extends (in_block c) (header c init)
    → Extends (in_block (header c init)) (after_all (in_block (header c init)) body)
    → Extends (after_block (header c init) body) (after_clause (after_block (header c init) body) other)
    → Restores c (out_of_block (after_clause (after_block (header c init) body) other))
if_restores c init body other first then_part else_part =
    let h = header c init in
    let b = after_block h body in
    leaves c (after_clause b other)
    (extends_trans (in_block c) h (after_clause b other) first
    (extends_trans h b (after_clause b other) (restored h b (block_restores h body then_part)) else_part))

for_restores : (c : Context) (init post : Clause) (body : Stmts) → Extends (in_block c) (header c init)
    → Extends (header c init) (after_clause (header c init) post)
    → Extends (in_block (after_clause (header c init) post)) (after_all
    (in_block (after_clause (header c init) post)) body)
    → Restores c (out_of_block (after_block (after_clause (header c init) post) body))
for_restores c init post body first last inner =
    let h = header c init in
    let q = after_clause h post in
    let b = after_block q body in
    leaves c b
    (extends_trans (in_block c) h b first (extends_trans h q b last (restored q b (block_restores q body inner))))

mutual
  pub grows : (c : Context) (s : Stmt) → Extends c (context_after c s)
  grows c (tree.Block all at) =
      restored c (after_block c all) (block_restores c all (grows_all (in_block c) all))
  grows c (tree.Define x e at) =
      record { globals = refl; outer = refl; types = begins_more c.scope.types (type_or None (type_of c e) ∷ []) }
  grows c (tree.If init test body other at) =
      let h = header c init in
      restored c (context_after c (tree.If init test body other at))
      (if_restores c init body other (grows_clause (in_block c) init) (grows_all (in_block h) body)
      (grows_clause (after_block h body) other))
  grows c (tree.For init test post body at) =
      let h = header c init in
      restored c (context_after c (tree.For init test post body at))
      (for_restores c init post body (grows_clause (in_block c) init) (grows_clause h post)
      (grows_all (in_block (after_clause h post)) body))
  grows c (tree.Var vars at) = grows_vars c vars
  grows c (tree.Plain e) = same_context c
  grows c (tree.Send a b at) = same_context c
  grows c (tree.Step op e at) = same_context c
  grows c (tree.Assign op a b at) = same_context c
  grows c (tree.Go x args at) = same_context c
  grows c (tree.Return value at) = same_context c
  grows c (tree.Break at) = same_context c
  grows c (tree.Continue at) = same_context c

  pub grows_all : (c : Context) (l : Stmts) → Extends c (after_all c l)
  grows_all c tree.no_stmts = same_context c
  grows_all c (tree.a_stmt s l) =
      extends_trans c (context_after c s) (after_all (context_after c s) l) (grows c s) (grows_all (context_after c s) l)

  pub grows_clause : (c : Context) (l : Clause) → Extends c (after_clause c l)
  grows_clause c tree.no_clause = same_context c
  grows_clause c (tree.a_clause s) = grows c s

pub after_the_block : (c : Context) (l : Stmts) → Restores c (after_block c l)
after_the_block c l = block_restores c l (grows_all (in_block c) l)

pub after_if : (c : Context) (init : Clause) (test : Expr) (body : Stmts) (other : Clause) (at : ℕ)
    → Restores c (context_after c (tree.If init test body other at))
after_if c init test body other at =
    let h = header c init in
    if_restores c init body other (grows_clause (in_block c) init) (grows_all (in_block h) body)
    (grows_clause (after_block h body) other)

pub after_for : (c : Context) (init : Clause) (test : Option Expr) (post : Clause) (body : Stmts) (at : ℕ)
    → Restores c (context_after c (tree.For init test post body at))
after_for c init test post body at =
    let h = header c init in
    for_restores c init post body (grows_clause (in_block c) init) (grows_clause h post)
    (grows_all (in_block (after_clause h post)) body)
