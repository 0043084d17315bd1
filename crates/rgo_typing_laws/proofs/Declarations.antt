-- Lists of typed statements and what is in scope after them, and the declarations of local variables. `Steps` says that statements
-- are well-formed if those after them are, so that it composes along a list, in which a declaration may be several statements.
use Rattle.std.proofs.Common.{◌≡◌, ◌++◌, ◌+◌, ℕ, Bool, List, [], ◌∷◌, length, append_assoc, length-append}
use Rattle.std.proofs.Common.{Option, Some, None, true, refl, sym, subst, true≢false}
use Rattle.std.proofs.lemmas.List.{append-nil}
use Rattle.rgo_ast.specs.Tree as tree
use Rattle.rgo_ast.specs.Tree.{Expr, LocalVar}
use Rattle.rgo_ast.specs.declared.names.Ident.{Ident}
use Rattle.rgo_typed.specs.declared.types.Type.{«Type»}
use Rattle.rgo_typed.specs.Tree as typed
use Rattle.rgo_typed.specs.Tree.{Term, Stmt, stmts_of}
use Rattle.rgo_typing_rules.specs.Shapes as shape
use Rattle.rgo_typing_rules.specs.Shapes.{Shape, fits}
use Rattle.rgo_typing_rules.specs.Nodes as node
use Rattle.rgo_typing_rules.specs.Rules.{broken}
use Rattle.rgo_typing_rules.specs.Sites.{first_refusal}
use Rattle.rgo_typing_rules.specs.declared.roles.Role.{Role}
use Rattle.rgo_typing_rules.specs.declared.roles.Role.TheVariants as role
use Rattle.rgo_typing_rules.specs.declared.rules.Rule.TheVariants as rule
use Rattle.rgo_typing_rules.proofs.Unbroken.{keeps}
use Rattle.rgo_typing_expressions.specs.Checking.{nodes, type_expr_sites}
use Rattle.rgo_typing_expressions.specs.Laws.{is_typed}
use Rattle.rgo_typing_expressions.specs.Packages.{Context}
use Rattle.rgo_typing_expressions.specs.Scopes.{with_local, in_scope, int, resolved}
use Rattle.rgo_typing_expressions.specs.Terms.{with_type, typed_term}
use Rattle.rgo_typing_expressions.specs.Types.{type_of}
use Rattle.rgo_typing_expressions.proofs.Typed.{typed_where_unbroken}
use Rattle.rgo_typing_packages.specs.Names.{name_site, with_names}
use Rattle.rgo_typing_statements.specs.Statements.{type_or, define_node, define_sites, after_define, var_sites, local_vars_sites}
use Rattle.rgo_typing_statements.specs.Statements.{after_var, after_vars}
use Rattle.rgo_typing_statements.specs.TypedStatements.{zeros, define_stmt, var_stmts, vars_stmts}
use Rattle.rgo_wellformed.specs.TypeRules.{Declared, IsType}
use Rattle.rgo_wellformed.specs.WellFormed.{InScope, HasType, Environment, AreStmts, IsResult}
use Rattle.rgo_typing_laws.proofs.Unbroken.{not_false, left, right, in_three}
use Rattle.rgo_typing_laws.proofs.Growth.{Begins, begins_more, begins_trans, Extends, grows_names, grows_var}
use Rattle.rgo_typing_laws.proofs.Growth.{grows_vars}
use Rattle.rgo_typing_laws.proofs.Fitting.{Fits, retyped, fitted}
use Rattle.rgo_typing_laws.proofs.Expressions.{well_term, base_known}
use Rattle.rgo_typing_laws.proofs.Scopes.{Describes, describes_more, declares, means}
use Rattle.rgo_typing_laws.proofs.Assignments.{Stays}

module _ (d : Declared) (locals : List «Type») (result : Option «Type») where
  abbrev pub env : Bool → Environment
  env in_loop = record { declared = d; locals = locals; result_type = result; in_loop = in_loop }

  abbrev pub AreAll : Bool → InScope → List Stmt → Type 0
  AreAll in_loop here l = AreStmts (env in_loop) here (stmts_of l)

  -- the statements are well-formed if those after them are, in the context h
  abbrev pub Steps : Bool → InScope → Context → List Stmt → Type 0
  Steps in_loop here h l =
      (next : InScope) × Describes d h next
      × ((more : List Stmt) → AreAll in_loop next more → AreAll in_loop here (l ++ more))

  pub steps_none : (in_loop : Bool) (here : InScope) (c : Context) → Describes d c here → Steps in_loop here c []
  steps_none in_loop here c st = (here, st, λ more a. a)

  pub steps_then : (in_loop : Bool) (here : InScope) (c h : Context) (l m : List Stmt) → Steps in_loop here c l
      → ((next : InScope) → Describes d c next → Steps in_loop next h m) → Steps in_loop here h (l ++ m)
  steps_then in_loop here c h l m s f =
      let t = f s.0 s.1 in
      (t.0, t.1, λ more a. subst (AreAll in_loop here) (sym (append_assoc l m more)) (s.2 (m ++ more) (t.2 more a)))

  -- all statements of a block
  pub steps_all : (in_loop : Bool) (here : InScope) (c : Context) (l : List Stmt) → Steps in_loop here c l
      → AreAll in_loop here l
  steps_all in_loop here c l s = subst (AreAll in_loop here) (append-nil l) (s.2 [] tt)

  pub steps_one : (in_loop : Bool) (here : InScope) (c : Context) (s : Stmt) → Describes d c here
      → Stays (env in_loop) here s → Steps in_loop here c (s ∷ [])
  steps_one in_loop here c s st h =
      (here, st, λ more a. (h.0, subst (λ x. AreStmts (env in_loop) x (stmts_of more)) (sym h.1) a))

  -- ---- expressions

  -- the local variables of a context are among those of the function
  abbrev pub Room : Context → Type 0
  Room c = Begins c.scope.types locals

  pub room_before : (c h : Context) → Extends c h → Room h → Room c
  room_before c h grown room = begins_trans c.scope.types h.scope.types locals grown.types room

  pub value_well : (c : Context) (here : InScope) → Room c → Describes d c here → (e : Expr) (r : Role)
      → first_refusal (nodes c r e) ≡ None → Fits d locals here (type_of c e) (typed_term c e)
  value_well c here room st e r h = well_term c d locals here (means c d locals here st room) st.sound.structs e r h

  type_known : (c : Context) (here : InScope) → Room c → Describes d c here → (ty : tree.TypeExpr)
      → IsType d (resolved c ty)
  type_known c here room st ty = base_known c d locals here (means c d locals here st room) st.sound.structs ty

  -- ---- declarations

  declared_well : (in_loop : Bool) (here : InScope) (c : Context) (name : List ℕ) (ty : «Type») (t : Term) (at : ℕ)
      → Begins (c.scope.types ++ ty ∷ []) locals → Describes d c here → IsType d ty → HasType d locals here t ty
      → Steps in_loop here (in_scope (with_local name ty c.scope) c) (typed.Declare (length c.scope.types) ty t at ∷ [])
  declared_well in_loop here c name ty t at b st k h = (
    length c.scope.types ∷ here,
    describes_more d c here name ty k st,
    λ more a. ((declares d c.scope here locals ty b st.scoped, h), a),
  )

  zeros_well : (in_loop : Bool) (here : InScope) (c : Context) (ty : «Type») (names : List Ident)
      → Begins (with_names ty c.scope names).types locals → Describes d c here → IsType d ty
      → Steps in_loop here (in_scope (with_names ty c.scope names) c) (zeros (length c.scope.types) ty names)
  zeros_well in_loop here c ty [] b st k = steps_none in_loop here c st
  zeros_well in_loop here c ty (x ∷ names) b st k =
      let types = c.scope.types in
      let g = with_local x.name ty c.scope in
      let b2 : Begins (types ++ ty ∷ []) locals =
      begins_trans (types ++ ty ∷ []) (with_names ty g names).types locals (grows_names ty g names) b in
      let one : length (types ++ ty ∷ []) ≡ length types + 1 = length-append types (ty ∷ []) in
      let rest =
      zeros_well in_loop (length types ∷ here) (in_scope g c) ty names b (describes_more d c here x.name ty k st) k in (
        rest.0,
        rest.1,
        λ more a. (
          declares d c.scope here locals ty b2 st.scoped,
          subst (λ n. AreAll in_loop (length types ∷ here) (zeros n ty names ++ more)) one (rest.2 more a),
        ),
      )

  -- a value has the type of the variable that begins with it
  defined_fits : (here : InScope) (wanted : Option «Type») (s : Shape) (t : Term) → IsResult d wanted
      → broken (define_node wanted s) ≡ None → is_typed role.Value s ≡ true → Fits d locals here s t
      → HasType d locals here (with_type (type_or wanted s) t) (type_or wanted s) × IsType d (type_or wanted s)
  defined_fits here (Some ty) s t k br is h =
      (fitted d locals here ty s t (not_false (fits ty s) (keeps rule.NotAssignable (node.DefineAs ty s) br)) k h, k)
  defined_fits here None (shape.Constant n) t k br is h = (retyped d locals here int t tt h, tt)
  defined_fits here None (shape.Value u) t k br is h = (retyped d locals here u t h.1 h.0, h.1)
  defined_fits here None shape.Nil t k br is h = absurd (true≢false (keeps rule.BareNil (node.Define shape.Nil) br))
  defined_fits here None s t k br is h = absurd (true≢false (sym is))

  pub define_well : (in_loop : Bool) (here : InScope) (c : Context) (x : Ident) (wanted : Option «Type») (e : Expr)
      (at : ℕ)
      → IsResult d wanted → Room (after_define c x wanted e) → Describes d c here
      → first_refusal (define_sites c x wanted e at) ≡ None
      → Steps in_loop here (after_define c x wanted e) (define_stmt c wanted e at ∷ [])
  define_well in_loop here c x wanted e at k room st h =
      let ty = type_or wanted (type_of c e) in
      let parts =
      in_three (nodes c role.Value e) (name_site c.scope x ∷ []) at (define_node wanted (type_of c e)) h in
      let before : Room c =
      begins_trans c.scope.types (c.scope.types ++ ty ∷ []) locals (begins_more c.scope.types (ty ∷ [])) room in
      let has = defined_fits here wanted (type_of c e) (typed_term c e) k parts.2
      (typed_where_unbroken c role.Value e refl parts.0) (value_well c here before st e role.Value parts.0) in
      declared_well in_loop here c x.name ty (with_type ty (typed_term c e)) at room st has.1 has.0

  var_well : (in_loop : Bool) (here : InScope) (c : Context) (v : LocalVar) → Room (after_var c v) → Describes d c here
      → first_refusal (var_sites c v) ≡ None → Steps in_loop here (after_var c v) (var_stmts c v)
  var_well in_loop here c (tree.Zero b) room st h =
      let before = room_before c (after_var c (tree.Zero b)) (grows_var c (tree.Zero b)) room in
      zeros_well in_loop here c (resolved c b.ty) b.names room st (type_known c here before st b.ty)
  var_well in_loop here c (tree.Typed x ty e at) room st h =
      let before = room_before c (after_var c (tree.Typed x ty e at)) (grows_var c (tree.Typed x ty e at)) room in
      define_well in_loop here c x (Some (resolved c ty)) e at (type_known c here before st ty) room st
      (right (type_expr_sites c ty) (define_sites c x (Some (resolved c ty)) e at) h)
  var_well in_loop here c (tree.Inferred x e at) room st h = define_well in_loop here c x None e at tt room st h

  pub vars_well : (in_loop : Bool) (here : InScope) (c : Context) (vars : List LocalVar) → Room (after_vars c vars)
      → Describes d c here → first_refusal (local_vars_sites c vars) ≡ None
      → Steps in_loop here (after_vars c vars) (vars_stmts c vars)
  vars_well in_loop here c [] room st h = steps_none in_loop here c st
  vars_well in_loop here c (v ∷ vars) room st h =
      let c2 = after_var c v in
      steps_then in_loop here c2 (after_vars c2 vars) (var_stmts c v) (vars_stmts c2 vars)
      (var_well in_loop here c v (room_before c2 (after_vars c2 vars) (grows_vars c2 vars) room) st
      (left (var_sites c v) (local_vars_sites c2 vars) h))
      (λ next st2. vars_well in_loop next c2 vars room st2 (right (var_sites c v) (local_vars_sites c2 vars) h))
