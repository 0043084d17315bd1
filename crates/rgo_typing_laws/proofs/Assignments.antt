-- Assignments and sends: if no node of one breaks a rule, its typed statement is well-formed. The case that matters is the left side:
-- by the rule on places its term is a read with a write, so the definitions never drop the value.
use Rattle.std.proofs.Common.{◌≡◌, ◌++◌, ◌&&◌, ◌<◌, ℕ, Bool, true, false, not, List, [], ◌∷◌, length}
use Rattle.std.proofs.Common.{Option, Some, None, is_some, refl, ap, sym, subst, true≢false}
use Rattle.std.specs.Prelude.{⊤}
use Rattle.rgo_ast.specs.Tree as tree
use Rattle.rgo_ast.specs.Tree.{Expr}
use Rattle.rgo_ast.specs.declared.ops.BinaryOp.{BinaryOp}
use Rattle.rgo_typed.specs.declared.actions.Action.{Action}
use Rattle.rgo_typed.specs.declared.actions.Action.TheVariants as action
use Rattle.rgo_typed.specs.declared.types.Type.{«Type»}
use Rattle.rgo_typed.specs.Tree as typed
use Rattle.rgo_typed.specs.Tree.{Term, Terms, Stmt, no_terms, a_term}
use Rattle.rgo_typing_rules.specs.Types.{element_type_of, is_int, is_chan}
use Rattle.rgo_typing_rules.specs.Shapes as shape
use Rattle.rgo_typing_rules.specs.Shapes.{Shape, fits, is_int_shape}
use Rattle.rgo_typing_rules.specs.declared.meanings.Meaning.{Meaning}
use Rattle.rgo_typing_rules.specs.declared.meanings.Meaning.TheVariants as meaning
use Rattle.rgo_typing_rules.specs.declared.roles.Role.{Role}
use Rattle.rgo_typing_rules.specs.declared.roles.Role.TheVariants as role
use Rattle.rgo_typing_rules.specs.Nodes as node
use Rattle.rgo_typing_rules.specs.Rules.{broken}
use Rattle.rgo_typing_expressions.specs.Callees.{is_place, is_variable}
use Rattle.rgo_typing_expressions.specs.Checking.{own, parts, nodes}
use Rattle.rgo_typing_expressions.specs.Packages.{Context}
use Rattle.rgo_typing_rules.specs.declared.rules.Rule.TheVariants as rule
use Rattle.rgo_typing_rules.proofs.Unbroken.{keeps}
use Rattle.rgo_typing_expressions.specs.Scopes.{meaning_of, variable_type_at, local_at, int}
use Rattle.rgo_typing_rules.specs.Sites.{first_refusal}
use Rattle.rgo_typing_expressions.specs.Types.{type_of, shape_of_meaning, element_shape, field_of, field_shape}
use Rattle.rgo_typing_expressions.specs.Terms.{pair_of_terms, with_type, type_in, element_type, typed_term, name_term, field_term}
use Rattle.rgo_typing_statements.specs.TypedStatements.{with_last, write_of, store_stmt, stored_by, changed, changed_by, assign_stmt}
use Rattle.rgo_typing_statements.specs.TypedStatements.{send_stmt}
use Rattle.rgo_typing_statements.specs.Statements.{assign_sites, send_sites}
use Rattle.rgo_wellformed.specs.TypeRules.{Declared, Returns, Takes, Computes}
use Rattle.rgo_wellformed.specs.WellFormed.{InScope, HasType, HaveTypes, Environment, IsStmt, scope_after}
use Rattle.rgo_typing_laws.proofs.Unbroken.{not_false, and_left, and_right, right, alone, in_three}
use Rattle.rgo_typing_laws.proofs.TypeForms.{int_is, chan_is}
use Rattle.rgo_typing_laws.proofs.Fitting.{Fits, fitted, int_fits, have_two}
use Rattle.rgo_typing_laws.proofs.Values.{IsStruct, Means}
use Rattle.rgo_typing_laws.proofs.Expressions.{well_term}

-- a statement that is well-formed and declares nothing
abbrev pub Stays : Environment → InScope → Stmt → Type 0
Stays env here s = IsStmt env here s × (scope_after here s ≡ here)

-- ---- places

-- a local variable, or the read of what can be written
abbrev pub IsRead : Declared → Term → «Type» → Type 0
IsRead d (typed.Local n) ty = ⊤
IsRead d (typed.Apply read parts u at) ty =
    (write : Action) × (write_of read ≡ Some write)
    × ((operands : List «Type») → Returns d read operands ty → Takes d write (operands ++ ty ∷ []))
IsRead d _ ty = ⊥

module _ (env : Environment) (here : InScope) where
  have_ended : (parts : Terms) (types : List «Type») (t : Term) (ty : «Type»)
      → HaveTypes env.declared env.locals here parts types
      → HasType env.declared env.locals here t ty
      → HaveTypes env.declared env.locals here (with_last parts t) (types ++ ty ∷ [])
  have_ended no_terms types t ty h k = (ty, [], ap (λ l. l ++ ty ∷ []) h, k, refl)
  have_ended (a_term u l) types t ty h k =
      (h.0, h.1 ++ ty ∷ [], ap (λ x. x ++ ty ∷ []) h.2, h.3, have_ended l h.1 t ty h.4 k)

  pub stored_well : (t value : Term) (ty : «Type») (at : ℕ) → HasType env.declared env.locals here t ty
      → IsRead env.declared t ty
      → HasType env.declared env.locals here value ty → Stays env here (store_stmt t value at)
  stored_well (typed.Local n) value ty at h r k = ((ty, h.0, h.1, k), refl)
  stored_well (typed.Apply read parts u read_at) value ty at h r k =
      subst (λ o. Stays env here (stored_by o parts value at)) (sym r.1) (
        (
          h.2 ++ ty ∷ [],
          have_ended parts h.2 value ty h.3 k,
          r.2 h.2 (subst (Returns env.declared read h.2) h.0 h.4),
        ),
        refl,
      )
  stored_well (typed.Logic op a b read_at) value ty at h r k = absurd r
  stored_well (typed.Build n parts fields read_at) value ty at h r k = absurd r
  stored_well (typed.Call n parts u read_at) value ty at h r k = absurd r

  pub changed_well : (op : BinaryOp) (t value : Term) (at : ℕ) → Computes op (int ∷ int ∷ []) int
      → HasType env.declared env.locals here t int
      → IsRead env.declared t int → HasType env.declared env.locals here value int
      → Stays env here (changed op t value at)
  changed_well op (typed.Local n) value at computes h r k = (
    (
      int,
      h.0,
      h.1,
      (
        refl,
        tt,
        int ∷ int ∷ [],
        have_two env.declared env.locals here (typed.Local n) value int int h k,
        computes,
      ),
    ),
    refl,
  )
  changed_well op (typed.Apply read parts u read_at) value at computes h r k =
      subst (λ o. Stays env here (changed_by o read parts u read_at op value at)) (sym r.1) (
        (
          h.2,
          h.3,
          h.1,
          h.4,
          subst (HasType env.declared env.locals here value) (sym h.0) k,
          subst (λ v. Computes op (v ∷ v ∷ []) v) (sym h.0) computes,
          subst (λ v. Takes env.declared r.0 (h.2 ++ v ∷ [])) (sym h.0)
              (r.2 h.2 (subst (Returns env.declared read h.2) h.0 h.4)),
        ),
        refl,
      )
  changed_well op (typed.Logic o a b read_at) value at computes h r k = absurd r
  changed_well op (typed.Build n parts fields read_at) value at computes h r k = absurd r
  changed_well op (typed.Call n parts u read_at) value at computes h r k = absurd r

module _ (c : Context) (d : Declared) (result : Option «Type») (locals : List «Type») (here : InScope)
    (means : (name : List ℕ) → Means c d locals here (meaning_of c name))
    (structs : (n : ℕ) → n < length d.structs → IsStruct c.globals d n) where
  abbrev env : Bool → Environment
  env in_loop = record { declared = d; locals = locals; result_type = result; in_loop = in_loop }

  abbrev Fit : Expr → Type 0
  Fit e = Fits d locals here (type_of c e) (typed_term c e)

  well : (e : Expr) (r : Role) → first_refusal (nodes c r e) ≡ None → Fit e
  well = well_term c d locals here means structs

  -- ---- places

  abbrev IsPlace : Expr → Type 0
  IsPlace e = (ty : «Type») × (type_of c e ≡ shape.Value ty) × IsRead d (typed_term c e) ty

  name_place : (m : Option Meaning) (at : ℕ) → is_variable m ≡ true
      → (ty : «Type») × (shape_of_meaning c m ≡ shape.Value ty) × IsRead d (name_term c m at) ty
  name_place (Some (meaning.Local n)) at v = (local_at c.scope n, refl, tt)
  name_place (Some (meaning.Global n)) at v = (
    variable_type_at c.globals n,
    refl,
    (
      action.Set n,
      refl,
      λ operands gives. (variable_type_at c.globals n, ap (λ l. l ++ variable_type_at c.globals n ∷ []) gives.0, gives.1),
    ),
  )
  name_place None at v = absurd (true≢false (sym v))
  name_place (Some m) at v = absurd (true≢false (sym v))

  field_place : (o : Option (ℕ × «Type»)) (t : Term) (at : ℕ) → broken (node.Selector (is_some o)) ≡ None
      → (ty : «Type») × (field_shape o ≡ shape.Value ty) × IsRead d (field_term o t at) ty
  field_place None t at br = absurd (true≢false (keeps rule.NoSuchField (node.Selector false) br))
  field_place (Some field) t at br = (
    field.1,
    refl,
    (
      action.Store field.0,
      refl,
      λ operands gives. (gives.0, field.1, ap (λ l. l ++ field.1 ∷ []) gives.1, gives.2),
    ),
  )

  index_place : (s i : Shape) (a b : Term) (at : ℕ) → broken (node.Index s i) ≡ None
      → (ty : «Type») × (element_shape s ≡ shape.Value ty)
      × IsRead d (typed.Apply action.At (pair_of_terms a b) (element_type s) at) ty
  index_place (shape.Value u) i a b at br =
      (element_type_of u, refl, (action.Put, refl, λ operands gives. (element_type_of u, ap (λ l. l ++ element_type_of u ∷ []) gives)))
  index_place s i a b at br = absurd (true≢false (keeps rule.NotIndexable (node.Index s i) br))

  pub place : (e : Expr) (r : Role) → is_place c e ≡ true → first_refusal (nodes c r e) ≡ None → IsPlace e
  place (tree.Name x) r v h = name_place (meaning_of c x.name) x.at v
  place (tree.Paren e at) r v h = place e r v h
  place (tree.Select e field) r v h =
      field_place (field_of c.globals (type_of c e) field.name) (typed_term c e) field.at
      (alone field.at (node.Selector (is_some (field_of c.globals (type_of c e) field.name)))
      (right (nodes c role.Value e) (own c r (tree.Select e field)) h))
  place (tree.Index a i at) r v h =
      index_place (type_of c a) (type_of c i) (typed_term c a) (typed_term c i) at
      (alone at (node.Index (type_of c a) (type_of c i))
      (right (parts c (tree.Index a i at)) (own c r (tree.Index a i at)) h))
  place e r v h = absurd (true≢false (sym v))

  -- ---- assignments

  and_false : (a b : Bool) → a && b ≡ false → a ≡ true → b ≡ false
  and_false true b h k = h
  and_false false b h k = absurd (true≢false (sym k))

  value_assigned : (ty : «Type») (t : Shape) (a b : Term) (at : ℕ) (in_loop : Bool) → IsRead d a ty
      → broken (node.Assign true (shape.Value ty) t) ≡ None → Fits d locals here (shape.Value ty) a
      → Fits d locals here t b
      → Stays (env in_loop) here (store_stmt a (with_type ty b) at)
  value_assigned ty t a b at in_loop r br h k =
      stored_well (env in_loop) here a (with_type ty b) ty at h.0 r
      (fitted d locals here ty t b (not_false (fits ty t)
      (keeps rule.NotAssignable (node.Assign true (shape.Value ty) t) br)) h.1 k)

  pub assigned_well : (a b : Expr) (at : ℕ) (in_loop : Bool) → first_refusal (assign_sites c None a b at) ≡ None
      → Stays (env in_loop) here (assign_stmt c None a b at)
  assigned_well a b at in_loop h =
      let n = node.Assign (is_place c a) (type_of c a) (type_of c b) in
      let parts = in_three (nodes c role.Target a) (nodes c role.Value b) at n h in
      let at_place : is_place c a ≡ true = not_false (is_place c a) (keeps rule.NotPlace n parts.2) in
      let left_side = place a role.Target at_place parts.0 in
      let value : Fit b = well b role.Value parts.1 in
      subst (λ s. broken (node.Assign true s (type_of c b)) ≡ None → Fits d locals here s (typed_term c a)
      → Stays (env in_loop) here (store_stmt (typed_term c a) (with_type (type_in s) (typed_term c b)) at))
      (sym left_side.1)
      (λ unbroken fit. value_assigned left_side.0 (type_of c b) (typed_term c a)
      (typed_term c b) at in_loop left_side.2 unbroken fit value)
      (subst (λ x. broken (node.Assign x (type_of c a) (type_of c b)) ≡ None) at_place parts.2)
      (well a role.Target parts.0)

  pub updated_well : (op : BinaryOp) (a : Expr) (s : Shape) (value : Term) (at : ℕ) (in_loop : Bool)
      → Computes op (int ∷ int ∷ []) int → first_refusal (nodes c role.Value a) ≡ None → Fits d locals here s value
      → broken (node.Update op (is_place c a) (type_of c a) s) ≡ None
      → Stays (env in_loop) here (changed op (typed_term c a) value at)
  updated_well op a s value at in_loop computes in_a fit br =
      let n = node.Update op (is_place c a) (type_of c a) s in
      let at_place : is_place c a ≡ true = not_false (is_place c a) (keeps rule.NotPlace n br) in
      let both : is_int_shape (type_of c a) && is_int_shape s ≡ true =
      not_false (is_int_shape (type_of c a) && is_int_shape s) (keeps rule.Mismatch n br) in
      let int_a = and_left (is_int_shape (type_of c a)) (is_int_shape s) both in
      let left_side = place a role.Value at_place in_a in
      let is_int_left : is_int left_side.0 ≡ true = subst (λ x. is_int_shape x ≡ true) left_side.1 int_a in
      changed_well (env in_loop) here op (typed_term c a) value at computes
      (int_fits d locals here (type_of c a) (typed_term c a) int_a (well a role.Value in_a))
      (subst (IsRead d (typed_term c a)) (int_is left_side.0 is_int_left) left_side.2)
      (int_fits d locals here s value (and_right (is_int_shape (type_of c a)) (is_int_shape s) both) fit)

  -- ---- sends

  sent : (s t : Shape) (a b : Term) (at : ℕ) (in_loop : Bool) → broken (node.Send s t) ≡ None
      → Fits d locals here s a → Fits d locals here t b
      → Stays (env in_loop) here (typed.Perform action.Send (pair_of_terms a (with_type (element_type s) b)) at)
  sent (shape.Value u) t a b at in_loop br h k =
      let n = node.Send (shape.Value u) t in
      let element = element_type_of u in
      let chan : is_chan u ≡ true = not_false (is_chan u) (keeps rule.NotChannel n br) in
      let fit : fits element t ≡ true =
      not_false (fits element t) (and_false (is_chan u) (not (fits element t))
      (keeps rule.NotAssignable n br) chan) in (
        (
          u ∷ element ∷ [],
          have_two d locals here a (with_type element b) u element h.0 (fitted d locals here element t b fit h.1 k),
          (element, ap (λ x. x ∷ element ∷ []) (chan_is u chan)),
        ),
        refl,
      )
  sent s t a b at in_loop br h k = absurd (true≢false (keeps rule.NotChannel (node.Send s t) br))

  pub send_well : (a b : Expr) (at : ℕ) (in_loop : Bool) → first_refusal (send_sites c a b at) ≡ None
      → Stays (env in_loop) here (send_stmt c a b at)
  send_well a b at in_loop h =
      let parts =
      in_three (nodes c role.Value a) (nodes c role.Value b) at (node.Send (type_of c a) (type_of c b)) h in
      sent (type_of c a) (type_of c b) (typed_term c a) (typed_term c b) at in_loop parts.2
      (well a role.Value parts.0) (well b role.Value parts.1)
