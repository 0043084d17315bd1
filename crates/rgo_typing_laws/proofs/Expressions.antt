-- If no node of an expression breaks a rule, its term is well-formed and has its type, by induction on the expression. Each case takes
-- the list of sites apart (`Unbroken`) and cites the lemma on its operation (`Fitting`, `Values`, `Literals`).
use Rattle.std.proofs.Common.{◌≡◌, ◌<◌, ℕ, pos, Bool, true, false, List, [], ◌∷◌, length}
use Rattle.std.proofs.Common.{Option, Some, None, is_some, refl, true≢false}
use Rattle.rgo_ast.specs.Tree as tree
use Rattle.rgo_ast.specs.Tree.{Expr, Exprs, Elements, Capacity}
use Rattle.rgo_typed.specs.declared.actions.Action.TheVariants as action
use Rattle.rgo_typed.specs.declared.types.Type.{«Type»}
use Rattle.rgo_typed.specs.declared.types.Base.{Base}
use Rattle.rgo_typed.specs.declared.types.Base.TheVariants as base
use Rattle.rgo_typed.specs.declared.types.Layer.{Layer}
use Rattle.rgo_typed.specs.Tree.{Term, Apply}
use Rattle.rgo_typing_rules.specs.Types.{plain, slice_of, chan_of}
use Rattle.rgo_typing_rules.specs.Shapes as shape
use Rattle.rgo_typing_rules.specs.Shapes.{Shape, is_int_shape}
use Rattle.rgo_typing_rules.specs.declared.builtins.Builtin.{Builtin}
use Rattle.rgo_typing_rules.specs.Builtins.{of_fmt, named}
use Rattle.rgo_typing_rules.specs.declared.meanings.Meaning.{Meaning}
use Rattle.rgo_typing_rules.specs.declared.meanings.Meaning.TheVariants as meaning
use Rattle.rgo_typing_rules.specs.declared.roles.Role.{Role}
use Rattle.rgo_typing_rules.specs.declared.roles.Role.TheVariants as role
use Rattle.rgo_typing_rules.specs.Nodes as node
use Rattle.rgo_typing_rules.specs.Rules.{broken}
use Rattle.rgo_scopes.specs.Blocks.{found, no_names}
use Rattle.rgo_typing_expressions.specs.declared.callees.Callee.TheVariants as callee
use Rattle.rgo_typing_expressions.specs.Callees.{callee_of, bare_callee, named_callee, selected_callee}
use Rattle.rgo_typing_expressions.specs.Callees.{builtin_callee, package_callee, without_parens, args_role}
use Rattle.rgo_typing_expressions.specs.Checking.{own, parts, nodes, all_nodes, element_nodes, capacity_nodes}
use Rattle.rgo_typing_expressions.specs.Checking.{capacity_own, callee_nodes}
use Rattle.rgo_typing_expressions.specs.Checking.{call_node, call_place, type_expr_sites, base_site, values_of}
use Rattle.rgo_typing_expressions.specs.Checking.{has_twice, struct_types, element_types, struct_number}
use Rattle.rgo_typing_expressions.specs.Scopes.{meaning_of, fields_at, int, resolved, base_of, basic_base, pointer_base}
use Rattle.rgo_typing_rules.specs.Sites.{first_refusal}
use Rattle.rgo_typing_expressions.specs.Types.{type_of, types_of, shape_of_meaning, field_of, field_of_struct}
use Rattle.rgo_typing_expressions.specs.Types.{field_shape, numbered_field, struct_in}
use Rattle.rgo_typing_expressions.specs.Types.{pointer_shape}
use Rattle.rgo_typing_expressions.specs.Terms.{atom, one, name_term, field_term}
use Rattle.rgo_typing_expressions.specs.Terms.{typed_term, capacity_term}
use Rattle.rgo_wellformed.specs.TypeRules.{Declared, IsBase, pointer_to}
use Rattle.rgo_wellformed.specs.WellFormed.{InScope, HasType}
use Rattle.rgo_typing_laws.proofs.Unbroken.{not_false, left, right, alone}
use Rattle.rgo_typing_laws.proofs.TypeForms.{ty_in}
use Rattle.rgo_typing_expressions.specs.Packages.{Context}
use Rattle.rgo_typing_rules.specs.declared.rules.Rule.TheVariants as rule
use Rattle.rgo_typing_rules.proofs.Unbroken.{keeps}
use Rattle.rgo_typing_laws.proofs.Fitting.{Fits, int_fits, a_constant, have_one, unary_fits, binary_fits, index_fits}
use Rattle.rgo_typing_laws.proofs.Values.{IsStruct, Calls, Means, AllFit, call_fits}
use Rattle.rgo_typing_laws.proofs.Literals.{EachFits, literal_fits, keyed_fits}

module _ (c : Context) (d : Declared) (locals : List «Type») (here : InScope) where
  -- ---- names and fields

  name_fits : (m : Option Meaning) (at : ℕ) → Means c d locals here m
      → Fits d locals here (shape_of_meaning c m) (name_term c m at)
  name_fits (Some (meaning.Local n)) at k = ((k.0, k.1), k.2)
  name_fits (Some (meaning.Global n)) at k = ((refl, k.1, [], refl, (refl, k.0)), k.1)
  name_fits (Some (meaning.Truth b)) at k = ((refl, tt, [], refl, (refl, refl)), tt)
  name_fits (Some meaning.Nil) at k = (at, int, refl)
  name_fits m at k = tt

  load_fits : (n : ℕ) (name : List ℕ) (t : Term) (at : ℕ) (o : Option ℕ)
      → found name (fields_at c.globals n).numbers ≡ o → IsStruct c.globals d n
      → HasType d locals here t (pointer_to n)
      → broken (node.Selector (is_some (numbered_field (fields_at c.globals n) o))) ≡ None
      → Fits d locals here (field_shape (numbered_field (fields_at c.globals n) o)) (field_term
      (numbered_field (fields_at c.globals n) o) t at)
  load_fits n name t at None is s h br = absurd (true≢false (keeps rule.NoSuchField (node.Selector false) br))
  load_fits n name t at (Some k) is s h br = (
    (
      refl,
      (s.fields name k is).1,
      pointer_to n ∷ [],
      have_one d locals here t (pointer_to n) h,
      (n, refl, ((fields_at c.globals n).types, s.listed, (s.fields name k is).0)),
    ),
    (s.fields name k is).1,
  )

  select_in : (layers : List Layer) (b : Base) (name : List ℕ) (t : Term) (at : ℕ)
      → ((n : ℕ) → n < length d.structs → IsStruct c.globals d n)
      → HasType d locals here t (ty_in layers b) → IsBase d b
      → broken (node.Selector (is_some (field_of_struct c.globals (struct_in layers b) name))) ≡ None
      → Fits d locals here (field_shape (field_of_struct c.globals (struct_in layers b) name)) (field_term
      (field_of_struct c.globals (struct_in layers b) name) t at)
  select_in [] (base.Pointer n) name t at structs h k br =
      load_fits n name t at (found name (fields_at c.globals n).numbers) refl (structs n k) h br
  select_in [] b name t at structs h k br = absurd (true≢false (keeps rule.NoSuchField (node.Selector false) br))
  select_in (layer ∷ layers) b name t at structs h k br =
      absurd (true≢false (keeps rule.NoSuchField (node.Selector false) br))

  select_fits : (s : Shape) (name : List ℕ) (t : Term) (at : ℕ)
      → ((n : ℕ) → n < length d.structs → IsStruct c.globals d n)
      → Fits d locals here s t → broken (node.Selector (is_some (field_of c.globals s name))) ≡ None
      → Fits d locals here (field_shape (field_of c.globals s name)) (field_term (field_of c.globals s name) t at)
  select_fits (shape.Value u) name t at structs h br = select_in u.layers u.base name t at structs h.0 h.1 br
  select_fits s name t at structs h br = absurd (true≢false (keeps rule.NoSuchField (node.Selector false) br))

  -- ---- callees

  pub named_calls : (at : ℕ) (m : Option Meaning) → Means c d locals here m → Calls c.globals d (named_callee at m)
  named_calls at (Some (meaning.Function n)) k = k
  named_calls at (Some (meaning.Package false)) k = tt
  named_calls at (Some (meaning.Package true)) k = tt
  named_calls at None k = tt
  named_calls at (Some m) k = tt

  package_calls : (at : ℕ) (m : Option Meaning) (name : List ℕ) → Calls c.globals d (package_callee at m name)
  package_calls at (Some (meaning.Package true)) name = by (named of_fmt name)
    where
      by : (o : Option Builtin) → Calls c.globals d (builtin_callee o)
      by None = tt
      by (Some b) = tt
  package_calls at (Some (meaning.Package false)) name = tt
  package_calls at m name = tt

  selected_calls : (e : Expr) (name : List ℕ) → Calls c.globals d (selected_callee c e name)
  selected_calls (tree.Name x) name = package_calls x.at (meaning_of c x.name) name
  selected_calls e name = tt

  module _ (means : (name : List ℕ) → Means c d locals here (meaning_of c name))
      (structs : (n : ℕ) → n < length d.structs → IsStruct c.globals d n) where
    pub bare_calls : (e : Expr) → Calls c.globals d (bare_callee c e)
    bare_calls (tree.Name x) = named_calls x.at (meaning_of c x.name) (means x.name)
    bare_calls (tree.Select e field) = selected_calls (without_parens e) field.name
    bare_calls e = tt

    -- ---- types as they are written

    basic_known : (m : Option Meaning) → Means c d locals here m → IsBase d (basic_base m)
    basic_known (Some (meaning.Basic b)) k = k
    basic_known None k = tt
    basic_known (Some m) k = tt

    pointer_known : (m : Option Meaning) → Means c d locals here m → IsBase d (pointer_base m)
    pointer_known (Some (meaning.Struct n)) k = k
    pointer_known None k = tt
    pointer_known (Some m) k = tt

    pub base_known : (ty : tree.TypeExpr) → IsBase d (base_of c ty)
    base_known (tree.Named x) = basic_known (meaning_of c x.name) (means x.name)
    base_known (tree.Pointer x at) = pointer_known (meaning_of c x.name) (means x.name)
    base_known (tree.Slice ty at) = base_known ty
    base_known (tree.Chan ty at) = base_known ty

    new_fits : (m : Option Meaning) (at : ℕ) → Means c d locals here m → broken (node.Pointed m) ≡ None
        → Fits d locals here (pointer_shape m) (atom (action.New (struct_number m)) (plain (pointer_base m)) at)
    new_fits (Some (meaning.Struct n)) at k br = ((refl, k, [], refl, (refl, refl, k)), k)
    new_fits None at k br = absurd (true≢false (keeps rule.PointerBase (node.Pointed None) br))
    new_fits (Some m) at k br = absurd (true≢false (keeps rule.PointerBase (node.Pointed (Some m)) br))

    slice_fits : (ty : tree.TypeExpr) (s : Shape) (t : Term) (at : ℕ) → broken (node.Size s) ≡ None
        → Fits d locals here s t
        → Fits d locals here (shape.Value (slice_of (resolved c ty))) (Apply action.Slice (one t)
        (slice_of (resolved c ty)) at)
    slice_fits ty s t at br h = (
      (
        refl,
        base_known ty,
        int ∷ [],
        have_one d locals here t int (int_fits d locals here s t
            (not_false (is_int_shape s) (keeps rule.NotInt (node.Size s) br)) h),
        (refl, resolved c ty, refl),
      ),
      base_known ty,
    )

    chan_fits : (ty : tree.TypeExpr) (t : Term) (at : ℕ) → HasType d locals here t int
        → Fits d locals here (shape.Value (chan_of (resolved c ty))) (Apply action.Chan (one t)
        (chan_of (resolved c ty)) at)
    chan_fits ty t at h =
        ((refl, base_known ty, int ∷ [], have_one d locals here t int h, (refl, resolved c ty, refl)), base_known ty)

    room_fits : (ty : tree.TypeExpr) (s : Shape) (t : Term) → broken (node.Size s) ≡ None → Fits d locals here s t
        → HasType d locals here t int
    room_fits ty s t br h =
        int_fits d locals here s t (not_false (is_int_shape s) (keeps rule.NotInt (node.Size s) br)) h

    -- ---- expressions

    in_parts : (r : Role) (e : Expr) → first_refusal (nodes c r e) ≡ None → first_refusal (parts c e) ≡ None
    in_parts r e h = left (parts c e) (own c r e) h

    in_own : (r : Role) (e : Expr) → first_refusal (nodes c r e) ≡ None → first_refusal (own c r e) ≡ None
    in_own r e h = right (parts c e) (own c r e) h

    mutual
      pub well_term : (e : Expr) (r : Role) → first_refusal (nodes c r e) ≡ None
          → Fits d locals here (type_of c e) (typed_term c e)
      well_term (tree.Number n at) r h = a_constant d locals here (pos n) at
      well_term (tree.Text bytes at) r h = tt
      well_term (tree.Name x) r h = name_fits (meaning_of c x.name) x.at (means x.name)
      well_term (tree.Paren e at) r h = well_term e r h
      well_term (tree.New x at) r h =
          new_fits (meaning_of c x.name) at (means x.name)
          (alone at (node.Pointed (meaning_of c x.name)) (in_own r (tree.New x at) h))
      well_term (tree.MakeSlice ty e at) r h =
          slice_fits ty (type_of c e) (typed_term c e) at
          (alone at (node.Size (type_of c e)) (in_own r (tree.MakeSlice ty e at) h))
          (well_term e role.Value
          (right (type_expr_sites c ty) (nodes c role.Value e) (in_parts r (tree.MakeSlice ty e at) h)))
      well_term (tree.MakeChan ty room at) r h =
          chan_fits ty (capacity_term c room at) at
          (well_room room ty at
          (right (type_expr_sites c ty) (capacity_nodes c room) (in_parts r (tree.MakeChan ty room at) h))
          (in_own r (tree.MakeChan ty room at) h))
      well_term (tree.Select e field) r h =
          select_fits (type_of c e) field.name (typed_term c e) field.at structs
          (well_term e role.Value (in_parts r (tree.Select e field) h))
          (alone field.at (node.Selector (is_some (field_of c.globals (type_of c e) field.name)))
          (in_own r (tree.Select e field) h))
      well_term (tree.Index a i at) r h =
          let both = in_parts r (tree.Index a i at) h in
          index_fits d locals here (type_of c a) (type_of c i) (typed_term c a) (typed_term c i) at
          (alone at (node.Index (type_of c a) (type_of c i)) (in_own r (tree.Index a i at) h))
          (well_term a role.Value (left (nodes c role.Value a) (nodes c role.Value i) both))
          (well_term i role.Value (right (nodes c role.Value a) (nodes c role.Value i) both))
      well_term (tree.Called f args at) r h =
          call_fits c d locals here r (callee_of c f) args at (bare_calls (without_parens f))
          (well_terms args (args_role c f)
          (right (callee_nodes c f) (all_nodes c (args_role c f) args) (in_parts r (tree.Called f args at) h)))
          (alone (call_place at (callee_of c f)) (call_node c.globals r (callee_of c f) (types_of c args))
          (in_own r (tree.Called f args at) h))
      well_term (tree.Unary op e at) r h =
          unary_fits d locals here op (type_of c e) (typed_term c e) at
          (alone at (node.Unary op (type_of c e)) (in_own r (tree.Unary op e at) h))
          (well_term e role.Value (in_parts r (tree.Unary op e at) h))
      well_term (tree.Binary op a b at) r h =
          let both = in_parts r (tree.Binary op a b at) h in
          binary_fits d locals here op (type_of c a) (type_of c b) (typed_term c a) (typed_term c b) at
          (alone at (node.Binary op (type_of c a) (type_of c b)) (in_own r (tree.Binary op a b at) h))
          (well_term a role.Value (left (nodes c role.Value a) (nodes c role.Value b) both))
          (well_term b role.Value (right (nodes c role.Value a) (nodes c role.Value b) both))
      well_term (tree.Literal x values at) r h =
          literal_fits c d locals here (meaning_of c x.name) values at structs (means x.name)
          (well_terms values role.Value
          (right (base_site c x ∷ []) (all_nodes c role.Value values) (in_parts r (tree.Literal x values at) h)))
          (alone at (node.Literal (struct_types c.globals (meaning_of c x.name)) (types_of c values))
          (in_own r (tree.Literal x values at) h))
      well_term (tree.Keyed x members at) r h =
          let known = element_types c.globals (meaning_of c x.name) members in
          keyed_fits c d locals here (meaning_of c x.name) members at structs (means x.name)
          (well_elements members
          (right (base_site c x ∷ []) (element_nodes c members) (in_parts r (tree.Keyed x members at) h)))
          (alone at (node.Keyed known (has_twice no_names members) (types_of c (values_of members)))
          (in_own r (tree.Keyed x members at) h))

      pub well_terms : (l : Exprs) (r : Role) → first_refusal (all_nodes c r l) ≡ None → AllFit c d locals here l
      well_terms tree.no_exprs r h = tt
      well_terms (tree.an_expr e l) r h = (
        well_term e r (left (nodes c r e) (all_nodes c r l) h),
        well_terms l r (right (nodes c r e) (all_nodes c r l) h),
      )

      well_elements : (l : Elements) → first_refusal (element_nodes c l) ≡ None → EachFits c d locals here l
      well_elements tree.no_elements h = tt
      well_elements (tree.an_element x e l) h = (
        well_term e role.Value (left (nodes c role.Value e) (element_nodes c l) h),
        well_elements l (right (nodes c role.Value e) (element_nodes c l) h),
      )

      well_room : (room : Capacity) (ty : tree.TypeExpr) (at : ℕ) → first_refusal (capacity_nodes c room) ≡ None
          → first_refusal (capacity_own c room at) ≡ None → HasType d locals here (capacity_term c room at) int
      well_room tree.no_capacity ty at h k = a_constant d locals here (pos 0) at
      well_room (tree.a_capacity e) ty at h k =
          room_fits ty (type_of c e) (typed_term c e) (alone at (node.Size (type_of c e)) k) (well_term e role.Value h)
