-- If no node breaks a rule, each expression has a type, by induction on the expression: the sites of its parts come before its own, so
-- they break no rule either, and the rule on the node asks for what its shape needs.
use Rattle.std.proofs.Common.{◌≡◌, ◌++◌, ◌&&◌, ℕ, ℤ, Bool, true, false, not, List, [], ◌∷◌}
use Rattle.std.proofs.Common.{Option, Some, None, is_some, is_none, refl, ap, sym, ◌∙◌, true≢false}
use Rattle.std.specs.List.{list_all}
use Rattle.rgo_ast.specs.Tree as tree
use Rattle.rgo_ast.specs.Tree.{Expr, Exprs, Elements, Capacity}
use Rattle.rgo_ast.specs.declared.ops.UnaryOp.{UnaryOp}
use Rattle.rgo_ast.specs.declared.ops.UnaryOp.TheVariants as unary
use Rattle.rgo_typed.specs.declared.types.Type.{«Type»}
use Rattle.rgo_typing_rules.specs.declared.meanings.Meaning.{Meaning}
use Rattle.rgo_typing_rules.specs.declared.meanings.Meaning.TheVariants as meaning
use Rattle.rgo_typing_rules.specs.declared.roles.Role.{Role}
use Rattle.rgo_typing_rules.specs.declared.roles.Role.TheVariants as role
use Rattle.rgo_typing_rules.specs.Builtins.{result_of}
use Rattle.rgo_typing_rules.specs.Constants.{folded_shape, folded_shapes}
use Rattle.rgo_typing_rules.specs.Nodes as node
use Rattle.rgo_typing_rules.specs.Nodes.{Node, is_target, is_printed, wants_value}
use Rattle.rgo_typing_rules.specs.Rules.{broken}
use Rattle.rgo_typing_rules.specs.declared.rules.Rule.TheVariants as rule
use Rattle.rgo_typing_rules.specs.Shapes as shape
use Rattle.rgo_typing_rules.specs.Shapes.{Shape}
use Rattle.rgo_typing_expressions.specs.declared.callees.Callee.{Callee}
use Rattle.rgo_typing_expressions.specs.declared.callees.Callee.TheVariants as callee
use Rattle.rgo_typing_expressions.specs.Callees.{callee_of, role_if, is_package_selector, selects_println, without_parens, args_role}
use Rattle.rgo_typing_expressions.specs.Checking.{own, parts, nodes, all_nodes, element_nodes, capacity_nodes, callee_nodes}
use Rattle.rgo_typing_expressions.specs.Checking.{call_node, call_place, type_expr_sites, base_site, values_of}
use Rattle.rgo_typing_expressions.specs.Laws.{is_typed, TypedWhereUnbroken, TypedParts, room_in}
use Rattle.rgo_typing_expressions.specs.Packages.{Package, Context}
use Rattle.rgo_typing_expressions.specs.Scopes.{meaning_of, signature_at}
use Rattle.rgo_typing_rules.specs.Sites.{Site, first_refusal, refused_at, earlier}
use Rattle.rgo_typing_rules.specs.declared.rules.Rule.{Rule}
use Rattle.rgo_typing_rules.specs.declared.errors.TypeRefusal.{TypeRefusal}
use Rattle.rgo_typing_expressions.specs.Types.{type_of, types_of, shape_of_meaning, element_shape, field_of, field_shape}
use Rattle.rgo_typing_expressions.specs.Types.{constant_or, unary_shape, binary_type, result_shape, call_shape}
use Rattle.rgo_typing_rules.proofs.Refusals.{first_of_both}
use Rattle.rgo_typing_rules.proofs.Unbroken.{keeps}

-- ---- a node that breaks no rule

not_false : (b : Bool) → not b ≡ false → b ≡ true
not_false true h = refl
not_false false h = sym h

-- ---- lists in which no node breaks a rule

none_left : (a b : Option TypeRefusal) → earlier a b ≡ None → a ≡ None
none_left None b h = refl
none_left (Some f) b h = h

none_right : (a b : Option TypeRefusal) → earlier a b ≡ None → b ≡ None
none_right None b h = h
none_right (Some f) b h = absurd (true≢false (ap is_some h))

left : (l m : List Site) → first_refusal (l ++ m) ≡ None → first_refusal l ≡ None
left l m h = none_left (first_refusal l) (first_refusal m) (sym (first_of_both l m) ∙ h)

right : (l m : List Site) → first_refusal (l ++ m) ≡ None → first_refusal m ≡ None
right l m h = none_right (first_refusal l) (first_refusal m) (sym (first_of_both l m) ∙ h)

unplaced : (at : ℕ) (o : Option Rule) → refused_at at o ≡ None → o ≡ None
unplaced at None h = refl
unplaced at (Some rule) h = absurd (true≢false (ap is_some h))

alone : (at : ℕ) (n : Node) → first_refusal ((at, n) ∷ []) ≡ None → broken n ≡ None
alone at n h = unplaced at (broken n) (none_left (refused_at at (broken n)) None h)

-- ---- by what the expression is

name_typed : (c : Context) (r : Role) (m : Option Meaning) → is_target r ≡ false
    → broken (node.Name r m) ≡ None → is_typed r (shape_of_meaning c m) ≡ true
name_typed c r None t h = absurd (true≢false (keeps rule.NoSuchName (node.Name r None) h))
name_typed c r (Some (meaning.Local n)) t h = refl
name_typed c r (Some (meaning.Global n)) t h = refl
name_typed c r (Some (meaning.Truth b)) t h = refl
name_typed c r (Some meaning.Nil) t h = refl
name_typed c r (Some m) t h =
    absurd (true≢false (sym (ap not t) ∙ keeps rule.NotValue (node.Name r (Some m)) h))

element_typed : (r : Role) (s i : Shape) → broken (node.Index s i) ≡ None → is_typed r (element_shape s) ≡ true
element_typed r (shape.Value t) i h = refl
element_typed r s i h = absurd (true≢false (keeps rule.NotIndexable (node.Index s i) h))

received_typed : (r : Role) (s : Shape) → broken (node.Unary unary.Receive s) ≡ None
    → is_typed r (element_shape s) ≡ true
received_typed r (shape.Value t) h = refl
received_typed r s h = absurd (true≢false (keeps rule.NotChannel (node.Unary unary.Receive s) h))

constant_typed : (r : Role) (o : Option ℤ) (s : Shape) → is_typed r s ≡ true → is_typed r (constant_or o s) ≡ true
constant_typed r None s h = h
constant_typed r (Some n) s h = refl

unary_typed : (r : Role) (op : UnaryOp) (s : Shape) → broken (node.Unary op s) ≡ None
    → is_typed r (unary_shape op s) ≡ true
unary_typed r unary.Plus s h = refl
unary_typed r unary.Minus s h = refl
unary_typed r unary.Not s h = refl
unary_typed r unary.Receive s h = received_typed r s h

field_typed : (r : Role) (o : Option (ℕ × «Type»)) → broken (node.Selector (is_some o)) ≡ None
    → is_typed r (field_shape o) ≡ true
field_typed r None h = absurd (true≢false (keeps rule.NoSuchField (node.Selector false) h))
field_typed r (Some field) h = refl

result_typed : (r : Role) (o : Option «Type») → is_none o && wants_value r ≡ false → is_typed r (result_shape o) ≡ true
result_typed r None h = ap not h
result_typed r (Some t) h = refl

call_typed : (p : Package) (r : Role) (c : Callee) (args : List Shape) → broken (call_node p r c args) ≡ None
    → is_typed r (call_shape p c) ≡ true
call_typed p r (callee.Missing at) args h = absurd (true≢false (keeps rule.NoSuchName node.CallMissing h))
call_typed p r callee.Nothing args h = absurd (true≢false (keeps rule.NotCall node.CallNothing h))
call_typed p r (callee.Builtin b) args h =
    result_typed r (result_of b) (keeps rule.NoResult (node.CallBuiltin b r args) h)
call_typed p r (callee.Routine n) args h =
    result_typed r (signature_at p n).result_type (keeps rule.NoResult (node.Call r (signature_at p n) args) h)

own_typed : (c : Context) (r : Role) (e : Expr) → is_target r ≡ false
    → first_refusal (own c r e) ≡ None → is_typed r (type_of c e) ≡ true
own_typed c r (tree.Number n at) t h = refl
own_typed c r (tree.Text bytes at) t h = not_false (is_printed r) (keeps rule.StringPlace (node.Text r) (alone at (node.Text r) h))
own_typed c r (tree.Name x) t h =
    name_typed c r (meaning_of c x.name) t (alone x.at (node.Name r (meaning_of c x.name)) h)
own_typed c r (tree.Paren e at) t h = own_typed c r e t h
own_typed c r (tree.New x at) t h = refl
own_typed c r (tree.MakeSlice ty e at) t h = refl
own_typed c r (tree.MakeChan ty room at) t h = refl
own_typed c r (tree.Select e field) t h =
    field_typed r (field_of c.globals (type_of c e) field.name)
    (alone field.at (node.Selector (is_some (field_of c.globals (type_of c e) field.name))) h)
own_typed c r (tree.Index a i at) t h =
    element_typed r (type_of c a) (type_of c i) (alone at (node.Index (type_of c a) (type_of c i)) h)
own_typed c r (tree.Called f args at) t h =
    call_typed c.globals r (callee_of c f) (types_of c args)
    (alone (call_place at (callee_of c f)) (call_node c.globals r (callee_of c f) (types_of c args)) h)
own_typed c r (tree.Unary op e at) t h =
    constant_typed r (folded_shape op (type_of c e)) (unary_shape op (type_of c e))
    (unary_typed r op (type_of c e) (alone at (node.Unary op (type_of c e)) h))
own_typed c r (tree.Binary op a b at) t h =
    constant_typed r (folded_shapes op (type_of c a) (type_of c b)) (shape.Value (binary_type op)) refl
own_typed c r (tree.Literal x values at) t h = refl
own_typed c r (tree.Keyed x members at) t h = refl

pub typed_where_unbroken : TypedWhereUnbroken
typed_where_unbroken c r e t h = own_typed c r e t (right (parts c e) (own c r e) h)

-- ---- parts

both : (a b : Bool) → a ≡ true → b ≡ true → a && b ≡ true
both true b h k = k
both false b h k = h

all_typed : (c : Context) (r : Role) (l : Exprs) → is_target r ≡ false
    → first_refusal (all_nodes c r l) ≡ None → list_all (is_typed r) (types_of c l) ≡ true
all_typed c r tree.no_exprs t h = refl
all_typed c r (tree.an_expr e l) t h =
    both (is_typed r (type_of c e)) (list_all (is_typed r) (types_of c l))
    (typed_where_unbroken c r e t (left (nodes c r e) (all_nodes c r l) h))
    (all_typed c r l t (right (nodes c r e) (all_nodes c r l) h))

elements_typed : (c : Context) (l : Elements) → first_refusal (element_nodes c l) ≡ None
    → list_all (is_typed role.Value) (types_of c (values_of l)) ≡ true
elements_typed c tree.no_elements h = refl
elements_typed c (tree.an_element x e l) h =
    both (is_typed role.Value (type_of c e)) (list_all (is_typed role.Value) (types_of c (values_of l)))
    (typed_where_unbroken c role.Value e refl (left (nodes c role.Value e) (element_nodes c l) h))
    (elements_typed c l (right (nodes c role.Value e) (element_nodes c l) h))

value_typed : (c : Context) (e : Expr) → first_refusal (nodes c role.Value e) ≡ None
    → list_all (is_typed role.Value) (type_of c e ∷ []) ≡ true
value_typed c e h =
    both (is_typed role.Value (type_of c e)) true (typed_where_unbroken c role.Value e refl h) refl

values_typed : (c : Context) (a b : Expr)
    → first_refusal (nodes c role.Value a ++ nodes c role.Value b) ≡ None
    → list_all (is_typed role.Value) (type_of c a ∷ type_of c b ∷ []) ≡ true
values_typed c a b h =
    both (is_typed role.Value (type_of c a)) (list_all (is_typed role.Value) (type_of c b ∷ []))
    (typed_where_unbroken c role.Value a refl (left (nodes c role.Value a) (nodes c role.Value b) h))
    (value_typed c b (right (nodes c role.Value a) (nodes c role.Value b) h))

room_typed : (c : Context) (room : Capacity) → first_refusal (capacity_nodes c room) ≡ None
    → list_all (is_typed role.Value) (types_of c (room_in room)) ≡ true
room_typed c tree.no_capacity h = refl
room_typed c (tree.a_capacity e) h = value_typed c e h

no_target : (b : Bool) → is_target (role_if b) ≡ false
no_target true = refl
no_target false = refl

pub typed_parts : TypedParts
typed_parts c (tree.Paren e at) h = typed_parts c e h
typed_parts c (tree.MakeSlice ty e at) h = value_typed c e (right (type_expr_sites c ty) (nodes c role.Value e) h)
typed_parts c (tree.MakeChan ty room at) h =
    room_typed c room (right (type_expr_sites c ty) (capacity_nodes c room) h)
typed_parts c (tree.Select e field) h = value_typed c e h
typed_parts c (tree.Index a i at) h = values_typed c a i h
typed_parts c (tree.Called f args at) h =
    all_typed c (args_role c f) args (no_target (is_package_selector c f && selects_println (without_parens f)))
    (right (callee_nodes c f) (all_nodes c (args_role c f) args) h)
typed_parts c (tree.Unary op e at) h = value_typed c e h
typed_parts c (tree.Binary op a b at) h = values_typed c a b h
typed_parts c (tree.Literal x values at) h =
    all_typed c role.Value values refl (right (base_site c x ∷ []) (all_nodes c role.Value values) h)
typed_parts c (tree.Keyed x members at) h =
    elements_typed c members (right (base_site c x ∷ []) (element_nodes c members) h)
typed_parts c _ h = refl
