-- Returns, calls and prints: if no node of one breaks a rule, its typed statement is well-formed. The hard case is a print: its terms
-- are those of its operands without the strings, so the pieces have to be matched with the rest.
use Rattle.std.proofs.Common.{◌≡◌, ◌&&◌, ◌==◌, ◌<◌, ℕ, ℤ, Bool, true, false, not, List, [], ◌∷◌, length}
use Rattle.std.proofs.Common.{Option, Some, None, is_some, refl, ap, sym, true≢false, eqb-true, arith}
use Rattle.rgo_ast.specs.Tree as tree
use Rattle.rgo_ast.specs.Tree.{Expr, Exprs}
use Rattle.rgo_ast.specs.declared.ops.UnaryOp.{UnaryOp}
use Rattle.rgo_ast.specs.declared.ops.UnaryOp.TheVariants as unary
use Rattle.rgo_typed.specs.declared.actions.Action.TheVariants as action
use Rattle.rgo_typed.specs.declared.statements.Piece.{Piece}
use Rattle.rgo_typed.specs.declared.types.Type.{«Type»}
use Rattle.rgo_typed.specs.Tree as typed
use Rattle.rgo_typed.specs.Tree.{Term, Terms}
use Rattle.rgo_typing_rules.specs.Types.{element_type_of}
use Rattle.rgo_typing_rules.specs.Shapes as shape
use Rattle.rgo_typing_rules.specs.Shapes.{Shape, fits, has_misfit, has_nil, has_pointer, is_bool_shape, is_chan_shape}
use Rattle.rgo_typing_rules.specs.Shapes.{is_nil_shape, is_pointer_shape}
use Rattle.rgo_typing_rules.specs.Constants.{folded_shape, folded_shapes}
use Rattle.rgo_typing_rules.specs.declared.builtins.Builtin.TheVariants as builtin
use Rattle.rgo_typing_rules.specs.Builtins.{result_of}
use Rattle.rgo_typing_rules.specs.declared.meanings.Meaning.{Meaning}
use Rattle.rgo_typing_rules.specs.declared.meanings.Meaning.TheVariants as meaning
use Rattle.rgo_typing_rules.specs.declared.roles.Role.{Role}
use Rattle.rgo_typing_rules.specs.declared.roles.Role.TheVariants as role
use Rattle.rgo_typing_rules.specs.Nodes as node
use Rattle.rgo_typing_rules.specs.Nodes.{is_target}
use Rattle.rgo_typing_rules.specs.Rules.{broken}
use Rattle.rgo_typing_expressions.specs.declared.callees.Callee.{Callee}
use Rattle.rgo_typing_expressions.specs.declared.callees.Callee.TheVariants as callee
use Rattle.rgo_typing_expressions.specs.Callees.{callee_of, without_parens, args_role, role_if, bare_may_stand, has_effect}
use Rattle.rgo_typing_expressions.specs.Callees.{is_package_selector, selects_println}
use Rattle.rgo_typing_expressions.specs.Checking.{own, parts, nodes, all_nodes, callee_nodes, call_node, call_place}
use Rattle.rgo_typing_expressions.specs.Laws.{is_typed}
use Rattle.rgo_typing_expressions.specs.Packages.{Context}
use Rattle.rgo_typing_rules.specs.declared.rules.Rule.TheVariants as rule
use Rattle.rgo_typing_rules.proofs.Unbroken.{keeps}
use Rattle.rgo_typing_expressions.specs.Scopes.{meaning_of, signature_at, int, bool}
use Rattle.rgo_typing_rules.specs.Sites.{first_refusal}
use Rattle.rgo_typing_expressions.specs.Types.{type_of, types_of, shape_of_meaning, element_shape, field_of}
use Rattle.rgo_typing_expressions.specs.Types.{field_shape, constant_or, unary_shape, binary_type, result_shape}
use Rattle.rgo_typing_expressions.specs.Types.{call_shape}
use Rattle.rgo_typing_expressions.specs.Terms.{one, typed_term, all_terms, wanted_of, result_or_int, unary_term}
use Rattle.rgo_typing_expressions.proofs.Typed.{typed_where_unbroken}
use Rattle.rgo_typing_statements.specs.TypedStatements.{bare_plain, call_stmt, called_stmt, printed_pieces, piece_of, printed_terms}
use Rattle.rgo_typing_statements.specs.TypedStatements.{unless_text, is_text, go_stmt, returned}
use Rattle.rgo_typing_statements.specs.Statements.{go_site, optional_type, optional_nodes}
use Rattle.rgo_wellformed.specs.TypeRules.{Declared, Takes}
use Rattle.rgo_wellformed.specs.WellFormed.{InScope, HasType, HaveTypes, Environment, MatchPieces, IsPrinted, IsResult}
use Rattle.rgo_typing_laws.proofs.Unbroken.{not_false, or_left, or_right, left, right, alone}
use Rattle.rgo_typing_laws.proofs.TypeForms.{chan_is}
use Rattle.rgo_typing_laws.proofs.Fitting.{Fits, fitted, bool_fits, have_one}
use Rattle.rgo_typing_laws.proofs.Values.{declared_signature, IsStruct, IsCallee, Calls, Means, AllFit, arguments_have}
use Rattle.rgo_typing_laws.proofs.Expressions.{well_term, well_terms, bare_calls}
use Rattle.rgo_typing_laws.proofs.Assignments.{Stays}

-- ---- what is printed

abbrev is_text_shape : Shape → Bool
is_text_shape shape.Text = true
is_text_shape _ = false

module _ (c : Context) (d : Declared) (result : Option «Type») (locals : List «Type») (here : InScope)
    (means : (name : List ℕ) → Means c d locals here (meaning_of c name))
    (structs : (n : ℕ) → n < length d.structs → IsStruct c.globals d n) where
  abbrev env : Bool → Environment
  env in_loop = record { declared = d; locals = locals; result_type = result; in_loop = in_loop }

  abbrev Fit : Expr → Type 0
  Fit e = Fits d locals here (type_of c e) (typed_term c e)

  well : (e : Expr) (r : Role) → first_refusal (nodes c r e) ≡ None → Fit e
  well = well_term c d locals here means structs

  -- ---- returns, conditions

  pub return_well : (o : Option «Type») (value : Option Expr) (at : ℕ) (in_loop : Bool) → result ≡ o → IsResult d o
      → first_refusal (optional_nodes c value) ≡ None → broken (node.Return o (optional_type c value)) ≡ None
      → Stays (env in_loop) here (typed.Return (returned o c value) at)
  return_well None None at in_loop is k h br = (is, refl)
  return_well None (Some e) at in_loop is k h br =
      absurd (true≢false (keeps rule.ReturnCount (node.Return None (Some (type_of c e))) br))
  return_well (Some t) None at in_loop is k h br =
      absurd (true≢false (keeps rule.ReturnCount (node.Return (Some t) None) br))
  return_well (Some t) (Some e) at in_loop is k h br =
      let n = node.Return (Some t) (Some (type_of c e)) in
      let fit = not_false (fits t (type_of c e)) (keeps rule.NotAssignable n br) in
      ((t, is, fitted d locals here t (type_of c e) (typed_term c e) fit k (well e role.Value h)), refl)

  pub condition_well : (e : Expr) (at : ℕ) → first_refusal (nodes c role.Value e) ≡ None
      → first_refusal ((at, node.Condition (type_of c e)) ∷ []) ≡ None → HasType d locals here (typed_term c e) bool
  condition_well e at h k =
      let n = node.Condition (type_of c e) in
      bool_fits d locals here (type_of c e) (typed_term c e)
      (not_false (is_bool_shape (type_of c e)) (keeps rule.NotBool n (alone at n k))) (well e role.Value h)

  -- ---- calls

  arguments : (n : ℕ) (l : Exprs) (r : Role) → IsCallee c.globals d n → first_refusal (all_nodes c r l) ≡ None
      → has_misfit (signature_at c.globals n).params (types_of c l) ≡ false
      → not (length (types_of c l) == length (signature_at c.globals n).params) ≡ false
      → HaveTypes d locals here (all_terms c (signature_at c.globals n).params l) (signature_at c.globals n).params
  arguments n l r k h m same =
      arguments_have c d locals here n l k (well_terms c d locals here means structs l r h) m
      (not_false (length (types_of c l) == length (signature_at c.globals n).params) same)

  no_result : (o : Option «Type») → is_some o ≡ false → o ≡ None
  no_result None h = refl
  no_result (Some t) h = absurd (true≢false h)

  pub go_well : (f : Callee) (args : Exprs) (at : ℕ) (in_loop : Bool) → Calls c.globals d f
      → first_refusal (all_nodes c role.Value args) ≡ None
      → first_refusal (go_site c.globals f (types_of c args) at ∷ []) ≡ None
      → Stays (env in_loop) here (go_stmt f (all_terms c (wanted_of c.globals f) args) at)
  go_well (callee.Routine n) args at in_loop k h br =
      let s = signature_at c.globals n in
      let go = node.Go s (types_of c args) in
      let unbroken = alone at go br in (
        (
          declared_signature s,
          k.listed,
          arguments n args role.Value k h (keeps rule.NotAssignable go unbroken) (keeps rule.ArgCount go unbroken),
          no_result s.result_type (keeps rule.GoTarget go unbroken),
        ),
        refl,
      )
  go_well (callee.Missing name_at) args at in_loop k h br =
      absurd (true≢false (keeps rule.NoSuchName node.CallMissing (alone name_at node.CallMissing br)))
  go_well f args at in_loop k h br =
      absurd (true≢false (keeps rule.GoTarget node.GoNothing (alone at node.GoNothing br)))

  close_takes : (l : Exprs) (r : Role) → AllFit c d locals here l
      → broken (node.CallBuiltin builtin.Close r (types_of c l)) ≡ None
      → (types : List «Type») × HaveTypes d locals here (all_terms c [] l) types × Takes d action.Close types
  close_takes tree.no_exprs r f br =
      absurd (true≢false (keeps rule.ArgCount (node.CallBuiltin builtin.Close r []) br))
  close_takes (tree.an_expr e tree.no_exprs) r f br =
      go (type_of c e) f.0
      (not_false (is_chan_shape (type_of c e))
      (keeps rule.NotChannel (node.CallBuiltin builtin.Close r (type_of c e ∷ [])) br))
    where
      go : (s : Shape) → Fits d locals here s (typed_term c e) → is_chan_shape s ≡ true
          → (types : List «Type») × HaveTypes d locals here (one (typed_term c e)) types × Takes d action.Close types
      go (shape.Value u) h chan =
          (u ∷ [], have_one d locals here (typed_term c e) u h.0, (element_type_of u, ap (λ x. x ∷ []) (chan_is u chan)))
      go s h chan = absurd (true≢false (sym chan))
  close_takes (tree.an_expr e (tree.an_expr e2 l)) r f br =
      let shapes = types_of c (tree.an_expr e (tree.an_expr e2 l)) in
      let call = node.CallBuiltin builtin.Close r shapes in
      let n : length shapes ≡ 1 =
      eqb-true (length shapes) 1 (not_false (length shapes == 1) (keeps rule.ArgCount call br)) in
      absurd (omega arith)

  -- ---- prints

  meaning_no_text : (m : Option Meaning) → is_text_shape (shape_of_meaning c m) ≡ false
  meaning_no_text (Some (meaning.Local n)) = refl
  meaning_no_text (Some (meaning.Global n)) = refl
  meaning_no_text (Some (meaning.Truth b)) = refl
  meaning_no_text (Some meaning.Nil) = refl
  meaning_no_text None = refl
  meaning_no_text (Some m) = refl

  field_no_text : (o : Option (ℕ × «Type»)) → is_text_shape (field_shape o) ≡ false
  field_no_text None = refl
  field_no_text (Some field) = refl

  element_no_text : (s : Shape) → is_text_shape (element_shape s) ≡ false
  element_no_text (shape.Value u) = refl
  element_no_text s = refl

  result_no_text : (o : Option «Type») → is_text_shape (result_shape o) ≡ false
  result_no_text None = refl
  result_no_text (Some t) = refl

  call_no_text : (f : Callee) → is_text_shape (call_shape c.globals f) ≡ false
  call_no_text (callee.Routine n) = result_no_text (signature_at c.globals n).result_type
  call_no_text (callee.Builtin b) = result_no_text (result_of b)
  call_no_text f = refl

  unary_no_text : (op : UnaryOp) (s : Shape) → is_text_shape (unary_shape op s) ≡ false
  unary_no_text unary.Receive s = element_no_text s
  unary_no_text unary.Plus s = refl
  unary_no_text unary.Minus s = refl
  unary_no_text unary.Not s = refl

  constant_no_text : (o : Option ℤ) (s : Shape) → is_text_shape s ≡ false → is_text_shape (constant_or o s) ≡ false
  constant_no_text None s h = h
  constant_no_text (Some n) s h = refl

  -- only a string is one
  no_text : (e : Expr) → is_text (without_parens e) ≡ false → is_text_shape (type_of c e) ≡ false
  no_text (tree.Number n at) h = refl
  no_text (tree.Text bytes at) h = absurd (true≢false h)
  no_text (tree.Name x) h = meaning_no_text (meaning_of c x.name)
  no_text (tree.Paren e at) h = no_text e h
  no_text (tree.New x at) h = refl
  no_text (tree.MakeSlice ty e at) h = refl
  no_text (tree.MakeChan ty room at) h = refl
  no_text (tree.Select e field) h = field_no_text (field_of c.globals (type_of c e) field.name)
  no_text (tree.Index a i at) h = element_no_text (type_of c a)
  no_text (tree.Called f args at) h = call_no_text (callee_of c f)
  no_text (tree.Unary op e at) h =
      constant_no_text (folded_shape op (type_of c e)) (unary_shape op (type_of c e)) (unary_no_text op (type_of c e))
  no_text (tree.Binary op a b at) h =
      constant_no_text (folded_shapes op (type_of c a) (type_of c b)) (shape.Value (binary_type op)) refl
  no_text (tree.Literal x values at) h = refl
  no_text (tree.Keyed x members at) h = refl

  not_target : (b : Bool) → is_target (role_if b) ≡ false
  not_target true = refl
  not_target false = refl

  printed : (s : Shape) (t : Term) (b : Bool) → Fits d locals here s t → is_typed (role_if b) s ≡ true
      → is_nil_shape s ≡ false
      → is_pointer_shape s ≡ false → is_text_shape s ≡ false → (ty : «Type») × HasType d locals here t ty × IsPrinted ty
  printed (shape.Constant n) t b h ty nil ptr text = (int, h, refl)
  printed (shape.Value u) t b h ty nil ptr text = (u, h.0, ptr)
  printed shape.Nil t b h ty nil ptr text = absurd (true≢false nil)
  printed shape.Text t b h ty nil ptr text = absurd (true≢false text)
  printed shape.Untyped t b h ty nil ptr text = absurd (true≢false (sym ty))
  printed shape.NoResult t true h ty nil ptr text = absurd (true≢false (sym ty))
  printed shape.NoResult t false h ty nil ptr text = absurd (true≢false (sym ty))

  one_printed : (x : Expr) (t : Term) (terms : Terms) (pieces : List Piece)
      → (is_text x ≡ false → (ty : «Type») × HasType d locals here t ty × IsPrinted ty)
      → (types : List «Type») × HaveTypes d locals here terms types × MatchPieces pieces types
      → (types : List «Type») × HaveTypes d locals here (unless_text (is_text x) t terms) types
      × MatchPieces (piece_of x ∷ pieces) types
  one_printed (tree.Text bytes at) t terms pieces value rest = rest
  one_printed x t terms pieces value rest =
      let v = value refl in
      (v.0 ∷ rest.0, (v.0, rest.0, refl, v.1, rest.1), (v.0, rest.0, refl, v.2, rest.2))

  print_well : (l : Exprs) (b : Bool) → first_refusal (all_nodes c (role_if b) l) ≡ None
      → has_nil (types_of c l) ≡ false
      → has_pointer (types_of c l) ≡ false
      → (types : List «Type») × HaveTypes d locals here (printed_terms l (all_terms c [] l)) types
      × MatchPieces (printed_pieces l) types
  print_well tree.no_exprs b h nil ptr = ([], refl, refl)
  print_well (tree.an_expr e l) b h nil ptr =
      let in_e = left (nodes c (role_if b) e) (all_nodes c (role_if b) l) h in
      one_printed (without_parens e) (typed_term c e) (printed_terms l (all_terms c [] l)) (printed_pieces l)
      (λ text. printed (type_of c e) (typed_term c e) b (well e (role_if b) in_e)
      (typed_where_unbroken c (role_if b) e (not_target b) in_e)
      (or_left (is_nil_shape (type_of c e)) (has_nil (types_of c l)) nil)
      (or_left (is_pointer_shape (type_of c e)) (has_pointer (types_of c l)) ptr) (no_text e text))
      (print_well l b (right (nodes c (role_if b) e) (all_nodes c (role_if b) l) h)
      (or_right (is_nil_shape (type_of c e)) (has_nil (types_of c l)) nil)
      (or_right (is_pointer_shape (type_of c e)) (has_pointer (types_of c l)) ptr))

  -- ---- expression statements

  routine_well : (n : ℕ) (terms : Terms) (at : ℕ) (in_loop : Bool) (o : Option «Type»)
      → (signature_at c.globals n).result_type ≡ o → IsCallee c.globals d n
      → HaveTypes d locals here terms (signature_at c.globals n).params
      → Stays (env in_loop) here (called_stmt (result_shape o) (typed.Call n terms (result_or_int o) at))
  routine_well n terms at in_loop None is k h =
      ((declared_signature (signature_at c.globals n), k.listed, h, is), refl)
  routine_well n terms at in_loop (Some t) is k h =
      ((t, (refl, declared_signature (signature_at c.globals n), k.listed, h, is)), refl)

  call_well : (f : Callee) (b : Bool) (args : Exprs) (at : ℕ) (in_loop : Bool) → Calls c.globals d f
      → first_refusal (all_nodes c (role_if b) args) ≡ None
      → broken (call_node c.globals role.Alone f (types_of c args)) ≡ None → has_effect f ≡ true
      → Stays (env in_loop) here (call_stmt c.globals f args (all_terms c (wanted_of c.globals f) args) at)
  call_well (callee.Builtin builtin.Println) b args at in_loop k h br e =
      let n = node.CallBuiltin builtin.Println role.Alone (types_of c args) in
      (print_well args b h (keeps rule.BareNil n br) (keeps rule.PrintType n br), refl)
  call_well (callee.Builtin builtin.Close) b args at in_loop k h br e =
      (close_takes args role.Alone (well_terms c d locals here means structs args (role_if b) h) br, refl)
  call_well (callee.Routine n) b args at in_loop k h br e =
      let s = signature_at c.globals n in
      let call = node.Call role.Alone s (types_of c args) in
      routine_well n (all_terms c s.params args) at in_loop s.result_type refl k
      (arguments n args (role_if b) k h (keeps rule.NotAssignable call br) (keeps rule.ArgCount call br))
  call_well (callee.Builtin builtin.Len) b args at in_loop k h br e = absurd (true≢false (sym e))
  call_well (callee.Missing name_at) b args at in_loop k h br e =
      absurd (true≢false (keeps rule.NoSuchName node.CallMissing br))
  call_well callee.Nothing b args at in_loop k h br e = absurd (true≢false (keeps rule.NotCall node.CallNothing br))

  received : (s : Shape) (t : Term) (at : ℕ) (in_loop : Bool) → broken (node.Unary unary.Receive s) ≡ None
      → Fits d locals here (constant_or (folded_shape unary.Receive s) (element_shape s))
      (unary_term unary.Receive s t at)
      → Stays (env in_loop) here (typed.Discard (unary_term unary.Receive s t at))
  received (shape.Value u) t at in_loop br h = ((element_type_of u, h.0), refl)
  received s t at in_loop br h = absurd (true≢false (keeps rule.NotChannel (node.Unary unary.Receive s) br))

  pub plain_well : (e : Expr) (in_loop : Bool) → first_refusal (nodes c role.Alone e) ≡ None
      → bare_may_stand c e ≡ true → Stays (env in_loop) here (bare_plain c e)
  plain_well (tree.Called f args at) in_loop h may =
      let call = tree.Called f args at in
      call_well (callee_of c f) (is_package_selector c f && selects_println (without_parens f)) args at in_loop
      (bare_calls c d locals here means structs (without_parens f))
      (right (callee_nodes c f) (all_nodes c (args_role c f) args) (left (parts c call) (own c role.Alone call) h))
      (alone (call_place at (callee_of c f)) (call_node c.globals role.Alone (callee_of c f) (types_of c args))
      (right (parts c call) (own c role.Alone call) h))
      may
  plain_well (tree.Unary unary.Receive e at) in_loop h may =
      let receive = tree.Unary unary.Receive e at in
      received (type_of c e) (typed_term c e) at in_loop
      (alone at (node.Unary unary.Receive (type_of c e)) (right (parts c receive) (own c role.Alone receive) h))
      (well receive role.Alone h)
  plain_well e in_loop h may = absurd (true≢false (sym may))
