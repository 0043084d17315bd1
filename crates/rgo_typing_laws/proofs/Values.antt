-- What names mean exists in the typed tree, and the values of calls have the types of their parameters.
use Rattle.std.proofs.Common.{◌≡◌, ◌==◌, ◌<◌, ℕ, true, false, not, List, [], ◌∷◌, length}
use Rattle.std.proofs.Common.{get_or}
use Rattle.std.proofs.Common.{Option, Some, None, slice_get, refl, ap, sym, subst, true≢false, eqb-true}
use Rattle.std.proofs.Common.{arith}
use Rattle.std.specs.List.{AllByRecursion}
use Rattle.std.specs.Prelude.{⊤}
use Rattle.rgo_ast.specs.Tree as tree
use Rattle.rgo_ast.specs.Tree.{Exprs}
use Rattle.rgo_typed.specs.declared.actions.Action.TheVariants as action
use Rattle.rgo_typed.specs.declared.types.Type.{«Type»}
use Rattle.rgo_typed.specs.Tree.{Terms, Apply, Call}
use Rattle.rgo_typing_rules.specs.Types.{element_type_of}
use Rattle.rgo_typing_rules.specs.Shapes as shape
use Rattle.rgo_typing_rules.specs.Shapes.{Shape, fits, has_misfit, is_slice_shape}
use Rattle.rgo_typing_rules.specs.Meanings.{Signature}
use Rattle.rgo_typing_rules.specs.declared.builtins.Builtin.TheVariants as builtin
use Rattle.rgo_typing_rules.specs.declared.meanings.Meaning.{Meaning}
use Rattle.rgo_typing_rules.specs.declared.meanings.Meaning.TheVariants as meaning
use Rattle.rgo_typing_rules.specs.declared.roles.Role.{Role}
use Rattle.rgo_typing_rules.specs.Nodes as node
use Rattle.rgo_typing_rules.specs.Rules.{broken}
use Rattle.rgo_scopes.specs.Blocks.{found}
use Rattle.rgo_typing_expressions.specs.declared.callees.Callee.{Callee}
use Rattle.rgo_typing_expressions.specs.declared.callees.Callee.TheVariants as callee
use Rattle.rgo_typing_expressions.specs.Checking.{call_node}
use Rattle.rgo_typing_expressions.specs.Scopes.{signature_at, fields_at, variable_type_at, local_at, int}
use Rattle.rgo_typing_expressions.specs.Types.{type_of, types_of}
use Rattle.rgo_typing_expressions.specs.Types.{result_shape, call_shape}
use Rattle.rgo_typing_expressions.specs.Terms.{one}
use Rattle.rgo_typing_expressions.specs.Terms.{wanted_of, result_or_int, call_term}
use Rattle.rgo_typing_expressions.specs.Terms.{typed_term, all_terms}
use Rattle.rgo_wellformed.specs.TypeRules
use Rattle.rgo_wellformed.specs.TypeRules.{Declared, IsType, IsBase}
use Rattle.rgo_wellformed.specs.WellFormed.{InScope, is_in_scope, HasType, HaveTypes, IsResult}
use Rattle.rgo_typing_laws.proofs.Unbroken.{not_false, or_left, or_right}
use Rattle.rgo_typing_laws.proofs.TypeForms.{slice_is}
use Rattle.rgo_typing_expressions.specs.Packages.{Package, Context}
use Rattle.rgo_typing_rules.specs.declared.rules.Rule.TheVariants as rule
use Rattle.rgo_typing_rules.proofs.Unbroken.{keeps}
use Rattle.rgo_typing_laws.proofs.Fitting.{Fits, fitted, have_one}

-- a signature as the typed tree declares it
abbrev pub declared_signature : Signature → TypeRules.Signature
declared_signature s = record { params = s.params; result_type = s.result_type }

module _ (p : Package) (d : Declared) where
  -- struct n is declared with its fields, and their types exist
  pub record IsStruct (n : ℕ) : Type 0 where
    pub listed : slice_get d.structs n ≡ Some (fields_at p n).types
    pub fields : (name : List ℕ) (k : ℕ) → found name (fields_at p n).numbers ≡ Some k
        → (slice_get (fields_at p n).types k ≡ Some (get_or (fields_at p n).types k int))
        × IsType d (get_or (fields_at p n).types k int)
    pub types : AllByRecursion (IsType d) (fields_at p n).types

  -- function n is declared with its signature, whose types exist
  pub record IsCallee (n : ℕ) : Type 0 where
    pub listed : slice_get d.functions n ≡ Some (declared_signature (signature_at p n))
    pub params : AllByRecursion (IsType d) (signature_at p n).params
    pub result_type : IsResult d (signature_at p n).result_type

  abbrev pub Calls : Callee → Type 0
  Calls (callee.Routine n) = IsCallee n
  Calls _ = ⊤

module _ (c : Context) (d : Declared) (locals : List «Type») (here : InScope) where
  -- what a name means exists, and a local variable is in scope
  abbrev pub Means : Option Meaning → Type 0
  Means (Some (meaning.Local n)) =
      (is_in_scope here n ≡ true) × (slice_get locals n ≡ Some (local_at c.scope n)) × IsType d (local_at c.scope n)
  Means (Some (meaning.Global n)) =
      (slice_get d.variables n ≡ Some (variable_type_at c.globals n)) × IsType d (variable_type_at c.globals n)
  Means (Some (meaning.Struct n)) = n < length d.structs
  Means (Some (meaning.Function n)) = IsCallee c.globals d n
  Means (Some (meaning.Basic b)) = IsBase d b
  Means _ = ⊤

-- ---- lists of values

one_less : {A B : Type 0} (a : A) (l : List A) (b : B) (m : List B) → length (a ∷ l) ≡ length (b ∷ m)
    → length l ≡ length m
one_less a l b m h = omega arith

module _ (c : Context) (d : Declared) (locals : List «Type») (here : InScope) where
  -- every term fits the shape of its expression
  abbrev pub AllFit : Exprs → Type 0
  AllFit tree.no_exprs = ⊤
  AllFit (tree.an_expr e l) = Fits d locals here (type_of c e) (typed_term c e) × AllFit l

  -- values of these types, one each
  pub values_have : (l : Exprs) (wanted : List «Type») → AllByRecursion (IsType d) wanted → AllFit l
      → has_misfit wanted (types_of c l) ≡ false → length (types_of c l) ≡ length wanted
      → HaveTypes d locals here (all_terms c wanted l) wanted
  values_have tree.no_exprs [] k f m n = refl
  values_have tree.no_exprs (t ∷ wanted) k f m n = absurd (omega arith)
  values_have (tree.an_expr e l) [] k f m n = absurd (omega arith)
  values_have (tree.an_expr e l) (t ∷ wanted) k f m n =
      let s = type_of c e in
      let shapes = types_of c l in
      let first = not_false (fits t s) (or_left (not (fits t s)) (has_misfit wanted shapes) m) in
      let others = or_right (not (fits t s)) (has_misfit wanted shapes) m in (
        t,
        wanted,
        refl,
        fitted d locals here t s (typed_term c e) first k.0 f.0,
        values_have l wanted k.1 f.1 others (one_less s shapes t wanted n),
      )

  pub arguments_have : (n : ℕ) (l : Exprs) → IsCallee c.globals d n → AllFit l
      → has_misfit (signature_at c.globals n).params (types_of c l) ≡ false
      → (length (types_of c l) == length (signature_at c.globals n).params) ≡ true
      → HaveTypes d locals here (all_terms c (signature_at c.globals n).params l) (signature_at c.globals n).params
  arguments_have n l k f m same =
      values_have l (signature_at c.globals n).params k.params f m
      (eqb-true (length (types_of c l)) (length (signature_at c.globals n).params) same)

  -- ---- calls

  routine_fits : (n : ℕ) (terms : Terms) (at : ℕ) (o : Option «Type») → (signature_at c.globals n).result_type ≡ o
      → IsCallee c.globals d n
      → HaveTypes d locals here terms (signature_at c.globals n).params
      → Fits d locals here (result_shape o) (Call n terms (result_or_int o) at)
  routine_fits n terms at None is k h = tt
  routine_fits n terms at (Some t) is k h =
      ((refl, declared_signature (signature_at c.globals n), k.listed, h, is), subst (IsResult d) is k.result_type)

  len_fits : (l : Exprs) (r : Role) (at : ℕ) → AllFit l → broken (node.CallBuiltin builtin.Len r (types_of c l)) ≡ None
      → HasType d locals here (Apply action.Len (all_terms c [] l) int at) int
  len_fits tree.no_exprs r at f br =
      absurd (true≢false (keeps rule.ArgCount (node.CallBuiltin builtin.Len r []) br))
  len_fits (tree.an_expr e tree.no_exprs) r at f br =
      go (type_of c e) f.0 (not_false (is_slice_shape (type_of c e))
      (keeps rule.NotIndexable (node.CallBuiltin builtin.Len r (type_of c e ∷ [])) br))
    where
      go : (s : Shape) → Fits d locals here s (typed_term c e) → is_slice_shape s ≡ true
          → HasType d locals here (Apply action.Len (one (typed_term c e)) int at) int
      go (shape.Value u) h slice = (
        refl,
        tt,
        u ∷ [],
        have_one d locals here (typed_term c e) u h.0,
        (element_type_of u, ap (λ x. x ∷ []) (slice_is u slice), refl),
      )
      go s h slice = absurd (true≢false (sym slice))
  len_fits (tree.an_expr e (tree.an_expr e2 l)) r at f br =
      let shapes = types_of c (tree.an_expr e (tree.an_expr e2 l)) in
      let call = node.CallBuiltin builtin.Len r shapes in
      let n : length shapes ≡ 1 =
      eqb-true (length shapes) 1 (not_false (length shapes == 1) (keeps rule.ArgCount call br)) in
      absurd (omega arith)

  pub call_fits : (r : Role) (f : Callee) (l : Exprs) (at : ℕ) → Calls c.globals d f → AllFit l
      → broken (call_node c.globals r f (types_of c l)) ≡ None
      → Fits d locals here (call_shape c.globals f) (call_term c.globals f (all_terms c (wanted_of c.globals f) l) at)
  call_fits r (callee.Routine n) l at k fit br =
      let s = signature_at c.globals n in
      let call = node.Call r s (types_of c l) in
      routine_fits n (all_terms c s.params l) at s.result_type refl k
      (arguments_have n l k fit (keeps rule.NotAssignable call br)
      (not_false (length (types_of c l) == length s.params) (keeps rule.ArgCount call br)))
  call_fits r (callee.Builtin builtin.Len) l at k fit br = (len_fits l r at fit br, tt)
  call_fits r (callee.Builtin builtin.Close) l at k fit br = tt
  call_fits r (callee.Builtin builtin.Println) l at k fit br = tt
  call_fits r f l at k fit br = tt
