-- Terms that fit the shape of their expression: operators and indices. Not "have its type": a `nil` has no type until it is used, so
-- `Fits` says what holds before, and a value that fits a type has it once it is retyped.
use Rattle.std.proofs.Common.{◌≡◌, ◌&&◌, ◌||◌, ℕ, ℤ, Bool, true, false, not, List, [], ◌∷◌}
use Rattle.std.proofs.Common.{Option, Some, None, refl, sym, subst, true≢false}
use Rattle.std.specs.Prelude.{⊤}
use Rattle.rgo_ast.specs.declared.ops.UnaryOp.{UnaryOp}
use Rattle.rgo_ast.specs.declared.ops.UnaryOp.TheVariants as unary
use Rattle.rgo_ast.specs.declared.ops.BinaryOp.{BinaryOp}
use Rattle.rgo_ast.specs.declared.ops.BinaryOp.TheVariants as binary
use Rattle.rgo_typed.specs.declared.actions.Action.TheVariants as action
use Rattle.rgo_typed.specs.declared.actions.Logical.{Logical}
use Rattle.rgo_typed.specs.declared.actions.Logical.TheVariants as logical
use Rattle.rgo_typed.specs.declared.types.Type.{«Type»}
use Rattle.rgo_typed.specs.Tree.{Term, Local, Apply, no_terms, Logic}
use Rattle.rgo_typing_rules.specs.Types.{slice_of, chan_of, element_type_of, is_int, is_bool, is_slice, is_chan}
use Rattle.rgo_typing_rules.specs.Types.{is_pointer_like, same}
use Rattle.rgo_typing_rules.specs.Shapes as shape
use Rattle.rgo_typing_rules.specs.Shapes.{Shape, fits, are_comparable, is_int_shape, is_bool_shape, is_nil_shape}
use Rattle.rgo_typing_rules.specs.Constants.{folded_shape, folded_shapes}
use Rattle.rgo_typing_rules.specs.Nodes as node
use Rattle.rgo_typing_rules.specs.Rules.{broken, lacks, operands_of, are_slices, are_nil}
use Rattle.rgo_typing_expressions.specs.Scopes.{int, bool}
use Rattle.rgo_typing_expressions.specs.Types.{element_shape}
use Rattle.rgo_typing_expressions.specs.Types.{constant_or, unary_shape, binary_type}
use Rattle.rgo_typing_expressions.specs.Terms.{one, pair_of_terms, int_constant, with_type, constant_or_term, element_type}
use Rattle.rgo_typing_expressions.specs.Terms.{unary_term, negated, compared, operation, binary_term}
use Rattle.rgo_wellformed.specs.TypeRules.{Declared, IsType, Computes, Compares}
use Rattle.rgo_wellformed.specs.WellFormed.{InScope, HasType, HaveTypes}
use Rattle.rgo_typing_laws.proofs.Unbroken.{not_false, not_true, and_left, and_right}
use Rattle.rgo_typing_laws.proofs.TypeForms.{int_is, bool_is, slice_is, chan_is, same_is}
use Rattle.rgo_typing_rules.specs.declared.rules.Rule.TheVariants as rule
use Rattle.rgo_typing_rules.proofs.Unbroken.{keeps}

-- ---- what a term has to be, by the shape of its expression

module _ (d : Declared) (locals : List «Type») (here : InScope) where
  -- `nil` has no type yet; a constant is an int; a value has its type, which exists
  abbrev pub Fits : Shape → Term → Type 0
  Fits shape.Nil t = (at : ℕ) × (u : «Type») × (t ≡ Apply action.Nil no_terms u at)
  Fits (shape.Constant n) t = HasType d locals here t int
  Fits (shape.Value ty) t = HasType d locals here t ty × IsType d ty
  Fits _ t = ⊤

  -- `nil` takes a type, all others keep theirs
  pub retyped : (ty : «Type») (t : Term) → IsType d ty → HasType d locals here t ty
      → HasType d locals here (with_type ty t) ty
  retyped ty (Apply action.Nil ps u at) k h =
      (refl, k, h.2, h.3, (h.4.0, subst (λ v. is_pointer_like v ≡ true) h.0 h.4.1))
  retyped ty (Local n) k h = h
  retyped ty t k h = h

  pub fitted : (ty : «Type») (s : Shape) (t : Term) → fits ty s ≡ true → IsType d ty → Fits s t
      → HasType d locals here (with_type ty t) ty
  fitted ty shape.Nil t f k h =
      subst (λ x. HasType d locals here (with_type ty x) ty) (sym h.2) (refl, k, [], refl, (refl, f))
  fitted ty (shape.Constant n) t f k h =
      retyped ty t k (subst (HasType d locals here t) (sym (int_is ty f)) h)
  fitted ty (shape.Value u) t f k h =
      retyped ty t k (subst (HasType d locals here t) (sym (same_is ty u f)) h.0)
  fitted ty s t f k h = absurd (true≢false (sym f))

  pub int_fits : (s : Shape) (t : Term) → is_int_shape s ≡ true → Fits s t → HasType d locals here t int
  int_fits (shape.Constant n) t f h = h
  int_fits (shape.Value u) t f h = subst (HasType d locals here t) (int_is u f) h.0
  int_fits s t f h = absurd (true≢false (sym f))

  pub bool_fits : (s : Shape) (t : Term) → is_bool_shape s ≡ true → Fits s t → HasType d locals here t bool
  bool_fits (shape.Value u) t f h = subst (HasType d locals here t) (bool_is u f) h.0
  bool_fits s t f h = absurd (true≢false (sym f))

  pub a_constant : (n : ℤ) (at : ℕ) → HasType d locals here (int_constant n at) int
  a_constant n at = (refl, tt, [], refl, (refl, refl))

  -- one operand, and two
  pub have_one : (t : Term) (ty : «Type») → HasType d locals here t ty → HaveTypes d locals here (one t) (ty ∷ [])
  have_one t ty h = (ty, [], refl, h, refl)

  pub have_two : (a b : Term) (t u : «Type») → HasType d locals here a t → HasType d locals here b u
      → HaveTypes d locals here (pair_of_terms a b) (t ∷ u ∷ [])
  have_two a b t u h k = (t, u ∷ [], refl, h, (u, [], refl, k, refl))

  pub folding : (o : Option ℤ) (s : Shape) (t : Term) (at : ℕ) → Fits s t
      → Fits (constant_or o s) (constant_or_term o at t)
  folding None s t at h = h
  folding (Some n) s t at h = a_constant n at

  -- ---- operators

  pub unary_fits : (op : UnaryOp) (s : Shape) (t : Term) (at : ℕ) → broken (node.Unary op s) ≡ None → Fits s t
      → Fits (constant_or (folded_shape op s) (unary_shape op s)) (unary_term op s t at)
  unary_fits unary.Plus (shape.Constant n) t at b h = h
  unary_fits unary.Plus (shape.Value u) t at b h = (
    int_fits (shape.Value u) t (not_false (is_int u) (keeps rule.Mismatch (node.Unary unary.Plus (shape.Value u)) b)) h,
    tt,
  )
  unary_fits unary.Plus s t at b h = absurd (true≢false (keeps rule.Mismatch (node.Unary unary.Plus s) b))
  unary_fits unary.Minus s t at b h =
      folding (folded_shape unary.Minus s) (shape.Value int) (Apply action.Neg (one t) int at) at (
        (
          refl,
          tt,
          int ∷ [],
          have_one t int
              (int_fits s t (not_false (is_int_shape s) (keeps rule.Mismatch (node.Unary unary.Minus s) b)) h),
          (refl, refl),
        ),
        tt,
      )
  unary_fits unary.Not (shape.Value u) t at b h = (
    (
      refl,
      tt,
      bool ∷ [],
      have_one t bool (bool_fits (shape.Value u) t (not_false (is_bool u)
          (keeps rule.Mismatch (node.Unary unary.Not (shape.Value u)) b)) h),
      (refl, refl),
    ),
    tt,
  )
  unary_fits unary.Not s t at b h = absurd (true≢false (keeps rule.Mismatch (node.Unary unary.Not s) b))
  unary_fits unary.Receive (shape.Value u) t at b h =
      let c : u ≡ chan_of (element_type_of u) =
      chan_is u (not_false (is_chan u) (keeps rule.NotChannel (node.Unary unary.Receive (shape.Value u)) b)) in (
        (
          refl,
          h.1,
          chan_of (element_type_of u) ∷ [],
          have_one t (chan_of (element_type_of u)) (subst (HasType d locals here t) c h.0),
          refl,
        ),
        h.1,
      )
  unary_fits unary.Receive s t at b h = absurd (true≢false (keeps rule.NotChannel (node.Unary unary.Receive s) b))

  a_test : (differs : Bool) (t : Term) (at : ℕ) → HasType d locals here t bool
      → HasType d locals here (negated differs t at) bool
  a_test true t at h = (refl, tt, bool ∷ [], have_one t bool h, (refl, refl))
  a_test false t at h = h

  a_nil_test : (differs : Bool) (t : Term) (ty : «Type») (at : ℕ) → is_pointer_like ty ≡ true
      → HasType d locals here t ty
      → HasType d locals here (negated differs (Apply action.IsNil (one t) bool at) at) bool
  a_nil_test differs t ty at like h =
      a_test differs (Apply action.IsNil (one t) bool at) at
      (refl, tt, ty ∷ [], have_one t ty h, (ty, refl, like, refl))

  module _ (op : BinaryOp) (computes : (types : List «Type») → Compares types bool → Computes op types bool) where
    a_comparison : (a b : Term) (ty : «Type») (at : ℕ) → is_slice ty ≡ false → HasType d locals here a ty
        → HasType d locals here b ty
        → HasType d locals here (Apply (action.Binary op) (pair_of_terms a b) bool at) bool
    a_comparison a b ty at n h k =
        (refl, tt, ty ∷ ty ∷ [], have_two a b ty ty h k, computes (ty ∷ ty ∷ []) (ty, refl, n, refl))

    compare_fits : (differs : Bool) (s t : Shape) (a b : Term) (at : ℕ) → are_comparable s t ≡ true → Fits s a
        → Fits t b
        → HasType d locals here (compared op differs (is_nil_shape s) (is_nil_shape t) a b at) bool
    compare_fits differs (shape.Constant m) (shape.Constant n) a b at c h k = a_comparison a b int at refl h k
    compare_fits differs (shape.Constant m) (shape.Value u) a b at c h k =
        a_comparison a b int at refl h (subst (HasType d locals here b) (int_is u c) k.0)
    compare_fits differs shape.Nil (shape.Value u) a b at c h k = a_nil_test differs b u at c k.0
    compare_fits differs (shape.Value t) (shape.Value u) a b at c h k =
        a_comparison a b u at
        (subst (λ x. is_slice x ≡ false) (same_is t u (and_left (same t u) (not (is_slice t)) c))
        (not_true (is_slice t) (and_right (same t u) (not (is_slice t)) c)))
        (subst (HasType d locals here a) (same_is t u (and_left (same t u) (not (is_slice t)) c)) h.0) k.0
    compare_fits differs (shape.Value t) (shape.Constant n) a b at c h k =
        a_comparison a b int at refl (subst (HasType d locals here a) (int_is t c) h.0) k
    compare_fits differs (shape.Value t) shape.Nil a b at c h k = a_nil_test differs a t at c h.0
    compare_fits differs s t a b at c h k = absurd (true≢false (sym c))

  -- an operator on ints
  two_ints : (op : BinaryOp) (s t : Shape) (a b : Term) (ty : «Type») (at : ℕ) → IsType d ty
      → Computes op (int ∷ int ∷ []) ty → not (is_int_shape s && is_int_shape t) ≡ false → Fits s a → Fits t b
      → HasType d locals here (Apply (action.Binary op) (pair_of_terms a b) ty at) ty
  two_ints op s t a b ty at known computes kept h k =
      let both = not_false (is_int_shape s && is_int_shape t) kept in
      let left = int_fits s a (and_left (is_int_shape s) (is_int_shape t) both) h in
      let right = int_fits t b (and_right (is_int_shape s) (is_int_shape t) both) k in
      (refl, known, int ∷ int ∷ [], have_two a b int int left right, computes)

  -- `&&` or `||`
  two_bools : (op : Logical) (s t : Shape) (a b : Term) (at : ℕ)
      → not (is_bool_shape s && is_bool_shape t) ≡ false → Fits s a → Fits t b
      → HasType d locals here (Logic op a b at) bool
  two_bools op s t a b at kept h k =
      let both = not_false (is_bool_shape s && is_bool_shape t) kept in
      let left = bool_fits s a (and_left (is_bool_shape s) (is_bool_shape t) both) h in
      let right = bool_fits t b (and_right (is_bool_shape s) (is_bool_shape t) both) k in
      (refl, left, right)

  comparable : (s t : Shape) → lacks (operands_of binary.Eq) s t ≡ false → are_slices s t ≡ false
      → are_nil s t ≡ false → are_comparable s t ≡ true
  comparable s t l n o =
      let all : are_slices s t || are_nil s t || are_comparable s t ≡ true =
      not_false (are_slices s t || are_nil s t || are_comparable s t) l in
      last (are_slices s t) (are_nil s t) (are_comparable s t) n o all
    where
      last : (a b c : Bool) → a ≡ false → b ≡ false → a || b || c ≡ true → c ≡ true
      last true b c n o h = absurd (true≢false n)
      last false true c n o h = absurd (true≢false o)
      last false false c n o h = h

  operation_fits : (op : BinaryOp) (s t : Shape) (a b : Term) (at : ℕ) → broken (node.Binary op s t) ≡ None → Fits s a
      → Fits t b → HasType d locals here (operation op s t a b at) (binary_type op)
  operation_fits binary.And s t a b at br h k =
      two_bools logical.And s t a b at (keeps rule.Mismatch (node.Binary binary.And s t) br) h k
  operation_fits binary.Or s t a b at br h k =
      two_bools logical.Or s t a b at (keeps rule.Mismatch (node.Binary binary.Or s t) br) h k
  operation_fits binary.Eq s t a b at br h k =
      let n = node.Binary binary.Eq s t in
      let alike =
      comparable s t (keeps rule.Mismatch n br) (keeps rule.SliceCompare n br) (keeps rule.BareNil n br) in
      compare_fits binary.Eq (λ types c. c) false s t a b at alike h k
  operation_fits binary.Ne s t a b at br h k =
      let n = node.Binary binary.Ne s t in
      let alike =
      comparable s t (keeps rule.Mismatch n br) (keeps rule.SliceCompare n br) (keeps rule.BareNil n br) in
      compare_fits binary.Ne (λ types c. c) true s t a b at alike h k
  operation_fits binary.Lt s t a b at br h k =
      two_ints binary.Lt s t a b bool at tt (refl, refl) (keeps rule.Mismatch (node.Binary binary.Lt s t) br) h k
  operation_fits binary.Le s t a b at br h k =
      two_ints binary.Le s t a b bool at tt (refl, refl) (keeps rule.Mismatch (node.Binary binary.Le s t) br) h k
  operation_fits binary.Gt s t a b at br h k =
      two_ints binary.Gt s t a b bool at tt (refl, refl) (keeps rule.Mismatch (node.Binary binary.Gt s t) br) h k
  operation_fits binary.Ge s t a b at br h k =
      two_ints binary.Ge s t a b bool at tt (refl, refl) (keeps rule.Mismatch (node.Binary binary.Ge s t) br) h k
  operation_fits op s t a b at br h k =
      two_ints op s t a b int at tt (refl, refl) (keeps rule.Mismatch (node.Binary op s t) br) h k

  a_type : (op : BinaryOp) → IsType d (binary_type op)
  a_type binary.Mul = tt
  a_type binary.Div = tt
  a_type binary.Rem = tt
  a_type binary.Add = tt
  a_type binary.Sub = tt
  a_type op = tt

  pub binary_fits : (op : BinaryOp) (s t : Shape) (a b : Term) (at : ℕ) → broken (node.Binary op s t) ≡ None
      → Fits s a → Fits t b
      → Fits (constant_or (folded_shapes op s t) (shape.Value (binary_type op))) (binary_term op s t a b at)
  binary_fits op s t a b at br h k =
      folding (folded_shapes op s t) (shape.Value (binary_type op)) (operation op s t a b at) at
      (operation_fits op s t a b at br h k, a_type op)

  pub index_fits : (s i : Shape) (a b : Term) (at : ℕ) → broken (node.Index s i) ≡ None → Fits s a → Fits i b
      → Fits (element_shape s) (Apply action.At (pair_of_terms a b) (element_type s) at)
  index_fits (shape.Value u) i a b at br h k =
      let both : is_slice u && is_int_shape i ≡ true =
      not_false (is_slice u && is_int_shape i) (keeps rule.NotIndexable (node.Index (shape.Value u) i) br) in
      let slice : u ≡ slice_of (element_type_of u) = slice_is u (and_left (is_slice u) (is_int_shape i) both) in (
        (
          refl,
          h.1,
          slice_of (element_type_of u) ∷ int ∷ [],
          have_two a b (slice_of (element_type_of u)) int (subst (HasType d locals here a) slice h.0)
              (int_fits i b (and_right (is_slice u) (is_int_shape i) both) k),
          refl,
        ),
        h.1,
      )
  index_fits s i a b at br h k = absurd (true≢false (keeps rule.NotIndexable (node.Index s i) br))
