-- The tests on what actions take and return decide the typing rules of actions.
use Rattle.std.proofs.Common.{◌≡◌, ℕ, suc, Bool, true, false, ◌&&◌, not, List, [], ◌∷◌, length, map, Some, slice_get, nat_lt, refl, sym, ap, ◌∙◌, subst, arith}
use Rattle.std.proofs.lemmas.Bool.{false≢true}
use Rattle.std.proofs.lemmas.Bool.Decides.{Decides-and, Decides-like}
use Rattle.std.specs.Bool.{Decides}
use Rattle.rgo_ast.specs.declared.ops.BinaryOp.{BinaryOp}
use Rattle.rgo_ast.specs.declared.ops.BinaryOp.TheVariants as binary
use Rattle.rgo_typed.specs.declared.actions.Action.{Action}
use Rattle.rgo_typed.specs.declared.actions.Action.TheVariants as action
use Rattle.rgo_typed.specs.declared.types.Base.TheVariants as base
use Rattle.rgo_typed.specs.declared.types.Layer.TheVariants.{Slice, Chan}
use Rattle.rgo_typed.specs.declared.types.Type.{«Type»}
use Rattle.rgo_typed.specs.Types.{is_pointer_like}
use Rattle.rgo_wellformed.specs.TypeRules.{Compares, Computes, Takes, HasField, int, bool, pointer_to, slice_of, chan_of, is_slice}
use Rattle.rgo_tac.specs.Code.{Tac}
use Rattle.rgo_code.specs.Exists.{declared_in_code}
use Rattle.rgo_code.specs.Types.{ReturnsType}
use Rattle.rgo_checker.specs.TypeTests.{equal_types, is_int_type, is_bool_type, is_chan_type, is_bare_base, is_around, variable_has_type, is_field, is_new, compares_to_bool, computes, returns, takes}
use Rattle.rgo_checker.proofs.Deciding.{always, never, decides_less}
use Rattle.rgo_checker.proofs.decides.TypeLaws.{same_type_decided, is_plain_decided, is_int_decided, is_bool_decided, is_slice_decided, is_chan_decided, is_around_decided, is_field_decided, is_variable_decided}

two : (a b c d : «Type») → a ∷ b ∷ [] ≡ c ∷ d ∷ [] → (a ≡ c) × (b ≡ d)
two a b c d e = (cc, cc)

not_true : (b : Bool) → Decides (not b) (b ≡ false)
not_true true = never (λ e. false≢true (sym e))
not_true false = always refl

compares_decided : (a b t : «Type») → Decides (compares_to_bool a b t) (Compares (a ∷ b ∷ []) t)
compares_decided a b t =
    Decides-like (compares_to_bool a b t)
    (λ p. (a, ap (λ x. a ∷ x ∷ []) (sym p.0), p.1.0, p.1.1))
    (λ p. let e = two a b p.0 p.0 p.1 in (e.0 ∙ sym e.1, (ap is_slice e.0 ∙ p.2, p.3)))
    (Decides-and (equal_types a b) (not (is_slice a) && is_bool_type t) (same_type_decided a b)
    (Decides-and (not (is_slice a)) (is_bool_type t) (not_true (is_slice a)) (is_bool_decided t)))

of_ints : (a b t u : «Type») (test : Bool) → Decides test (t ≡ u)
    → Decides (is_int_type a && (is_int_type b && test)) ((a ∷ b ∷ [] ≡ int ∷ int ∷ []) × (t ≡ u))
of_ints a b t u test d =
    Decides-like (is_int_type a && (is_int_type b && test))
    (λ p. ((λ j. p.0 j ∷ p.1.0 j ∷ []), p.1.1)) (λ p. let e = two a b int int p.0 in (e.0, (e.1, p.1)))
    (Decides-and (is_int_type a) (is_int_type b && test) (is_int_decided a) (Decides-and (is_int_type b) test (is_int_decided b) d))

computes_decided : (op : BinaryOp) (a b t : «Type») → Decides (computes op a b t) (Computes op (a ∷ b ∷ []) t)
computes_decided binary.Eq a b t = compares_decided a b t
computes_decided binary.Ne a b t = compares_decided a b t
computes_decided binary.Lt a b t = of_ints a b t bool (is_bool_type t) (is_bool_decided t)
computes_decided binary.Le a b t = of_ints a b t bool (is_bool_type t) (is_bool_decided t)
computes_decided binary.Gt a b t = of_ints a b t bool (is_bool_type t) (is_bool_decided t)
computes_decided binary.Ge a b t = of_ints a b t bool (is_bool_type t) (is_bool_decided t)
computes_decided binary.And a b t = never (λ p. p)
computes_decided binary.Or a b t = never (λ p. p)
computes_decided binary.Mul a b t = of_ints a b t int (is_int_type t) (is_int_decided t)
computes_decided binary.Div a b t = of_ints a b t int (is_int_type t) (is_int_decided t)
computes_decided binary.Rem a b t = of_ints a b t int (is_int_type t) (is_int_decided t)
computes_decided binary.Add a b t = of_ints a b t int (is_int_type t) (is_int_decided t)
computes_decided binary.Sub a b t = of_ints a b t int (is_int_type t) (is_int_decided t)

-- an operator has two operands
has_two : (op : BinaryOp) (operands : List «Type») (t : «Type») → Computes op operands t → length operands ≡ 2
has_two binary.Eq operands t p = ap length p.1
has_two binary.Ne operands t p = ap length p.1
has_two binary.Lt operands t p = ap length p.0
has_two binary.Le operands t p = ap length p.0
has_two binary.Gt operands t p = ap length p.0
has_two binary.Ge operands t p = ap length p.0
has_two binary.And operands t p = absurd p
has_two binary.Or operands t p = absurd p
has_two binary.Mul operands t p = ap length p.0
has_two binary.Div operands t p = ap length p.0
has_two binary.Rem operands t p = ap length p.0
has_two binary.Add operands t p = ap length p.0
has_two binary.Sub operands t p = ap length p.0

first : (a b : «Type») → a ∷ [] ≡ b ∷ [] → a ≡ b
first a b e = cc

only : (a b : «Type») → a ≡ b → a ∷ [] ≡ b ∷ []
only a b e = ap (λ x. x ∷ []) e

map-length : {A B : Type 0} (g : A → B) (xs : List A) → length (map g xs) ≡ length xs
map-length g [] = refl
map-length g (x ∷ xs) = ap suc (map-length g xs)

-- ---- what actions return, by the number of operands

module _ (code : Tac) (t : «Type») where
  of_none : (act : Action) → Decides (returns code act [] t) (ReturnsType code act [] t)
  of_none (action.Int n) = Decides-like (is_int_type t) (λ e. (refl, e)) (λ p. p.1) (is_int_decided t)
  of_none (action.Bool b) = Decides-like (is_bool_type t) (λ e. (refl, e)) (λ p. p.1) (is_bool_decided t)
  of_none action.Nil = (λ e. (refl, e), λ p. p.1)
  of_none (action.New n) =
      Decides-like (is_new code n t) (λ p. (refl, p.0, omega (arith, p.1, map-length (λ s. s.fields) code.structs)))
      (λ p. (p.1, omega (arith, p.2, map-length (λ s. s.fields) code.structs)))
      (Decides-and (is_bare_base (base.Pointer n) t) (nat_lt n (length code.structs)) (is_plain_decided (base.Pointer n) t)
      (decides_less n (length code.structs)))
  of_none (action.Get n) =
      Decides-like (variable_has_type (slice_get code.variables n) t) (λ e. (refl, e)) (λ p. p.1)
      (is_variable_decided code n t)
  of_none (action.Binary op) = never (λ p. let l = has_two op [] t p in absurd (omega (arith, l)))
  of_none _ = never (λ p. grind (arith, p))

  of_one : (a : «Type») (act : Action) → Decides (returns code act (a ∷ []) t) (ReturnsType code act (a ∷ []) t)
  of_one a action.Copy = Decides-like (equal_types a t) (only a t) (first a t) (same_type_decided a t)
  of_one a action.Neg =
      Decides-like (is_int_type a && is_int_type t) (λ p. (only a int p.0, p.1)) (λ p. (first a int p.0, p.1))
      (Decides-and (is_int_type a) (is_int_type t) (is_int_decided a) (is_int_decided t))
  of_one a action.Not =
      Decides-like (is_bool_type a && is_bool_type t) (λ p. (only a bool p.0, p.1)) (λ p. (first a bool p.0, p.1))
      (Decides-and (is_bool_type a) (is_bool_type t) (is_bool_decided a) (is_bool_decided t))
  of_one a action.IsNil =
      Decides-like (is_pointer_like a && is_bool_type t) (λ p. (a, refl, p.0, p.1))
      (λ p. (ap is_pointer_like (first a p.0 p.1) ∙ p.2, p.3))
      (Decides-and (is_pointer_like a) (is_bool_type t) (λ e. e, λ e. e) (is_bool_decided t))
  of_one a action.Len =
      Decides-like (is_slice a && is_int_type t) (λ p. (p.0.0, only a (slice_of p.0.0) p.0.1, p.1))
      (λ p. ((p.0, first a (slice_of p.0) p.1), p.2))
      (Decides-and (is_slice a) (is_int_type t) (is_slice_decided a) (is_int_decided t))
  of_one a (action.Load k) =
      Decides-like (returns code (action.Load k) (a ∷ []) t) (λ p. (p.0, only a (pointer_to p.0) p.1, p.2))
      (λ p. (p.0, first a (pointer_to p.0) p.1, p.2)) (is_field_decided code k t a)
  of_one a action.Slice =
      Decides-like (is_int_type a && is_slice t) (λ p. (only a int p.0, p.1.0, p.1.1)) (λ p. (first a int p.0, (p.1, p.2)))
      (Decides-and (is_int_type a) (is_slice t) (is_int_decided a) (is_slice_decided t))
  of_one a action.Chan =
      Decides-like (is_int_type a && is_chan_type t) (λ p. (only a int p.0, p.1.0, p.1.1)) (λ p. (first a int p.0, (p.1, p.2)))
      (Decides-and (is_int_type a) (is_chan_type t) (is_int_decided a) (is_chan_decided t))
  of_one a action.Recv =
      Decides-like (is_around Chan a t) (only a (chan_of t)) (first a (chan_of t)) (is_around_decided Chan a t)
  of_one a (action.Binary op) = never (λ p. let l = has_two op (a ∷ []) t p in absurd (omega (arith, l)))
  of_one a _ = never (λ p. grind (arith, p))

  of_two : (a b : «Type») (act : Action)
      → Decides (returns code act (a ∷ b ∷ []) t) (ReturnsType code act (a ∷ b ∷ []) t)
  of_two a b (action.Binary op) = computes_decided op a b t
  of_two a b action.At =
      Decides-like (is_around Slice a t && is_int_type b) (λ p. (λ j. p.0 j ∷ p.1 j ∷ [])) (two a b (slice_of t) int)
      (Decides-and (is_around Slice a t) (is_int_type b) (is_around_decided Slice a t) (is_int_decided b))
  of_two a b _ = never (λ p. grind (arith, p))

  of_more : (a b c : «Type») (rest : List «Type») (act : Action)
      → Decides false (ReturnsType code act (a ∷ b ∷ c ∷ rest) t)
  of_more a b c rest (action.Binary op) =
      never (λ p. let l = has_two op (a ∷ b ∷ c ∷ rest) t p in absurd (omega (arith, l)))
  of_more a b c rest _ = never (λ p. grind (arith, p))

  pub returns_decided : (act : Action) (operands : List «Type»)
      → Decides (returns code act operands t) (ReturnsType code act operands t)
  returns_decided act [] = of_none act
  returns_decided act (a ∷ []) = of_one a act
  returns_decided act (a ∷ b ∷ []) = of_two a b act
  returns_decided act (a ∷ b ∷ c ∷ rest) = of_more a b c rest act

-- ---- what actions without value take

module _ (code : Tac) where
  take_one : (a : «Type») (act : Action) → Decides (takes code act (a ∷ [])) (Takes (declared_in_code code) act (a ∷ []))
  take_one a action.Close =
      Decides-like (is_chan_type a) (λ p. (p.0, only a (chan_of p.0) p.1)) (λ p. (p.0, first a (chan_of p.0) p.1))
      (is_chan_decided a)
  take_one a (action.Set n) =
      Decides-like (variable_has_type (slice_get code.variables n) a) (λ e. (a, refl, e))
      (λ p. subst (λ u. slice_get (declared_in_code code).variables n ≡ Some u) (sym (first a p.0 p.1)) p.2)
      (is_variable_decided code n a)
  take_one a _ = never (λ p. grind (arith, p))

  take_two : (a b : «Type») (act : Action)
      → Decides (takes code act (a ∷ b ∷ [])) (Takes (declared_in_code code) act (a ∷ b ∷ []))
  take_two a b (action.Store k) =
      Decides-like (is_field code a k b) (λ p. (p.0, b, ap (λ x. x ∷ b ∷ []) p.1, p.2)) (λ p. stored p.0 p.1 p.2 p.3)
      (is_field_decided code k b a)
    where
      stored : (n : ℕ) (u : «Type») → a ∷ b ∷ [] ≡ pointer_to n ∷ u ∷ [] → HasField (declared_in_code code) n k u
          → (m : ℕ) × (a ≡ pointer_to m) × HasField (declared_in_code code) m k b
      stored n u e h =
          let q = two a b (pointer_to n) u e in
          (n, q.0, subst (HasField (declared_in_code code) n k) (sym q.1) h)
  take_two a b action.Send =
      Decides-like (is_around Chan a b) (λ e. (b, ap (λ x. x ∷ b ∷ []) e))
      (λ p. let e = two a b (chan_of p.0) p.0 p.1 in e.0 ∙ ap chan_of (sym e.1)) (is_around_decided Chan a b)
  take_two a b _ = never (λ p. grind (arith, p))

  take_three : (a b c : «Type») (act : Action)
      → Decides (takes code act (a ∷ b ∷ c ∷ [])) (Takes (declared_in_code code) act (a ∷ b ∷ c ∷ []))
  take_three a b c action.Put =
      Decides-like (is_around Slice a c && is_int_type b) (λ p. (c, (λ j. p.0 j ∷ p.1 j ∷ c ∷ [])))
      (λ p. put p.0 p.1)
      (Decides-and (is_around Slice a c) (is_int_type b) (is_around_decided Slice a c) (is_int_decided b))
    where
      put : (u : «Type») → a ∷ b ∷ c ∷ [] ≡ slice_of u ∷ int ∷ u ∷ [] → (a ≡ slice_of c) × (b ≡ int)
      put u e =
          let q : c ≡ u = cc in
          let r : a ≡ slice_of u = cc in
          (r ∙ ap slice_of (sym q), cc)
  take_three a b c _ = never (λ p. grind (arith, p))

  take_none : (act : Action) → Decides false (Takes (declared_in_code code) act [])
  take_none _ = never (λ p. grind (arith, p))

  take_more : (a b c d : «Type») (rest : List «Type») (act : Action)
      → Decides false (Takes (declared_in_code code) act (a ∷ b ∷ c ∷ d ∷ rest))
  take_more a b c d rest _ = never (λ p. grind (arith, p))

  pub takes_decided : (act : Action) (operands : List «Type»)
      → Decides (takes code act operands) (Takes (declared_in_code code) act operands)
  takes_decided act [] = take_none act
  takes_decided act (a ∷ []) = take_one a act
  takes_decided act (a ∷ b ∷ []) = take_two a b act
  takes_decided act (a ∷ b ∷ c ∷ []) = take_three a b c act
  takes_decided act (a ∷ b ∷ c ∷ d ∷ rest) = take_more a b c d rest act
