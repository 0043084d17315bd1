-- The value of an action that touches no memory, on values and on words: action by action, with operands of the types that it takes.
use Rattle.std.proofs.Common.{◌≡◌, ℕ, ◌==◌, slice_get, Bool, true, false, not, arith, List, [], ◌∷◌, Some, FitsSigned, w64, refl, sym, ap, ◌∙◌, subst}
use Rattle.std.proofs.Common.{true≢false}
use Rattle.std.proofs.lemmas.Option.{same_Some}
use Rattle.std.specs.Int.{cast_signed, from_bool}
use Rattle.rgo_sound.specs.Ast.declared.ops.BinaryOp.{BinaryOp}
use Rattle.rgo_sound.specs.Ast.declared.ops.BinaryOp.TheVariants as binary
use Rattle.rgo_sound.specs.Typed.declared.actions.Action.{Action}
use Rattle.rgo_sound.specs.Typed.declared.actions.Action.TheVariants as action
use Rattle.rgo_sound.specs.Typed.declared.programs.Struct.{Struct}
use Rattle.rgo_sound.specs.Typed.declared.types.Type.{«Type»}
use Rattle.rgo_sound.specs.Typed.Types.{is_pointer_like}
use Rattle.rgo_sound.specs.WellFormed.TypeRules.{int, Computes}
use Rattle.rgo_sound.specs.Memory.declared.values.Value.{Value}
use Rattle.rgo_sound.specs.Memory.declared.values.Value.TheVariants as value
use Rattle.rgo_sound.specs.Memory.Effects.{Does, answered}
use Rattle.rgo_sound.specs.Memory.Memory.{Memory}
use Rattle.rgo_sound.specs.Memory.Operators.{negated_value, inverted, nil_test}
use Rattle.rgo_sound.specs.Tac.Code.{Tac}
use Rattle.rgo_sound.specs.Code.Types.{ReturnsType}
use Rattle.rgo_sound.proofs.steps.Acting.{performed}
use Rattle.rgo_sound.specs.Types.{HasKind, HaveKinds}
use Rattle.rgo_core_frames.specs.shown.Operators.{computed, word_of}
use Rattle.rgo_core_frames.specs.shown.Words.{AllShow, Shows}
use Rattle.rgo_core_frames.proofs.shown.WordLemmas.{IsInt, IsTruth, AreCompared, Operands, binary_answers, compared, int_is, truth_is, word_shows, wrapped_fits, other_numbers, IsStanding}

abbrev pub IsPointer : Value → Type 0
IsPointer value.Nil = Unit {0}
IsPointer (value.Object o) = Unit {0}
IsPointer _ = ⊥

-- constants
abbrev pub ConstantFits : Action → Type 0
ConstantFits (action.Int k) = FitsSigned w64 k
ConstantFits _ = Unit {0}

-- the operands, by their types
abbrev pub Fitted : Action → List Value → List ℕ → Type 0
Fitted (action.Binary op) (v ∷ w ∷ []) (x ∷ y ∷ []) = Operands op v w x y
Fitted action.Neg (v ∷ []) (x ∷ []) = IsInt v x
Fitted action.Not (v ∷ []) (x ∷ []) = IsTruth v x
Fitted action.IsNil (v ∷ []) (x ∷ []) = IsPointer v
Fitted _ _ _ = Unit {0}

module _ (addresses : List ℕ) (stands : ℕ → Type 0)
    (differ : (o p a : ℕ) → stands o → stands p → slice_get addresses o ≡ Some a → slice_get addresses p ≡ Some a → o ≡ p) where
  -- it leaves the memory, and has a value that the word shows
  pub record Gives (structs : List Struct) (a : Action) (ty : «Type») (vs : List Value) (m : Memory) (word : ℕ) : Type 0
    where
      pub value : Value
      pub is : performed structs a ty vs m ≡ Some (Does m value)
      pub shows : Shows addresses value word

  negated_shows : (v : Value) (x word : ℕ) → IsInt v x → Some (word_of (negated_value (value.Int (cast_signed w64 x)))) ≡ Some word
      → Shows addresses (negated_value v) word
  negated_shows v x word i e =
      subst (Shows addresses (negated_value v)) (same_Some _ word e)
      (subst (λ u. Shows addresses (negated_value u) (word_of (negated_value (value.Int (cast_signed w64 x))))) (sym i.is)
      (word_shows addresses (negated_value (value.Int (cast_signed w64 x))) (wrapped_fits _)))

  inverted_shows : (v : Value) (x word : ℕ) → IsTruth v x → Some (from_bool (x == 0)) ≡ Some word → Shows addresses (inverted v) word
  inverted_shows v x word i e =
      subst (λ u. Shows addresses (inverted u) word) (sym i.is)
      (sym (same_Some _ word e) ∙ ap (λ n. from_bool (n == 0)) i.word ∙ go i.truth)
    where
      go : (b : Bool) → from_bool (from_bool b == 0) ≡ from_bool (not b)
      go true = refl
      go false = refl

  tested_shows : (v : Value) (x word : ℕ) → IsPointer v → Shows addresses v x → Some (from_bool (x == 0)) ≡ Some word
      → Shows addresses (nil_test v) word
  tested_shows (value.Int z) x word p h e = absurd p
  tested_shows (value.Bool b) x word p h e = absurd p
  tested_shows value.Nil x word p h e = sym (same_Some _ word e) ∙ ap (λ n. from_bool (n == 0)) h
  tested_shows (value.Object o) x word p (a, f, q) e =
      sym (same_Some _ word e) ∙ ap from_bool (other_numbers x 0 (λ z. omega (arith, q, z)))

  pub gives : (structs : List Struct) (a : Action) (ty : «Type») (vs : List Value) (ws : List ℕ) (m : Memory) (word : ℕ)
      → ConstantFits a → Fitted a vs ws → AllShow addresses vs ws → computed a ws ≡ Some word → Gives structs a ty vs m word
  gives structs (action.Int k) ty [] [] m word c f s e =
      record { value = value.Int k; is = refl; shows = subst (Shows addresses (value.Int k)) (same_Some _ word e) (word_shows addresses (value.Int k) c) }
  gives structs (action.Int k) ty [] (w ∷ ws) m word c f s e = absurd s
  gives structs (action.Int k) ty (v ∷ vs) [] m word c f s e = absurd s
  gives structs (action.Int k) ty (v ∷ vs) (w ∷ ws) m word c f s e = cc
  gives structs (action.Bool b) ty [] [] m word c f s e =
      record { value = value.Bool b; is = refl; shows = sym (same_Some _ word e) }
  gives structs (action.Bool b) ty [] (w ∷ ws) m word c f s e = absurd s
  gives structs (action.Bool b) ty (v ∷ vs) [] m word c f s e = absurd s
  gives structs (action.Bool b) ty (v ∷ vs) (w ∷ ws) m word c f s e = cc
  gives structs action.Nil ty [] [] m word c f s e = record { value = value.Nil; is = refl; shows = sym (same_Some _ word e) }
  gives structs action.Nil ty [] (w ∷ ws) m word c f s e = absurd s
  gives structs action.Nil ty (v ∷ vs) [] m word c f s e = absurd s
  gives structs action.Nil ty (v ∷ vs) (w ∷ ws) m word c f s e = cc
  gives structs action.Copy ty [] [] m word c f s e = cc
  gives structs action.Copy ty [] (x ∷ ws) m word c f s e = absurd s
  gives structs action.Copy ty (v ∷ vs) [] m word c f s e = absurd s
  gives structs action.Copy ty (v ∷ []) (x ∷ []) m word c f s e = record { value = v; is = refl; shows = subst (Shows addresses v) (same_Some x word e) s.0 }
  gives structs action.Copy ty (v ∷ []) (x ∷ y ∷ ws) m word c f s e = absurd s.1
  gives structs action.Copy ty (v ∷ w ∷ vs) (x ∷ []) m word c f s e = absurd s.1
  gives structs action.Copy ty (v ∷ w ∷ vs) (x ∷ y ∷ ws) m word c f s e = cc
  gives structs (action.Binary op) ty [] [] m word c f s e = cc
  gives structs (action.Binary op) ty [] (x ∷ ws) m word c f s e = absurd s
  gives structs (action.Binary op) ty (v ∷ vs) [] m word c f s e = absurd s
  gives structs (action.Binary op) ty (v ∷ []) (x ∷ []) m word c f s e = cc
  gives structs (action.Binary op) ty (v ∷ []) (x ∷ y ∷ ws) m word c f s e = absurd s.1
  gives structs (action.Binary op) ty (v ∷ w ∷ vs) (x ∷ []) m word c f s e = absurd s.1
  gives structs (action.Binary op) ty (v ∷ w ∷ []) (x ∷ y ∷ []) m word c f s e =
      let r = binary_answers addresses stands differ op v w x y word f e in
      record { value = r.answer; is = ap (λ a. Some (answered m a)) r.is; shows = r.shows }
  gives structs (action.Binary op) ty (v ∷ w ∷ []) (x ∷ y ∷ z ∷ ws) m word c f s e = absurd s.1.1
  gives structs (action.Binary op) ty (v ∷ w ∷ u ∷ vs) (x ∷ y ∷ []) m word c f s e = absurd s.1.1
  gives structs (action.Binary op) ty (v ∷ w ∷ u ∷ vs) (x ∷ y ∷ z ∷ ws) m word c f s e = cc
  gives structs action.Neg ty [] [] m word c f s e = cc
  gives structs action.Neg ty [] (x ∷ ws) m word c f s e = absurd s
  gives structs action.Neg ty (v ∷ vs) [] m word c f s e = absurd s
  gives structs action.Neg ty (v ∷ []) (x ∷ []) m word c f s e = record { value = negated_value v; is = refl; shows = negated_shows v x word f e }
  gives structs action.Neg ty (v ∷ []) (x ∷ y ∷ ws) m word c f s e = absurd s.1
  gives structs action.Neg ty (v ∷ w ∷ vs) (x ∷ []) m word c f s e = absurd s.1
  gives structs action.Neg ty (v ∷ w ∷ vs) (x ∷ y ∷ ws) m word c f s e = cc
  gives structs action.Not ty [] [] m word c f s e = cc
  gives structs action.Not ty [] (x ∷ ws) m word c f s e = absurd s
  gives structs action.Not ty (v ∷ vs) [] m word c f s e = absurd s
  gives structs action.Not ty (v ∷ []) (x ∷ []) m word c f s e = record { value = inverted v; is = refl; shows = inverted_shows v x word f e }
  gives structs action.Not ty (v ∷ []) (x ∷ y ∷ ws) m word c f s e = absurd s.1
  gives structs action.Not ty (v ∷ w ∷ vs) (x ∷ []) m word c f s e = absurd s.1
  gives structs action.Not ty (v ∷ w ∷ vs) (x ∷ y ∷ ws) m word c f s e = cc
  gives structs action.IsNil ty [] [] m word c f s e = cc
  gives structs action.IsNil ty [] (x ∷ ws) m word c f s e = absurd s
  gives structs action.IsNil ty (v ∷ vs) [] m word c f s e = absurd s
  gives structs action.IsNil ty (v ∷ []) (x ∷ []) m word c f s e = record { value = nil_test v; is = refl; shows = tested_shows v x word f s.0 e }
  gives structs action.IsNil ty (v ∷ []) (x ∷ y ∷ ws) m word c f s e = absurd s.1
  gives structs action.IsNil ty (v ∷ w ∷ vs) (x ∷ []) m word c f s e = absurd s.1
  gives structs action.IsNil ty (v ∷ w ∷ vs) (x ∷ y ∷ ws) m word c f s e = cc
  gives structs action.Len ty vs ws m word c f s e = cc
  gives structs (action.Load k) ty vs ws m word c f s e = cc
  gives structs (action.Store k) ty vs ws m word c f s e = cc
  gives structs action.At ty vs ws m word c f s e = cc
  gives structs action.Put ty vs ws m word c f s e = cc
  gives structs (action.New n) ty vs ws m word c f s e = cc
  gives structs action.Slice ty vs ws m word c f s e = cc
  gives structs action.Chan ty vs ws m word c f s e = cc
  gives structs action.Recv ty vs ws m word c f s e = cc
  gives structs action.Send ty vs ws m word c f s e = cc
  gives structs action.Close ty vs ws m word c f s e = cc
  gives structs (action.Get n) ty vs ws m word c f s e = cc
  gives structs (action.Set n) ty vs ws m word c f s e = cc

-- ---- operands by their types

two_kinds : (kinds tys : List «Type») (t u : «Type») (vs : List Value) → tys ≡ t ∷ u ∷ [] → HaveKinds kinds tys vs
    → HaveKinds kinds (t ∷ u ∷ []) vs
two_kinds kinds tys t u vs e h = subst (λ ts. HaveKinds kinds ts vs) e h

pointer_is : (kinds : List «Type») (u : «Type») (v : Value) → is_pointer_like u ≡ true → HasKind kinds u v → IsPointer v
pointer_is kinds u (value.Int z) p k = let q : false ≡ true = sym (ap is_pointer_like k) ∙ p in true≢false (sym q)
pointer_is kinds u (value.Bool b) p k = let q : false ≡ true = sym (ap is_pointer_like k) ∙ p in true≢false (sym q)
pointer_is kinds u value.Nil p k = tt
pointer_is kinds u (value.Object o) p k = tt

module _ (addresses : List ℕ) (stands : ℕ → Type 0)
    (differ : (o p a : ℕ) → stands o → stands p → slice_get addresses o ≡ Some a → slice_get addresses p ≡ Some a → o ≡ p)
    (kinds : List «Type») where
  abbrev pub AllStanding : List Value → Type 0
  AllStanding [] = Unit {0}
  AllStanding (v ∷ vs) = IsStanding addresses stands differ v × AllStanding vs

  ints_fit : (tys : List «Type») (v w : Value) (x y : ℕ) → tys ≡ int ∷ int ∷ [] → HaveKinds kinds tys (v ∷ w ∷ [])
      → Shows addresses v x → Shows addresses w y → IsInt v x × IsInt w y
  ints_fit tys v w x y e h g k =
      let t = two_kinds kinds tys int int (v ∷ w ∷ []) e h in
      (int_is kinds addresses v x t.0 g, int_is kinds addresses w y t.1.0 k)

  compare_fit : (tys : List «Type») (u : «Type») (v w : Value) (x y : ℕ) → tys ≡ u ∷ u ∷ []
      → AllStanding (v ∷ w ∷ []) → HaveKinds kinds tys (v ∷ w ∷ []) → Shows addresses v x → Shows addresses w y → AreCompared v w x y
  compare_fit tys u v w x y e st h g k =
      let t = two_kinds kinds tys u u (v ∷ w ∷ []) e h in compared addresses stands differ kinds u v w x y st.0 st.1.0 t.0 t.1.0 g k

  operands_fit : (op : BinaryOp) (tys : List «Type») (ty : «Type») (v w : Value) (x y : ℕ) → Computes op tys ty
      → AllStanding (v ∷ w ∷ []) → HaveKinds kinds tys (v ∷ w ∷ []) → Shows addresses v x → Shows addresses w y → Operands op v w x y
  operands_fit binary.Eq tys ty v w x y (u, e, n, b) st h g k = compare_fit tys u v w x y e st h g k
  operands_fit binary.Ne tys ty v w x y (u, e, n, b) st h g k = compare_fit tys u v w x y e st h g k
  operands_fit binary.Lt tys ty v w x y c st h g k = ints_fit tys v w x y c.0 h g k
  operands_fit binary.Le tys ty v w x y c st h g k = ints_fit tys v w x y c.0 h g k
  operands_fit binary.Gt tys ty v w x y c st h g k = ints_fit tys v w x y c.0 h g k
  operands_fit binary.Ge tys ty v w x y c st h g k = ints_fit tys v w x y c.0 h g k
  operands_fit binary.And tys ty v w x y c st h g k = absurd c
  operands_fit binary.Or tys ty v w x y c st h g k = absurd c
  operands_fit binary.Add tys ty v w x y c st h g k = ints_fit tys v w x y c.0 h g k
  operands_fit binary.Sub tys ty v w x y c st h g k = ints_fit tys v w x y c.0 h g k
  operands_fit binary.Mul tys ty v w x y c st h g k = ints_fit tys v w x y c.0 h g k
  operands_fit binary.Div tys ty v w x y c st h g k = ints_fit tys v w x y c.0 h g k
  operands_fit binary.Rem tys ty v w x y c st h g k = ints_fit tys v w x y c.0 h g k

  pub fitted : (code : Tac) (a : Action) (tys : List «Type») (ty : «Type») (vs : List Value) (ws : List ℕ)
      → ReturnsType code a tys ty → AllStanding vs → HaveKinds kinds tys vs → AllShow addresses vs ws → Fitted a vs ws
  fitted code (action.Int k) tys ty vs ws r st h s = tt
  fitted code (action.Bool b) tys ty vs ws r st h s = tt
  fitted code action.Nil tys ty vs ws r st h s = tt
  fitted code action.Copy tys ty vs ws r st h s = tt
  fitted code action.Len tys ty vs ws r st h s = tt
  fitted code (action.Load k) tys ty vs ws r st h s = tt
  fitted code (action.Store k) tys ty vs ws r st h s = tt
  fitted code action.At tys ty vs ws r st h s = tt
  fitted code action.Put tys ty vs ws r st h s = tt
  fitted code (action.New n) tys ty vs ws r st h s = tt
  fitted code action.Slice tys ty vs ws r st h s = tt
  fitted code action.Chan tys ty vs ws r st h s = tt
  fitted code action.Recv tys ty vs ws r st h s = tt
  fitted code action.Send tys ty vs ws r st h s = tt
  fitted code action.Close tys ty vs ws r st h s = tt
  fitted code (action.Get n) tys ty vs ws r st h s = tt
  fitted code (action.Set n) tys ty vs ws r st h s = tt
  fitted code (action.Binary op) tys ty (v ∷ w ∷ []) (x ∷ y ∷ []) r st h s = operands_fit op tys ty v w x y r st h s.0 s.1.0
  fitted code (action.Binary op) tys ty [] [] r st h s = tt
  fitted code (action.Binary op) tys ty [] (x ∷ ws) r st h s = absurd s
  fitted code (action.Binary op) tys ty (v ∷ vs) [] r st h s = absurd s
  fitted code (action.Binary op) tys ty (v ∷ []) (x ∷ []) r st h s = tt
  fitted code (action.Binary op) tys ty (v ∷ []) (x ∷ y ∷ ws) r st h s = absurd s.1
  fitted code (action.Binary op) tys ty (v ∷ w ∷ vs) (x ∷ []) r st h s = absurd s.1
  fitted code (action.Binary op) tys ty (v ∷ w ∷ []) (x ∷ y ∷ z ∷ ws) r st h s = absurd s.1.1
  fitted code (action.Binary op) tys ty (v ∷ w ∷ u ∷ vs) (x ∷ y ∷ []) r st h s = absurd s.1.1
  fitted code (action.Binary op) tys ty (v ∷ w ∷ u ∷ vs) (x ∷ y ∷ z ∷ ws) r st h s = tt
  fitted code action.Neg tys ty (v ∷ []) (x ∷ []) r st h s = let t = subst (λ ts. HaveKinds kinds ts (v ∷ [])) r.0 h in int_is kinds addresses v x t.0 s.0
  fitted code action.Neg tys ty [] [] r st h s = tt
  fitted code action.Neg tys ty [] (x ∷ ws) r st h s = absurd s
  fitted code action.Neg tys ty (v ∷ vs) [] r st h s = absurd s
  fitted code action.Neg tys ty (v ∷ []) (x ∷ y ∷ ws) r st h s = absurd s.1
  fitted code action.Neg tys ty (v ∷ w ∷ vs) (x ∷ []) r st h s = absurd s.1
  fitted code action.Neg tys ty (v ∷ w ∷ vs) (x ∷ y ∷ ws) r st h s = tt
  fitted code action.Not tys ty (v ∷ []) (x ∷ []) r st h s = let t = subst (λ ts. HaveKinds kinds ts (v ∷ [])) r.0 h in truth_is kinds addresses v x t.0 s.0
  fitted code action.Not tys ty [] [] r st h s = tt
  fitted code action.Not tys ty [] (x ∷ ws) r st h s = absurd s
  fitted code action.Not tys ty (v ∷ vs) [] r st h s = absurd s
  fitted code action.Not tys ty (v ∷ []) (x ∷ y ∷ ws) r st h s = absurd s.1
  fitted code action.Not tys ty (v ∷ w ∷ vs) (x ∷ []) r st h s = absurd s.1
  fitted code action.Not tys ty (v ∷ w ∷ vs) (x ∷ y ∷ ws) r st h s = tt
  fitted code action.IsNil tys ty (v ∷ []) (x ∷ []) r st h s = let t = subst (λ ts. HaveKinds kinds ts (v ∷ [])) r.1 h in pointer_is kinds r.0 v r.2 t.0
  fitted code action.IsNil tys ty [] [] r st h s = tt
  fitted code action.IsNil tys ty [] (x ∷ ws) r st h s = absurd s
  fitted code action.IsNil tys ty (v ∷ vs) [] r st h s = absurd s
  fitted code action.IsNil tys ty (v ∷ []) (x ∷ y ∷ ws) r st h s = absurd s.1
  fitted code action.IsNil tys ty (v ∷ w ∷ vs) (x ∷ []) r st h s = absurd s.1
  fitted code action.IsNil tys ty (v ∷ w ∷ vs) (x ∷ y ∷ ws) r st h s = tt
