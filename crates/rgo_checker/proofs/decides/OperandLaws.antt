-- The tests on the types of an instruction's variables decide the second rule.
use Rattle.std.proofs.Common.{◌≡◌, ℕ, Bool, true, false, not, List, [], ◌∷◌, map, take, Option, Some, None, is_some, slice_get, refl, sym, ap, ◌∙◌, subst}
use Rattle.std.proofs.lemmas.Bool.{false≢true}
use Rattle.std.proofs.lemmas.Bool.Decides.{Decides-and, Decides-like}
use Rattle.std.proofs.lemmas.Option.{same_Some, none-some}
use Rattle.std.specs.Bool.{Decides}
use Rattle.rgo_typed.specs.declared.actions.Action.{Action}
use Rattle.rgo_typed.specs.declared.types.Type.{«Type»}
use Rattle.rgo_typed.specs.Types.{is_pointer_like}
use Rattle.rgo_wellformed.specs.TypeRules.{bool}
use Rattle.rgo_wellformed.specs.WellFormed.{IsPrinted}
use Rattle.rgo_tac.specs.Code.{Op, TacFn, Tac, Do, Call, Go, Print, Jump, Branch, Return}
use Rattle.rgo_code.specs.Types.{VariableHasType, DoFits, ArgumentsFit, TargetFits, IsWellTypedOp}
use Rattle.rgo_checker.specs.TypeTests.{equals_type, is_bool_type}
use Rattle.rgo_checker.specs.Tests.{with_first_type, types_at, returns_to, acts_on, acts_on_found, have_types, arguments_fit, target_has, target_fits, is_printable_type, is_test, has_result, return_fits, op_fits}
use Rattle.rgo_checker.proofs.decides.ActionLaws.{returns_decided, takes_decided}
use Rattle.rgo_checker.proofs.Deciding.{always, never}
use Rattle.rgo_checker.proofs.Listing.{all_decided}
use Rattle.rgo_checker.proofs.decides.TypeLaws.{is_type_decided, is_bool_decided}

-- ---- actions

module _ (types : List «Type») where
  found : (vs : List ℕ) (ts : List «Type») → types_at types vs ≡ Some ts → map (slice_get types) vs ≡ map Some ts
  found [] ts e = ap (map Some) (same_Some [] ts e)
  found (v ∷ vs) ts e = by (slice_get types v) (types_at types vs) refl refl e (found vs)
    where
      by : (o : Option «Type») (rest : Option (List «Type»)) → slice_get types v ≡ o → types_at types vs ≡ rest
          → with_first_type o rest ≡ Some ts
          → ((us : List «Type») → types_at types vs ≡ Some us → map (slice_get types) vs ≡ map Some us)
          → map (slice_get types) (v ∷ vs) ≡ map Some ts
      by None rest p q r next = absurd (none-some ts r)
      by (Some t) None p q r next = absurd (none-some ts r)
      by (Some t) (Some us) p q r next =
          (λ j. p j ∷ next us q j) ∙ ap (map Some) (same_Some (t ∷ us) ts r)

  wanted : (vs : List ℕ) (ts : List «Type») → map (slice_get types) vs ≡ map Some ts → types_at types vs ≡ Some ts
  wanted [] [] e = refl
  wanted [] (t ∷ ts) e = cc
  wanted (v ∷ vs) [] e = cc
  wanted (v ∷ vs) (t ∷ ts) e =
      let p : slice_get types v ≡ Some t = cc in
      let q : map (slice_get types) vs ≡ map Some ts = cc in
      (λ j. with_first_type (p j) (wanted vs ts q j))

module _ (code : Tac) (f : TacFn) where
  returns_to_decided : (act : Action) (operands : List «Type») (d : ℕ)
      → Decides (returns_to code act operands (slice_get f.variables d)) (DoFits code f (Some d) act operands)
  returns_to_decided act operands d = by (slice_get f.variables d) refl
    where
      by : (o : Option «Type») → slice_get f.variables d ≡ o
          → Decides (returns_to code act operands o) (DoFits code f (Some d) act operands)
      by None e = never (λ p. none-some p.0 (sym e ∙ p.1))
      by (Some t) e =
          let r = returns_decided code t act operands in (
            λ b. (t, e, r.0 b),
            λ p. subst (λ u. returns_to code act operands (Some u) ≡ true) (same_Some p.0 t (sym p.1 ∙ e))
                ((returns_decided code p.0 act operands).1 p.2),
          )

  acts_decided : (to : Option ℕ) (act : Action) (operands : List «Type»)
      → Decides (acts_on code f to act operands) (DoFits code f to act operands)
  acts_decided None act operands = takes_decided code act operands
  acts_decided (Some d) act operands = returns_to_decided act operands d

  do_decided : (to : Option ℕ) (act : Action) (from : List ℕ)
      → Decides (acts_on_found code f to act (types_at f.variables from)) (IsWellTypedOp code f (Do to act from))
  do_decided to act from = by (types_at f.variables from) refl
    where
      by : (o : Option (List «Type»)) → types_at f.variables from ≡ o
          → Decides (acts_on_found code f to act o) (IsWellTypedOp code f (Do to act from))
      by None e = never (λ p. none-some p.0 (sym e ∙ wanted f.variables from p.0 p.1))
      by (Some ts) e =
          let d = acts_decided to act ts in (
            λ b. (ts, found f.variables from ts e, d.0 b),
            λ p. d.1 (subst (DoFits code f to act)
                (same_Some p.0 ts (sym (wanted f.variables from p.0 p.1) ∙ e)) p.2),
          )

-- ---- calls

have_types_decided : (types : List «Type») (vs : List ℕ) (ts : List «Type»)
    → Decides (have_types types vs ts) (map (slice_get types) vs ≡ map Some ts)
have_types_decided types [] [] = always refl
have_types_decided types [] (t ∷ ts) = never (λ e. cc)
have_types_decided types (v ∷ vs) [] = never (λ e. cc)
have_types_decided types (v ∷ vs) (t ∷ ts) =
    Decides-like (have_types types (v ∷ vs) (t ∷ ts)) (λ p. (λ j. p.0 j ∷ p.1 j)) (λ e. (cc, cc))
    (Decides-and (equals_type (slice_get types v) t) (have_types types vs ts) (is_type_decided (slice_get types v) t)
    (have_types_decided types vs ts))

module _ (f : TacFn) where
  arguments_decided : (o : Option TacFn) (from : List ℕ) → Decides (arguments_fit f o from) (ArgumentsFit f o from)
  arguments_decided None from = always tt
  arguments_decided (Some g) from = have_types_decided f.variables from (take g.params g.variables)

  target_decided : (o : Option TacFn) (to : Option ℕ) → Decides (target_fits f o to) (TargetFits f o to)
  target_decided None to = always tt
  target_decided (Some g) None = by g.result_type
    where
      by : (r : Option «Type») → Decides (target_has f r None) (Unit {0})
      by None = always tt
      by (Some t) = always tt
  target_decided (Some g) (Some d) = by g.result_type
    where
      by : (r : Option «Type») → Decides (target_has f r (Some d)) ((t : «Type») → r ≡ Some t → VariableHasType f d t)
      by None = always (λ t e. absurd (none-some t e))
      by (Some u) =
          Decides-like (equals_type (slice_get f.variables d) u) (λ e t q. e ∙ q) (λ h. h u refl)
          (is_type_decided (slice_get f.variables d) u)

  -- ---- prints, branches and returns

  printed_decided : (v : ℕ)
      → Decides (is_printable_type (slice_get f.variables v)) ((t : «Type») × VariableHasType f v t × IsPrinted t)
  printed_decided v = by (slice_get f.variables v) refl
    where
      no : (like : Bool) → Decides (not like) (like ≡ false)
      no true = never (λ e. false≢true (sym e))
      no false = always refl

      by : (o : Option «Type») → slice_get f.variables v ≡ o
          → Decides (is_printable_type o) ((t : «Type») × VariableHasType f v t × IsPrinted t)
      by None e = never (λ p. none-some p.0 (sym e ∙ p.1))
      by (Some t) e =
          Decides-like (not (is_pointer_like t)) (λ q. (t, e, q))
          (λ p. ap is_pointer_like (same_Some t p.0 (sym e ∙ p.1)) ∙ p.2) (no (is_pointer_like t))

  test_decided : (v : ℕ) → Decides (is_test (slice_get f.variables v)) (VariableHasType f v bool)
  test_decided v = by (slice_get f.variables v)
    where
      by : (o : Option «Type») → Decides (is_test o) (o ≡ Some bool)
      by None = never (λ e. none-some bool e)
      by (Some t) = Decides-like (is_bool_type t) (λ e. ap Some e) (λ e. same_Some t bool e) (is_bool_decided t)

  return_decided : (code : Tac) (value : Option ℕ) → Decides (return_fits f value) (IsWellTypedOp code f (Return value))
  return_decided code None = by f.result_type
    where
      by : (o : Option «Type») → Decides (not (is_some o)) (o ≡ None)
      by None = always refl
      by (Some t) = never (λ e. none-some t (sym e))
  return_decided code (Some v) = by f.result_type refl
    where
      by : (o : Option «Type») → f.result_type ≡ o → Decides (has_result f v o) (IsWellTypedOp code f (Return (Some v)))
      by None e = never (λ p. none-some p.0 (sym e ∙ p.1))
      by (Some t) e =
          Decides-like (equals_type (slice_get f.variables v) t) (λ q. (t, e, q))
          (λ p. p.2 ∙ sym p.1 ∙ e) (is_type_decided (slice_get f.variables v) t)

pub op_fits_decided : (code : Tac) (f : TacFn) (op : Op) → Decides (op_fits code f op) (IsWellTypedOp code f op)
op_fits_decided code f (Do to act from) = do_decided code f to act from
op_fits_decided code f (Call to n from) =
    Decides-and (arguments_fit f (slice_get code.functions n) from) (target_fits f (slice_get code.functions n) to)
    (arguments_decided f (slice_get code.functions n) from) (target_decided f (slice_get code.functions n) to)
op_fits_decided code f (Go n from) = arguments_decided f (slice_get code.functions n) from
op_fits_decided code f (Print pieces from) =
    all_decided (λ v. is_printable_type (slice_get f.variables v)) (λ v. (t : «Type») × VariableHasType f v t × IsPrinted t)
    (printed_decided f) from
op_fits_decided code f (Jump target) = always tt
op_fits_decided code f (Branch test target other) = test_decided f test
op_fits_decided code f (Return value) = return_decided f code value
