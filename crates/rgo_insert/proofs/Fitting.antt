-- Calls and starts of typed code fit their callees.
use Rattle.std.proofs.Common.{true, ◌≡◌, ◌<◌, ◌≤◌, ℕ, zero, suc, List, [], ◌∷◌, take, length, Option, Some, None, slice_get, refl, sym, ap, ◌∙◌, subst, arith}
use Rattle.std.specs.Prelude.{is_some}
use Rattle.std.specs.Option.{option_map}
use Rattle.std.proofs.lemmas.Option.{same_Some, none-some, slice_get-map, slice_get_within}
use Rattle.std.proofs.lemmas.List.{length-take-le}
use Rattle.rgo_typed.specs.declared.types.Type.{«Type»}
use Rattle.rgo_tac.specs.declared.regions.Member.TheVariants.{Variable}
use Rattle.rgo_tac.specs.Code.{TacFn, Tac, Go}
use Rattle.rgo_tac.specs.Joins.{is_pointer_like_type}
use Rattle.rgo_classes.specs.Joins.{IsPointerLike}
use Rattle.rgo_summaries.specs.Calls.{CallParts, member, passed_member}
use Rattle.rgo_summaries.proofs.Outer.{some_get}
use Rattle.rgo_code.specs.Exists.{CallExists, StartExists, tac_signature}
use Rattle.rgo_code.specs.TypedCode.{StartFits}
use Rattle.rgo_code.specs.Types.{ArgumentsFit, VariablesHaveTypes, VariableHasType, TargetFits}
use Rattle.rgo_insert.proofs.CallLaws.{CallFits}
use Rattle.rgo_insert.proofs.Formals.{variable_is}
use Rattle.rgo_insert.proofs.Members.{some_type}

get_of_taken : {A : Type 0} (xs : List A) (n i : ℕ) (x : A) → slice_get (take n xs) i ≡ Some x → slice_get xs i ≡ Some x
get_of_taken xs zero i x e = absurd (none-some x e)
get_of_taken [] (suc n) i x e = e
get_of_taken (y ∷ xs) (suc n) zero x e = e
get_of_taken (y ∷ xs) (suc n) (suc i) x e = get_of_taken xs n i x e

typed_by : (o t : Option «Type») → option_map (λ (ty : «Type»). Some ty) o ≡ Some t → o ≡ t
typed_by None t e = absurd (none-some t e)
typed_by (Some ty) t e = same_Some (Some ty) t e

-- an argument has the type of its parameter
argument_type : (f g : TacFn) (from : List ℕ) → VariablesHaveTypes f from (tac_signature g).params → (i v : ℕ)
    → slice_get from i ≡ Some v → slice_get (take g.params g.variables) i ≡ slice_get f.variables v
argument_type f g from have i v e =
    typed_by (slice_get (take g.params g.variables) i) (slice_get f.variables v)
    (sym (slice_get-map (λ (ty : «Type»). Some ty) (take g.params g.variables) i)
    ∙ ap (λ l. slice_get l i) (sym have)
    ∙ slice_get-map (slice_get f.variables) from i ∙ ap (option_map (slice_get f.variables)) e)

module _ (f g : TacFn) (n : ℕ) (to : Option ℕ) (from : List ℕ) where
  abbrev call : CallParts
  call = record { to = to; function = n; from = from }

  module _ (arguments : length from ≡ g.params) (params : g.params ≤ length g.variables)
      (target : (ty : «Type») → g.result_type ≡ Some ty → (d : ℕ) × (to ≡ Some d))
      (have : VariablesHaveTypes f from (tac_signature g).params)
      (returned : (d : ℕ) (ty : «Type») → to ≡ Some d → g.result_type ≡ Some ty → VariableHasType f d ty) where
    within : (i v : ℕ) → slice_get from i ≡ Some v → i < length (take g.params g.variables)
    within i v e =
        omega (arith, slice_get_within from i v e, arguments, length-take-le g.params g.variables params)

    like_actual : (m v : ℕ) → passed_member call m ≡ Some (Variable v) → IsPointerLike g (member m)
        → IsPointerLike f (Variable v)
    like_actual zero v e like = absurd cc
    like_actual (suc zero) v e like =
        let t = some_type g.result_type like in
        ap is_pointer_like_type (returned v t.0 (variable_is to v e) t.1 ∙ sym t.1) ∙ like
    like_actual (suc (suc i)) v e like =
        let here = variable_is (slice_get from i) v e in
        let t = some_get (take g.params g.variables) i (within i v here) in
        ap is_pointer_like_type
        (sym (argument_type f g from have i v here) ∙ t.1 ∙ sym (get_of_taken g.variables g.params i t.0 t.1)) ∙ like

    fits_by : CallFits f g call
    fits_by = record { arguments = arguments; params = params; target = target; like = like_actual }

is_some_some : (o : Option ℕ) → is_some o ≡ true → (d : ℕ) × (o ≡ Some d)
is_some_some None e = absurd cc
is_some_some (Some d) e = (d, refl)

module _ (code : Tac) (f g : TacFn) (n : ℕ) (found : slice_get code.functions n ≡ Some g)
    (params : g.params ≤ length g.variables) where
  same_callee : (h : TacFn) → slice_get code.functions n ≡ Some h → h ≡ g
  same_callee h e = same_Some h g (sym e ∙ found)

  pub call_fits : (to : Option ℕ) (from : List ℕ) → CallExists code to n from
      → ArgumentsFit f (slice_get code.functions n) from → TargetFits f (slice_get code.functions n) to
      → CallFits f g (record { to = to; function = n; from = from })
  call_fits to from exists arguments target =
      let same = same_callee exists.callee exists.declared in
      fits_by f g n to from (exists.arguments ∙ ap (λ (h : TacFn). h.params) same) params
      (λ ty e. is_some_some to (exists.target ∙ ap (λ (h : TacFn). is_some h.result_type) same ∙ ap is_some e))
      (subst (λ o. ArgumentsFit f o from) found arguments)
      (λ d ty is e. subst (λ o. TargetFits f o (Some d)) found
      (subst (TargetFits f (slice_get code.functions n)) is target) ty e)

  pub start_fits : (from : List ℕ) → StartExists code n from → StartFits code (Go n from)
      → ArgumentsFit f (slice_get code.functions n) from
      → CallFits f g (record { to = None; function = n; from = from })
  start_fits from exists start arguments =
      let same = same_callee exists.callee exists.declared in
      fits_by f g n None from (exists.arguments ∙ ap (λ (h : TacFn). h.params) same) params
      (λ ty e. absurd (none-some ty (sym (start g found) ∙ e)))
      (subst (λ o. ArgumentsFit f o from) found arguments)
      (λ d ty is e. absurd (none-some d is))
