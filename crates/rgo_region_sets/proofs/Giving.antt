-- Names that a call passes for the result of its callee, and those that it leaves to its callee.
use Rattle.std.proofs.Common.{◌≡◌, ◌∙◌, ℕ, List, [], Option, Some, None, slice_get, sym, ap, subst}
use Rattle.std.specs.Prelude.{◌↔◌}
use Rattle.std.specs.List.{Contains}
use Rattle.std.proofs.lemmas.Option.{none-some}
use Rattle.rgo_graphs.proofs.Lists.{no_member}
use Rattle.rgo_tac.specs.declared.regions.Class.{Class}
use Rattle.rgo_tac.specs.declared.regions.Class.TheVariants.{NoClass, Name}
use Rattle.rgo_code.specs.Code.{CodeFn}
use Rattle.rgo_code.specs.Names.{result_class, region_parameters, IsPassedForResult}
use Rattle.rgo_region_sets.specs.Asked.{IsNamePassedFor, IsGiven, IsInNeither}
use Rattle.rgo_region_sets.specs.Sets.{IsSet}
use Rattle.rgo_region_sets.proofs.Members.{set_with}

module _ (g : CodeFn) (regions : List Class) (class : Class) (passes : List Class)
    (parameters : regions ≡ region_parameters g) (result : class ≡ result_class g) where
  passed_for_result : (k : ℕ) → IsNamePassedFor regions class passes k ↔ IsPassedForResult (Some g) passes k
  passed_for_result k = (
    λ h. record {
      at = h.at;
      parameter = ap (λ l. slice_get l h.at) (sym parameters) ∙ h.parameter ∙ ap Some result;
      passed = h.passed;
    },
    λ h. record {
      at = h.at;
      parameter = ap (λ l. slice_get l h.at) parameters ∙ h.parameter ∙ ap Some (sym result);
      passed = h.passed;
    },
  )

  pub lent_set : (callee : Option CodeFn) (names : List ℕ) → callee ≡ Some g
      → IsSet names (IsNamePassedFor regions class passes) → IsSet names (IsPassedForResult callee passes)
  lent_set callee names is set = subst (λ o. IsSet names (IsPassedForResult o passes)) (sym is)
      (set_with names (IsNamePassedFor regions class passes) (IsPassedForResult (Some g) passes) set passed_for_result)

-- the callee does not exist
pub none_passed : (passes : List Class) (k : ℕ) → Contains [] k ↔ IsPassedForResult None passes k
none_passed passes k = (λ h. absurd (no_member k h), λ h. absurd (none-some NoClass h.parameter))

pub given : (callee : Option CodeFn) (passes : List Class) (protects lent names : List ℕ)
    → ((k : ℕ) → Contains lent k ↔ IsPassedForResult callee passes k)
    → ((k : ℕ) → Contains names k ↔ (Contains passes (Name k) × IsInNeither protects lent k))
    → (k : ℕ) → Contains names k ↔ IsGiven callee passes protects k
given callee passes protects lent names lends frees k = (
  λ h. let f = (frees k).0 h in (f.0, f.1.0, λ l. f.1.1 ((lends k).1 l)),
  λ h. (frees k).1 (h.0, (h.1, λ l. h.2 ((lends k).0 l))),
)
