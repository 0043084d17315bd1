-- Functions that differ only in what is said of regions at their entry and at instructions: the rules see them alike.
use Rattle.std.proofs.Common.{◌≡◌, ◌↔◌, ◌⊎◌, ⊎_elim, inl, inr, ℕ, List, ◌∷◌, [], ◌++◌, Option, Some, None, slice_get, refl, sym, ap, ◌∙◌, subst}
use Rattle.std.specs.List.{Contains}
use Rattle.rgo_tac.specs.declared.regions.Class.{Class}
use Rattle.rgo_tac.specs.declared.regions.Class.TheVariants.{Name}
use Rattle.rgo_flow.specs.Live.{Live}
use Rattle.rgo_code.specs.Code.{CodeFn, CodeOp}
use Rattle.rgo_code.specs.Erasure.{erased_fn, erased_op}
use Rattle.rgo_code.specs.Exists.{UsesVariable}
use Rattle.rgo_code.specs.Names.{callee_regions, callee_result, class_of, distinct_names, parameter_classes, region_parameters, result_class, slot_class, Holds, IsLiveName, IsOwn, IsParameterName, IsPassedForResult, IsPassedTwice, UsesRegionName}

pub record AreAlike (f g : CodeFn) : Type 0 where
  pub params : f.params ≡ g.params
  pub result : f.result ≡ g.result
  pub variables : f.variables ≡ g.variables
  pub tac : erased_fn f ≡ erased_fn g

pub turned : (f g : CodeFn) → AreAlike f g → AreAlike g f
turned f g like = record {
  params = sym like.params;
  result = sym like.result;
  variables = sym like.variables;
  tac = sym like.tac;
}

-- ---- one way

module _ (f g : CodeFn) (like : AreAlike f g) where
  pub same_class : (v : ℕ) → class_of f v ≡ class_of g v
  same_class v = ap (λ vs. slot_class (slice_get vs v)) like.variables

  pub same_result : result_class f ≡ result_class g
  same_result = ap slot_class like.result

  pub same_parameters : parameter_classes f.params f.variables ≡ parameter_classes g.params g.variables
  same_parameters =
      ap (λ n. parameter_classes n f.variables) like.params ∙ ap (parameter_classes g.params) like.variables

  pub same_regions : region_parameters f ≡ region_parameters g
  same_regions =
      ap (λ l. distinct_names [] (l ++ result_class f ∷ [])) same_parameters
      ∙ ap (λ c. distinct_names [] (parameter_classes g.params g.variables ++ c ∷ [])) same_result

  own_to : (k : ℕ) → IsOwn f k → IsOwn g k
  own_to k own e = own (same_result ∙ e)

  live_to : (k i : ℕ) → IsLiveName f k i → IsLiveName g k i
  live_to k i l = record {
    variable = l.variable;
    named = sym (same_class l.variable) ∙ l.named;
    live = subst (λ t. Live t l.variable i) like.tac l.live;
  }

  holds_to : (k i : ℕ) → Holds f k i → Holds g k i
  holds_to k i h = (own_to k h.0, live_to k i h.1)

  parameter_to : (k : ℕ) → IsParameterName f k → IsParameterName g k
  parameter_to k h = subst (λ l. Contains l (Name k)) same_parameters h

  names_to : (o p : CodeOp) → erased_op o ≡ erased_op p → (k : ℕ) → UsesRegionName f o k → UsesRegionName g p k
  names_to o p same k u = record {
    variable = u.variable;
    used = subst (λ x. UsesVariable x u.variable) same u.used;
    named = sym (same_class u.variable) ∙ u.named;
  }

  needed_to : (k i : ℕ) (passes : List Class)
      → IsLiveName f k i ⊎ ((result_class f ≡ Name k) ⊎ IsPassedTwice passes k)
      → IsLiveName g k i ⊎ ((result_class g ≡ Name k) ⊎ IsPassedTwice passes k)
  needed_to k i passes h = ⊎_elim
      (λ l. inl (live_to k i l))
      (λ z. ⊎_elim (λ e. inr (inl (sym same_result ∙ e))) (λ t. inr (inr t)) z)
      h

-- ---- both ways

module _ (f g : CodeFn) (like : AreAlike f g) where
  back : AreAlike g f
  back = turned f g like

  pub own : (k : ℕ) → IsOwn f k ↔ IsOwn g k
  own k = (λ h. own_to f g like k h, λ h. own_to g f back k h)

  pub live_name : (k i : ℕ) → IsLiveName f k i ↔ IsLiveName g k i
  live_name k i = (λ h. live_to f g like k i h, λ h. live_to g f back k i h)

  pub holds : (k i : ℕ) → Holds f k i ↔ Holds g k i
  holds k i = (λ h. holds_to f g like k i h, λ h. holds_to g f back k i h)

  pub parameter_name : (k : ℕ) → IsParameterName f k ↔ IsParameterName g k
  parameter_name k = (λ h. parameter_to f g like k h, λ h. parameter_to g f back k h)

  pub names : (o p : CodeOp) → erased_op o ≡ erased_op p → (k : ℕ) → UsesRegionName f o k ↔ UsesRegionName g p k
  names o p same k = (λ h. names_to f g like o p same k h, λ h. names_to g f back p o (sym same) k h)

  pub needed : (k i : ℕ) (passes : List Class)
      → (IsLiveName f k i ⊎ ((result_class f ≡ Name k) ⊎ IsPassedTwice passes k))
      ↔ (IsLiveName g k i ⊎ ((result_class g ≡ Name k) ⊎ IsPassedTwice passes k))
  needed k i passes = (λ h. needed_to f g like k i passes h, λ h. needed_to g f back k i passes h)

-- ---- callees

-- with the same region parameters and the same class of the result
pub record AreLikeCallees (one other : Option CodeFn) : Type 0 where
  pub regions : callee_regions one ≡ callee_regions other
  pub result : callee_result one ≡ callee_result other

passed_to : (one other : Option CodeFn) → AreLikeCallees one other → (passes : List Class) (k : ℕ)
    → IsPassedForResult one passes k → IsPassedForResult other passes k
passed_to one other like passes k p = record {
  at = p.at;
  parameter = ap (λ l. slice_get l p.at) (sym like.regions) ∙ p.parameter ∙ ap Some like.result;
  passed = p.passed;
}

pub passed_for_result : (one other : Option CodeFn) → AreLikeCallees one other → (passes : List Class) (k : ℕ)
    → IsPassedForResult one passes k ↔ IsPassedForResult other passes k
passed_for_result one other like passes k = (
  λ p. passed_to one other like passes k p,
  λ p. passed_to other one (record { regions = sym like.regions; result = sym like.result }) passes k p,
)

pub like_none : AreLikeCallees None None
like_none = record { regions = refl; result = refl }

pub like_some : (f g : CodeFn) → AreAlike f g → AreLikeCallees (Some f) (Some g)
like_some f g like = record { regions = same_regions f g like; result = same_result f g like }
