-- The classes of a callee's parameters and result, by the numbers of its members, and what is passed for them.
use Rattle.std.proofs.Common.{◌≡◌, ⊎_elim, ◌<◌, ◌≤◌, ◌+◌, ℕ, zero, suc, List, [], ◌∷◌, map, drop, length, get_or, Option, Some, None, slice_get, refl, sym, ap, ◌∙◌, arith, length-append}
use Rattle.std.specs.Option.{option_map}
use Rattle.std.proofs.lemmas.Bool.{cases_lt}
use Rattle.std.proofs.lemmas.List.{length-map}
use Rattle.std.proofs.lemmas.Option.{same_Some, none-some, slice_get-map, slice_get_within, get_or_from_slice_get}
use Rattle.rgo_typed.specs.declared.types.Type.{«Type»}
use Rattle.rgo_tac.specs.declared.regions.Class.{Class}
use Rattle.rgo_tac.specs.declared.regions.Class.TheVariants.{NoClass}
use Rattle.rgo_tac.specs.declared.regions.Member.TheVariants.{Variable}
use Rattle.rgo_summaries.specs.Calls.{CallParts, member, passed_member}
use Rattle.rgo_summaries.proofs.Outer.{get_last, get_left, place}
use Rattle.rgo_code.specs.Code.{CodeFn, Slot}
use Rattle.rgo_code.specs.Names.{class_of, member_class, parameter_classes, result_class, slot_class}
use Rattle.rgo_code.specs.Views.{slots}
use Rattle.rgo_insert.specs.Passing.{actual_classes, formal_classes, class_of_target}

-- ---- the classes of parameters

pub parameters_long : (n : ℕ) (slots : List Slot) → n ≤ length slots → length (parameter_classes n slots) ≡ n
parameters_long zero slots l = refl
parameters_long (suc n) [] l = absurd (omega (arith, l))
parameters_long (suc n) (s ∷ slots) l = ap suc (parameters_long n slots (omega (arith, l)))

pub parameter_at : (n : ℕ) (slots : List Slot) (i : ℕ) → i < n → n ≤ length slots
    → slice_get (parameter_classes n slots) i ≡ Some (slot_class (slice_get slots i))
parameter_at zero slots i l long = absurd (omega (arith, l))
parameter_at (suc n) [] i l long = absurd (omega (arith, long))
parameter_at (suc n) (s ∷ slots) zero l long = refl
parameter_at (suc n) (s ∷ slots) (suc i) l long = parameter_at n slots i (omega (arith, l)) (omega (arith, long))

pub slots_long : (tys : List «Type») (classes : List Class) → length (slots tys classes) ≡ length tys
slots_long [] classes = refl
slots_long (ty ∷ tys) classes = ap suc (slots_long tys (drop 1 classes))

module _ (g : CodeFn) (fits : g.params ≤ length g.variables) where
  long : length (parameter_classes g.params g.variables) ≡ g.params
  long = parameters_long g.params g.variables fits

  pub formal_at : (m : ℕ) → 0 < m → m < g.params + 2
      → slice_get (formal_classes g) (place g.params m) ≡ Some (member_class g (member m))
  formal_at zero some outer = absurd (omega (arith, some))
  formal_at (suc zero) some outer =
      ap (slice_get (formal_classes g)) (sym long) ∙ get_last (parameter_classes g.params g.variables) (result_class g)
  formal_at (suc (suc i)) some outer =
      get_left (parameter_classes g.params g.variables) (result_class g ∷ []) i (omega (arith, outer, long))
      ∙ parameter_at g.params g.variables i (omega (arith, outer)) fits

  -- each formal is that of a member
  pub record IsFormal (at : ℕ) (c : Class) : Type 0 where
    pub number : ℕ
    pub some : 0 < number
    pub outer : number < g.params + 2
    pub is : at ≡ place g.params number
    pub class_is : member_class g (member number) ≡ c

  by_number : (at m : ℕ) (c : Class) → 0 < m → m < g.params + 2 → at ≡ place g.params m
      → slice_get (formal_classes g) at ≡ Some c → IsFormal at c
  by_number at m c some outer is e = record {
    number = m;
    some = some;
    outer = outer;
    is = is;
    class_is = same_Some (member_class g (member m)) c
        (sym (formal_at m some outer) ∙ ap (slice_get (formal_classes g)) (sym is) ∙ e);
  }

  formals_long : length (formal_classes g) ≡ g.params + 1
  formals_long = omega (arith, long, length-append (parameter_classes g.params g.variables) (result_class g ∷ []))

  pub formal_is : (at : ℕ) (c : Class) → slice_get (formal_classes g) at ≡ Some c → IsFormal at c
  formal_is at c e =
      let within = slice_get_within (formal_classes g) at c e in
      ⊎_elim
      (λ less. by_number at (suc (suc at)) c (omega arith) (omega (arith, less)) refl e)
      (λ more. by_number at 1 c (omega arith) (omega arith) (omega (arith, more, within, formals_long)) e)
      (cases_lt at g.params)

-- ---- what is passed for a member

pub variable_is : (o : Option ℕ) (v : ℕ) → option_map Variable o ≡ Some (Variable v) → o ≡ Some v
variable_is None v e = absurd (none-some (Variable v) e)
variable_is (Some w) v e = let same : w ≡ v = cc in ap Some same

module _ (f : CodeFn) (params : ℕ) (call : CallParts) (len : length call.from ≡ params) where
  abbrev actuals : List Class
  actuals = actual_classes f call.to call.from

  at_argument : (i v : ℕ) → slice_get call.from i ≡ Some v → slice_get actuals i ≡ Some (class_of f v)
  at_argument i v e =
      let within = slice_get_within call.from i v e in
      get_left (map (class_of f) call.from) (class_of_target f call.to ∷ []) i
      (omega (arith, within, length-map call.from (class_of f)))
      ∙ slice_get-map (class_of f) call.from i ∙ ap (option_map (class_of f)) e

  at_target : (d : ℕ) → call.to ≡ Some d → slice_get actuals params ≡ Some (class_of f d)
  at_target d e =
      ap (slice_get actuals) (sym (length-map call.from (class_of f) ∙ len))
      ∙ get_last (map (class_of f) call.from) (class_of_target f call.to) ∙ ap (λ o. Some (class_of_target f o)) e

  pub actual_at : (m v : ℕ) → passed_member call m ≡ Some (Variable v)
      → get_or actuals (place params m) NoClass ≡ class_of f v
  actual_at zero v e = absurd cc
  actual_at (suc zero) v e =
      get_or_from_slice_get actuals params (class_of f v) NoClass (at_target v (variable_is call.to v e))
  actual_at (suc (suc i)) v e =
      get_or_from_slice_get actuals i (class_of f v) NoClass (at_argument i v (variable_is (slice_get call.from i) v e))
