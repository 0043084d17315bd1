-- What is passed, by a map from names to actuals.
use Rattle.std.proofs.Common.{◌≡◌, ◌≢◌, ⊎_elim, ◌<◌, ◌≤◌, ◌+◌, ℕ, Bool, true, false, nat_eq, List, map, length, get_or, Option, Some, None, slice_get, refl, sym, ap, ◌∙◌, arith}
use Rattle.std.specs.HashMap.{HashMap, get}
use Rattle.std.specs.Option.{option_map}
use Rattle.std.proofs.lemmas.Bool.{cases_eq, cases_lt, ne_eqb}
use Rattle.std.proofs.lemmas.List.{length-map}
use Rattle.std.proofs.lemmas.Option.{same_Some, none-some, slice_get-map, slice_get_within}
use Rattle.rgo_tac.specs.declared.regions.Class.{Class}
use Rattle.rgo_tac.specs.declared.regions.Class.TheVariants.{NoClass, Name}
use Rattle.rgo_code.specs.Names.{is_class_named}
use Rattle.rgo_region_sets.proofs.Passed.{is_name_is, is_name_same}
use Rattle.rgo_insert.specs.Passing.{class_if, passed_by, passed_for, AddsActual, AreActuals, AreClassesPassed}

module _ {S : Type 0} (old new : HashMap ℕ Class S) (name : ℕ) (actual : Class)
    (here : get nat_eq new name ≡ Some actual)
    (others : (k : ℕ) → nat_eq name k ≡ false → get nat_eq new k ≡ get nat_eq old k) where
  pub adds_name : AddsActual old new (Name name) actual
  adds_name k = ⊎_elim
      (λ e. ap (get nat_eq new) e ∙ here
      ∙ ap (λ b. class_if b actual (get nat_eq old k)) (sym (is_name_same k (Name name) (ap Name (sym e)))))
      (λ n. others k (ne_eqb name k (λ e. n (sym e)))
      ∙ ap (λ b. class_if b actual (get nat_eq old k)) (sym (ne_eqb k name n)))
      (cases_eq k name)

module _ {S : Type 0} (old new : HashMap ℕ Class S) (formals actuals : List Class) (n : ℕ) (formal : Class)
    (at : slice_get formals n ≡ Some formal) (are : AreActuals old formals actuals n)
    (adds : AddsActual old new formal (get_or actuals n NoClass)) where
  abbrev actual : Class
  actual = get_or actuals n NoClass

  pub more_actuals : AreActuals new formals actuals (n + 1)
  more_actuals = record {
    sound = λ k class e. sound_by k class (is_class_named k formal) refl (sym (adds k) ∙ e);
    complete = λ i k less e none. ⊎_elim
        (λ before. kept (is_class_named k formal) k (are.complete i k before e) (sym (adds k) ∙ none))
        (λ later. now k (same_Some formal (Name k) (sym at ∙ ap (slice_get formals) (same_place i less later) ∙ e))
        (sym (adds k) ∙ none))
        (cases_lt i n);
  }
    where
      same_place : (i : ℕ) → i < n + 1 → n ≤ i → n ≡ i
      same_place i less later = omega (arith, less, later)

      sound_by : (k : ℕ) (class : Class) (b : Bool) → is_class_named k formal ≡ b
          → class_if (is_class_named k formal) actual (get nat_eq old k) ≡ Some class
          → (i : ℕ) × (slice_get formals i ≡ Some (Name k)) × (get_or actuals i NoClass ≡ class)
      sound_by k class true is e = (
        n,
        at ∙ ap Some (is_name_is k formal is),
        same_Some actual class (sym (ap (λ b. class_if b actual (get nat_eq old k)) is) ∙ e),
      )
      sound_by k class false is e =
          are.sound k class (sym (ap (λ b. class_if b actual (get nat_eq old k)) is) ∙ e)

      kept : (b : Bool) (k : ℕ) → get nat_eq old k ≢ None → class_if b actual (get nat_eq old k) ≡ None → ⊥
      kept true k some none = none-some actual (sym none)
      kept false k some none = some none

      now : (k : ℕ) → formal ≡ Name k → class_if (is_class_named k formal) actual (get nat_eq old k) ≡ None → ⊥
      now k is none =
          none-some actual (sym none ∙ ap (λ b. class_if b actual (get nat_eq old k)) (is_name_same k formal is))

module _ {S : Type 0} (found : HashMap ℕ Class S) (formals actuals regions : List Class)
    (are : AreActuals found formals actuals (length formals)) where
  pub all_passed : AreClassesPassed formals actuals regions (map (passed_by found) regions)
  all_passed = record {
    len = length-map regions (passed_by found);
    each = λ p i k region formal.
        by p k region (are.complete i k (slice_get_within formals i (Name k) formal) formal) (get nat_eq found k) refl;
  }
    where
      by : (p k : ℕ) → slice_get regions p ≡ Some (Name k) → get nat_eq found k ≢ None → (o : Option Class)
          → get nat_eq found k ≡ o
          → (j : ℕ) × (slice_get formals j ≡ Some (Name k))
          × (slice_get (map (passed_by found) regions) p ≡ Some (get_or actuals j NoClass))
      by p k region some None e = absurd (some e)
      by p k region some (Some class) e =
          let s = are.sound k class e in (
            s.0,
            s.1,
            slice_get-map (passed_by found) regions p ∙ ap (option_map (passed_by found)) region
                ∙ ap (λ o. Some (passed_for o)) e ∙ ap Some (sym s.2),
          )
