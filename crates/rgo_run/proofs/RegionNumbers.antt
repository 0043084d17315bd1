-- The region names of a function are numbers that fit 32 bits, as the numbers of its variables do: a class is numbered after all that
-- begin before it, so its number is at most the place of its first member.
use Rattle.std.proofs.Common.{◌≡◌, ⊎_elim, ℕ, zero, suc, ◌+◌, ◌<◌, ◌≤◌, ◌^◌, List, [], ◌∷◌, ◌++◌, length, map, Option, Some, None, slice_get, get_or, is_some, refl, sym, ap, ◌∙◌, subst, arith}
use Rattle.std.specs.List.{All, Contains}
use Rattle.std.proofs.lemmas.List.{length-map}
use Rattle.std.proofs.lemmas.List.Elements.{All-weaker, All-contains_itself, All-contains}
use Rattle.std.proofs.lemmas.Option.{same_Some, none-some, slice_get-get_or, slice_get_within}
use Rattle.rgo_tac.specs.declared.regions.Class.{Class}
use Rattle.rgo_tac.specs.declared.regions.Class.TheVariants.{NoClass, Global, Name}
use Rattle.rgo_summaries.specs.Calls.{member}
use Rattle.rgo_classes.specs.Classes.{AreNumbered}
use Rattle.rgo_code.specs.ClassRules.{IsPassedFor, PassesClasses}
use Rattle.rgo_code.specs.Code.{Slot, CodeInstr, CodeFn, Code}
use Rattle.rgo_code.specs.NameRules.{CreatesUsed, RemovesDead, EntryRemovesDead}
use Rattle.rgo_code.specs.Names.{slot_class, class_of, result_class, member_class, parameter_classes, region_parameters, IsParameterName, edges}
use Rattle.rgo_code_text.specs.Written.{SlotFits}
use Rattle.rgo_code_words.specs.Worded.{IsSmallNumber, AreSmall, ClassFits}
use Rattle.rgo_insert.specs.Passing.{formal_classes}
use Rattle.rgo_insert.proofs.Formals.{formal_is}
use Rattle.rgo_insert.proofs.RegionNames.{name_of_one}
use Rattle.rgo_typing_laws.proofs.Lists.{still_there, mapped_at, at_end}

-- a class is numbered after those of all smaller numbers, so its number is at most its place
numbered_below : (classes : List Class) → AreNumbered classes → (k i : ℕ) → slice_get classes i ≡ Some (Name k) → k ≤ i
numbered_below classes h zero i e = omega arith
numbered_below classes h (suc k) i e =
    let before = h i (suc k) k e (omega arith) in
    omega (arith, before.1, numbered_below classes h k before.0 before.2)

-- what holds of each item holds of all
pub of_each : {A : Type 0} (P : A → Type 0) (xs : List A) → ((x : A) → Contains xs x → P x) → All P xs
of_each P xs h = All-weaker (Contains xs) P h xs (All-contains_itself xs)

pub item_at : {A : Type 0} (xs : List A) (x : A) → Contains xs x → (i : ℕ) × (slice_get xs i ≡ Some x)
item_at xs x c = (c.0, slice_get-get_or xs c.0 x c.1 ∙ ap Some c.2)

parameter_at : (n : ℕ) (slots : List Slot) (i : ℕ) (c : Class) → slice_get (parameter_classes n slots) i ≡ Some c
    → slot_class (slice_get slots i) ≡ c
parameter_at zero slots i c e = absurd (none-some c e)
parameter_at (suc n) [] i c e = absurd (none-some c e)
parameter_at (suc n) (s ∷ slots) zero c e = same_Some s.class c e
parameter_at (suc n) (s ∷ slots) (suc i) c e = parameter_at n slots i c e

class_fits : (c : Class) → ((k : ℕ) → c ≡ Name k → IsSmallNumber k) → ClassFits c
class_fits NoClass h = tt
class_fits Global h = tt
class_fits (Name k) h = h k refl

module _ (f : CodeFn) (numbered : AreNumbered (map (λ (s : Slot). s.class) f.variables ++ result_class f ∷ []))
    (few : length f.variables < 2 ^ 32) where
  abbrev of_variables : List Class
  of_variables = map (λ (s : Slot). s.class) f.variables

  pub variable_class : (v k : ℕ) → class_of f v ≡ Name k → IsSmallNumber k
  variable_class v k e = go (slice_get f.variables v) refl e
    where
      go : (o : Option Slot) → slice_get f.variables v ≡ o → slot_class o ≡ Name k → IsSmallNumber k
      go None is n = absurd cc
      go (Some s) is n =
          let at = still_there of_variables (result_class f ∷ []) v s.class
          (mapped_at (λ (s : Slot). s.class) f.variables v s is) in
          omega (
            arith,
            few,
            slice_get_within f.variables v s is,
            numbered_below (of_variables ++ result_class f ∷ []) numbered k v (at ∙ ap Some n),
          )

  pub result_small : (k : ℕ) → result_class f ≡ Name k → IsSmallNumber k
  result_small k e =
      let at = at_end of_variables (result_class f) [] in
      omega (
        arith,
        few,
        length-map f.variables (λ (s : Slot). s.class),
        numbered_below (of_variables ++ result_class f ∷ []) numbered k (length of_variables) (at ∙ ap Some e),
      )

  pub variable_fits : (v : ℕ) → ClassFits (class_of f v)
  variable_fits v = class_fits (class_of f v) (variable_class v)

  pub slot_fits : (v : ℕ) (s : Slot) → slice_get f.variables v ≡ Some s → SlotFits s
  slot_fits v s e = subst ClassFits (ap slot_class e) (variable_fits v)

  pub result_fits : ClassFits (result_class f)
  result_fits = class_fits (result_class f) result_small

  parameter_small : (k : ℕ) → IsParameterName f k → IsSmallNumber k
  parameter_small k c =
      let at = item_at (parameter_classes f.params f.variables) (Name k) c in
      variable_class at.0 k (parameter_at f.params f.variables at.0 (Name k) at.1)

  pub entry_small : EntryRemovesDead f → AreSmall f.entry
  entry_small h = of_each IsSmallNumber f.entry (λ k c. parameter_small k ((h k).0 c).1)

  pub creates_small : (i : ℕ) (instr : CodeInstr) → CreatesUsed f i instr → AreSmall instr.creates
  creates_small i instr h =
      of_each IsSmallNumber instr.creates (λ k c. let used = ((h k).0 c).1 in variable_class used.variable k used.named)

  pub removes_small : (code : Code) (i : ℕ) (instr : CodeInstr) → CreatesUsed f i instr → RemovesDead code f i instr
      → (j : ℕ) (removes : List ℕ) → Contains (edges instr.op i) (j, removes) → AreSmall removes
  removes_small code i instr creates h j removes edge =
      of_each IsSmallNumber removes (λ k c.
      ⊎_elim (λ held. variable_class held.1.variable k held.1.named)
      (λ made. All-contains IsSmallNumber instr.creates k (creates_small i instr creates) made)
      ((h j removes edge k).0 c).0.0)

  -- what is passed has the class of an argument, or of the variable for the result
  module _ (callee : CodeFn) (to : Option ℕ) (from : List ℕ) (passes : List Class)
      (long : length from ≡ callee.params) (params : callee.params ≤ length callee.variables)
      (target : is_some to ≡ is_some callee.result) (p : PassesClasses f callee to from passes) where
    passed_as : (parameter actual : Class) (n at : ℕ) → parameter ≡ Name n
        → IsPassedFor (region_parameters callee) passes parameter actual
        → slice_get (region_parameters callee) at ≡ Some (Name n) → slice_get passes at ≡ Some actual
    passed_as parameter actual n at e h there =
        subst (λ x. IsPassedFor (region_parameters callee) passes x actual) e h at there

    result_there : (to : Option ℕ) (o : Option Slot) (k : ℕ) → is_some to ≡ is_some o → slot_class o ≡ Name k
        → (d : ℕ) × (to ≡ Some d)
    result_there to None k same e = absurd cc
    result_there None (Some s) k same e = absurd cc
    result_there (Some d) (Some s) k same e = (d, refl)

    actual_fits : (m n at : ℕ) (c : Class) → 0 < m → m < callee.params + 2 → member_class callee (member m) ≡ Name n
        → slice_get (region_parameters callee) at ≡ Some (Name n) → slice_get passes at ≡ Some c → ClassFits c
    actual_fits zero n at c some outer e there is = absurd (omega (arith, some))
    actual_fits (suc zero) n at c some outer e there is =
        let d = result_there to callee.result n target e in
        subst ClassFits
        (same_Some (class_of f d.0) c (sym (passed_as (result_class callee) (class_of f d.0) n at e (p.result d.0 d.1) there) ∙ is))
        (variable_fits d.0)
    actual_fits (suc (suc i)) n at c some outer e there is =
        let v = slice_get-get_or from i 0 (omega (arith, outer, long)) in
        let argument = class_of f (get_or from i 0) in
        subst ClassFits
        (same_Some argument c
        (sym (passed_as (class_of callee i) argument n at e (p.arguments i (get_or from i 0) (omega (arith, outer)) v) there)
        ∙ is))
        (variable_fits (get_or from i 0))

    pub passes_fit : All ClassFits passes
    passes_fit = of_each ClassFits passes (λ c h.
        let at = item_at passes c h in
        let within = slice_get_within passes at.0 c at.1 in
        let region = slice_get-get_or (region_parameters callee) at.0 NoClass (omega (arith, within, p.len)) in
        let n = name_of_one [] (formal_classes callee) at.0 (get_or (region_parameters callee) at.0 NoClass) region in
        let m = formal_is callee params n.at (Name n.name) n.here in
        actual_fits m.number n.name at.0 c m.some m.outer m.class_is (region ∙ ap Some n.is) at.1)
