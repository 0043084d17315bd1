-- The classes of a function's members: two have one class if they are the same under the summaries.
use Rattle.std.proofs.Common.{◌≡◌, ◌≢◌, ◌⊎◌, inl, inr, ⊎_elim, ℕ, ◌+◌, true, List, [], ◌∷◌, ◌++◌, map, length, Option, Some, None, slice_get, refl, sym, ap, ◌∙◌, subst, arith, length-append}
use Rattle.std.specs.Option.{option_map}
use Rattle.std.proofs.lemmas.Option.{same_Some, none-some, slice_get_within, slice_get-get_or}
use Rattle.rgo_typed.specs.declared.types.Type.{«Type»}
use Rattle.rgo_tac.specs.declared.regions.Class.{Class}
use Rattle.rgo_tac.specs.declared.regions.Class.TheVariants as class
use Rattle.rgo_tac.specs.declared.regions.Member.{Member}
use Rattle.rgo_tac.specs.declared.regions.Member.TheVariants.{Variable, Result, Global}
use Rattle.rgo_tac.specs.Code.{TacFn}
use Rattle.rgo_tac.specs.Joins.{is_pointer_like_type}
use Rattle.rgo_classes.specs.declared.classes.Summary.{Summary}
use Rattle.rgo_classes.specs.Classes.{AreClasses, InOneClass, all_members}
use Rattle.rgo_classes.specs.Joins.{IsPointerLike, Joins}
use Rattle.rgo_classes.proofs.Chains.{symmetric}
use Rattle.rgo_summaries.proofs.Naming.{pointer_like_or_not}
use Rattle.rgo_summaries.proofs.Outer.{before_after, before_get, before_len, get_last, get_left}
use Rattle.rgo_code.specs.declared.notes.Regions.{Regions}
use Rattle.rgo_code.specs.Erasure.{erased_fn}
use Rattle.rgo_code.specs.Names.{member_class, result_class, slot_class}
use Rattle.rgo_code.specs.Views.{code_fn, slot, slots}
use Rattle.rgo_code.proofs.Erased.{fn_erased}
use Rattle.rgo_code.proofs.Parts.{class_found, no_class}
use Rattle.rgo_insert.specs.Bare.{classes_by}
use Rattle.rgo_insert.specs.Inserted.{classes_in}

pub some_type : (o : Option «Type») → is_pointer_like_type o ≡ true → (ty : «Type») × (o ≡ Some ty)
some_type None e = absurd cc
some_type (Some ty) e = (ty, refl)

pub pointer_like_variable : (f : TacFn) (v : ℕ) → IsPointerLike f (Variable v)
    → (ty : «Type») × (slice_get f.variables v ≡ Some ty)
pointer_like_variable f v like = some_type (slice_get f.variables v) like

module _ (sums : List Summary) (f : TacFn) (r : Regions) (are : AreClasses sums f (classes_by r)) where
  abbrev pub classes : List Class
  classes = r.classes ++ r.result ∷ []

  abbrev pub class_in : Member → Class
  class_in m = member_class (code_fn f r) m

  all_len : length (all_members f) ≡ length f.variables + 1
  all_len = before_len (length f.variables) (Result ∷ [])

  pub long : length r.classes ≡ length f.variables
  long = omega (arith, are.len, length-append r.classes (r.result ∷ []), all_len)

  -- the place of a member and of its class
  pub record Placed (m : Member) : Type 0 where
    pub at : ℕ
    pub here : slice_get (all_members f) at ≡ Some m
    pub class_is : slice_get classes at ≡ Some (class_in m)

  pub variable_placed : (v : ℕ) (ty : «Type») → slice_get f.variables v ≡ Some ty → Placed (Variable v)
  variable_placed v ty e =
      let within = slice_get_within f.variables v ty e in
      record {
        at = v;
        here = before_get (length f.variables) v (Result ∷ []) within;
        class_is = get_left r.classes (r.result ∷ []) v (omega (arith, within, long))
            ∙ slice_get-get_or r.classes v class.NoClass (omega (arith, within, long))
            ∙ ap Some (class_found f.variables r.classes v ty e);
      }

  end : length f.variables ≡ length f.variables + 0
  end = omega arith

  pub result_by_type : (o : Option «Type») (ty : «Type») → o ≡ Some ty
      → r.result ≡ slot_class (option_map (λ t. slot t r.result) o)
  result_by_type o ty e = sym (ap (λ p. slot_class (option_map (λ t. slot t r.result) p)) e)

  pub result_placed : (ty : «Type») → f.result_type ≡ Some ty → Placed Result
  result_placed ty e = record {
    at = length f.variables;
    here = ap (slice_get (all_members f)) end ∙ before_after (length f.variables) 0 (Result ∷ []);
    class_is = ap (slice_get classes) (sym long) ∙ get_last r.classes r.result
        ∙ ap Some (result_by_type f.result_type ty e);
  }

  pub placed_or_global : (m : Member) → IsPointerLike f m → (m ≡ Global) ⊎ Placed m
  placed_or_global (Variable v) like =
      let t = pointer_like_variable f v like in inr (variable_placed v t.0 t.1)
  placed_or_global Result like = let t = some_type f.result_type like in inr (result_placed t.0 t.1)
  placed_or_global Global like = inl refl

  pub placed_of_class : (m : Member) → m ≢ Global → class_in m ≢ class.NoClass → Placed m
  placed_of_class (Variable v) other some = by (slice_get f.variables v) refl
    where
      by : (o : Option «Type») → slice_get f.variables v ≡ o → Placed (Variable v)
      by None e = absurd (some (sym (no_class f.variables r.classes v e)))
      by (Some ty) e = variable_placed v ty e
  placed_of_class Result other some = by f.result_type refl
    where
      by : (o : Option «Type») → f.result_type ≡ o → Placed Result
      by None e = absurd (some (ap (λ p. slot_class (option_map (λ t. slot t r.result) p)) e))
      by (Some ty) e = result_placed ty e
  placed_of_class Global other some = absurd (other refl)

  -- ---- from members to classes

  global_class : (m : Member) → Placed m → IsPointerLike f m → InOneClass sums f m Global → class_in m ≡ class.Global
  global_class m p like same =
      same_Some (class_in m) class.Global (sym p.class_is ∙ (are.global p.at m p.here).1 (like, same))

  pub agree : (m n : Member) → IsPointerLike f m → IsPointerLike f n → InOneClass sums f m n → class_in m ≡ class_in n
  agree m n lm ln same = ⊎_elim
      (λ mg. ⊎_elim
      (λ ng. ap class_in (mg ∙ sym ng))
      (λ q. ap class_in mg
      ∙ sym (global_class n q ln (subst (InOneClass sums f n) mg (symmetric (Joins sums f) m n same))))
      (placed_or_global n ln))
      (λ p. ⊎_elim
      (λ ng. global_class m p lm (subst (InOneClass sums f m) ng same) ∙ sym (ap class_in ng))
      (λ q. same_Some (class_in m) (class_in n)
      (sym p.class_is ∙ (are.same p.at q.at m n p.here q.here lm ln).1 same ∙ q.class_is))
      (placed_or_global n ln))
      (placed_or_global m lm)

  pub class_of_like : (m : Member) → Placed m → IsPointerLike f m → class_in m ≢ class.NoClass
  class_of_like m p like none = (are.none p.at m p.here).0 (p.class_is ∙ ap Some none) like

  -- ---- from classes to members

  pub like_of_class : (m : Member) → Placed m → class_in m ≢ class.NoClass → IsPointerLike f m
  like_of_class m p some = ⊎_elim
      (λ like. like)
      (λ no. absurd (some (same_Some (class_in m) class.NoClass (sym p.class_is ∙ (are.none p.at m p.here).1 no))))
      (pointer_like_or_not f m)

  pub same_of_class : (m n : Member) → Placed m → Placed n → class_in m ≡ class_in n → class_in m ≢ class.NoClass
      → InOneClass sums f m n
  same_of_class m n p q e some =
      (are.same p.at q.at m n p.here q.here (like_of_class m p some) (like_of_class n q (λ z. some (e ∙ z)))).0
      (p.class_is ∙ ap Some e ∙ sym q.class_is)

  pub global_of_class : (m : Member) → Placed m → class_in m ≡ class.Global → InOneClass sums f m Global
  global_of_class m p e = ((are.global p.at m p.here).0 (p.class_is ∙ ap Some e)).1

  -- ---- the classes that the function says

  classes_said : (tys : List «Type») (cs : List Class) → length cs ≡ length tys → map (λ s. s.class) (slots tys cs) ≡ cs
  classes_said [] [] e = refl
  classes_said [] (c ∷ cs) e = absurd (omega (arith, e))
  classes_said (ty ∷ tys) [] e = absurd (omega (arith, e))
  classes_said (ty ∷ tys) (c ∷ cs) e = ap (λ rest. c ∷ rest) (classes_said tys cs (omega (arith, e)))

  no_result_class : f.result_type ≡ None → r.result ≡ class.NoClass
  no_result_class none =
      let plain : IsPointerLike f Result → ⊥ =
      λ like. let t = some_type f.result_type like in none-some t.0 (sym none ∙ t.1) in
      same_Some r.result class.NoClass
      (sym (ap (slice_get classes) (sym long) ∙ get_last r.classes r.result)
      ∙ (are.none (length f.variables) Result
      (ap (slice_get (all_members f)) end ∙ before_after (length f.variables) 0 (Result ∷ []))).1 plain)

  result_said : (o : Option «Type») → f.result_type ≡ o → result_class (code_fn f r) ≡ r.result
  result_said None e =
      ap (λ p. slot_class (option_map (λ t. slot t r.result) p)) e ∙ sym (no_result_class e)
  result_said (Some ty) e = sym (result_by_type f.result_type ty e)

  said : classes_in (code_fn f r) ≡ classes_by r
  said =
      ap (λ vs. record { variables = vs; result = result_class (code_fn f r) })
      (classes_said f.variables r.classes long)
      ∙ ap (λ c. record { variables = r.classes; result = c }) (result_said f.result_type refl)

  pub has_classes : AreClasses sums (erased_fn (code_fn f r)) (classes_in (code_fn f r))
  has_classes = subst (λ g. AreClasses sums g (classes_in (code_fn f r))) (sym (fn_erased f r))
      (subst (λ c. AreClasses sums f c) (sym said) are)
