-- The examples of the definitions, by computation.
use Rattle.std.proofs.Common.{◌≡◌, ℕ, Bool, true, false, List, [], ◌∷◌, slice_get, Option, Some, None, is_some, refl}
use Rattle.std.proofs.Common.{ap, sym, ◌∙◌, subst, true≢false, zero-lt-suc, zero, suc, zero-le, bytes_eq, nat_eq}
use Rattle.std.proofs.Common.{codes, arith}
use Rattle.rgo_typed.specs.declared.types.Base.{Base}
use Rattle.rgo_typed.specs.declared.types.Base.TheVariants as base
use Rattle.rgo_typed.specs.declared.types.Type.{«Type»}
use Rattle.rgo_typed.specs.Types.{is_pointer_like}
use Rattle.rgo_wellformed.specs.TypeRules.{int, bool, slice_of, pointer_to, is_slice, Signature}
use Rattle.rgo_typed.specs.Tree.{Function}
use Rattle.std.specs.List.{IsDistinct}
use Rattle.rgo_wellformed.proofs.Types.{some_is}
use Rattle.rgo_wellformed.specs.Examples.{WellFormedExamples, IllFormedExamples, ProgramExamples, declared_for_examples}

pub well : WellFormedExamples
well = record {
  declared = ((refl, refl), (refl, tt, [], refl, (refl, refl)));
  added = (
    int,
    refl,
    refl,
    (
      refl,
      tt,
      int ∷ int ∷ [],
      (int, int ∷ [], refl, (refl, refl), (int, [], refl, (refl, tt, [], refl, (refl, refl)), refl)),
      (refl, refl),
    ),
  );
  compared = (
    bool,
    refl,
    refl,
    (
      refl,
      (refl, tt, slice_of int ∷ [], (slice_of int, [], refl, (refl, refl), refl), (slice_of int, refl, refl, refl)),
      (
        refl,
        tt,
        int ∷ int ∷ [],
        (int, int ∷ [], refl, (refl, refl), (int, [], refl, (refl, tt, [], refl, (refl, refl)), refl)),
        (int, refl, refl, refl),
      ),
    ),
  );
  built = (
    pointer_to 0,
    refl,
    refl,
    (
      refl,
      int ∷ pointer_to 0 ∷ [],
      refl,
      pointer_to 0 ∷ [],
      (pointer_to 0, [], refl, (refl, refl), refl),
      (pointer_to 0, [], refl, refl, refl),
    ),
  );
  stored = (
    pointer_to 0 ∷ pointer_to 0 ∷ [],
    (
      pointer_to 0,
      pointer_to 0 ∷ [],
      refl,
      (refl, refl),
      (pointer_to 0, [], refl, (refl, zero-lt-suc 0, [], refl, (refl, refl)), refl),
    ),
    (0, pointer_to 0, refl, (int ∷ pointer_to 0 ∷ [], refl, refl)),
  );
  updated = (
    pointer_to 0 ∷ [],
    (pointer_to 0, [], refl, (refl, refl), refl),
    tt,
    (0, refl, (int ∷ pointer_to 0 ∷ [], refl, refl)),
    (refl, tt, [], refl, (refl, refl)),
    (refl, refl),
    (0, int, refl, (int ∷ pointer_to 0 ∷ [], refl, refl)),
  );
  returned = (
    int,
    refl,
    (
      refl,
      record { params = int ∷ []; result_type = Some int },
      refl,
      (int, [], refl, (refl, tt, [], refl, (refl, refl)), refl),
      refl,
    ),
  );
  started = (record { params = []; result_type = None }, refl, refl, refl);
  left = (tt, (refl, tt), tt);
  again = (
    (((refl, refl), (refl, tt, [], refl, (refl, refl))), tt),
    ((((refl, refl), (refl, tt, [], refl, (refl, refl))), tt), tt),
  );
  printed = (int ∷ [], (int, [], refl, (refl, refl), refl), (int, [], refl, refl, refl));
}

-- ---- tests that distinguish types

abbrev is_int_base : Base → Bool
is_int_base base.Int = true
is_int_base _ = false

abbrev is_int : «Type» → Bool
is_int t = is_int_base t.base

abbrev target_in : Base → ℕ
target_in (base.Pointer n) = n
target_in _ = 0

abbrev type_in : Option «Type» → «Type»
type_in None = int
type_in (Some t) = t

abbrev first : List «Type» → «Type»
first [] = int
first (t ∷ l) = t

abbrev rest : List «Type» → List «Type»
rest [] = []
rest (t ∷ l) = l

abbrev is_some_type : List «Type» → Bool
is_some_type [] = false
is_some_type (t ∷ l) = true

abbrev fields_in : Option (List «Type») → List «Type»
fields_in None = []
fields_in (Some l) = l

abbrev params_in : Option Signature → List «Type»
params_in None = []
params_in (Some s) = s.params

abbrev result_in : Option Signature → Option «Type»
result_in None = None
result_in (Some s) = s.result_type

no_bool : int ≡ bool → ⊥
no_bool e = true≢false (ap is_int e)

pub ill : IllFormedExamples
ill = record {
  unread = λ h. true≢false (sym h.1.0);
  undeclared = λ h. true≢false (sym h.1);
  after_its_block = λ h. true≢false (sym h.1.0.1);
  twice = λ h. true≢false h.0.0;
  other_type = λ h. no_bool (sym (ap type_in h.0.1));
  bool_to_int = λ h. no_bool (ap type_in h.2 ∙ sym h.3.0);
  nil_to_int = λ h. true≢false (sym h.1.4.1);
  bool_added = λ h. no_bool (sym (ap first (sym h.1.3.2 ∙ h.1.4.0)) ∙ sym (ap type_in h.1.3.3.1));
  slices_compared = λ h. true≢false (ap is_slice (ap type_in h.1.3.3.1 ∙ ap first (sym h.1.3.2 ∙ h.1.4.1)) ∙ h.1.4.2);
  int_and_bool = λ h. no_bool h.1.1.0;
  bool_added_to_field = λ h. no_bool (sym h.4.0);
  int_condition = λ h. no_bool h.0.0;
  int_loop = λ h. no_bool h.0.0;
  no_struct = λ h. absurd (omega (arith, h.1.1));
  no_field = λ h.
      let at : 0 ≡ h.1.4.0 = ap (λ t. target_in t.base) (ap type_in h.1.3.3.1 ∙ ap first (sym h.1.3.2 ∙ h.1.4.1)) in
      let fields : int ∷ pointer_to 0 ∷ [] ≡ h.1.4.2.0 =
      ap fields_in (subst (λ n. slice_get declared_for_examples.structs n ≡ Some h.1.4.2.0) (sym at) h.1.4.2.1) in
      true≢false (sym (ap is_some (subst (λ l. slice_get l 2 ≡ Some int) (sym fields) h.1.4.2.2)));
  int_stored = λ h.
      let at : 0 ≡ h.2.0 = ap (λ t. target_in t.base) (ap type_in h.1.3.1 ∙ ap first (sym h.1.2 ∙ h.2.2)) in
      let fields : int ∷ pointer_to 0 ∷ [] ≡ h.2.3.0 =
      ap fields_in (subst (λ n. slice_get declared_for_examples.structs n ≡ Some h.2.3.0) (sym at) h.2.3.1) in
      let field : pointer_to 0 ≡ h.2.1 = ap type_in (subst (λ l. slice_get l 1 ≡ Some h.2.1) (sym fields) h.2.3.2) in
      let value : int ≡ h.2.1 = h.1.4.3.0 ∙ ap first (sym h.1.4.2 ∙ ap rest (sym h.1.2 ∙ h.2.2)) in
      true≢false (ap is_int (value ∙ sym field));
  int_built = λ h.
      let field : pointer_to 0 ≡ h.1.5.0 =
      ap type_in (subst (λ l. slice_get l 1 ≡ Some h.1.5.0) (sym (ap fields_in h.1.2)) h.1.5.3) in
      let value : int ≡ h.1.5.0 = h.1.4.3.0 ∙ ap first (sym h.1.4.2 ∙ h.1.5.2) in
      true≢false (ap is_int (value ∙ sym field));
  no_argument = λ h. true≢false (ap is_some_type (ap params_in h.1.2 ∙ h.1.3));
  no_function = λ h. true≢false (sym (ap is_some h.1));
  no_value = λ h. true≢false (sym (ap is_some (ap result_in h.1.2 ∙ h.1.4)));
  with_result = λ h. true≢false (ap is_some (ap result_in h.1 ∙ h.3));
  no_result = λ h. true≢false (ap is_some h);
  other_result = λ h. no_bool (ap type_in h.1 ∙ sym h.2.0);
  no_loop = λ h. true≢false (sym h);
  no_loop_to_continue = λ h. true≢false (sym h);
  pointer_printed = λ h. true≢false (ap is_pointer_like (ap type_in h.1.3.1 ∙ ap first (sym h.1.2 ∙ h.2.2)) ∙ h.2.3);
  no_piece = λ h. true≢false (sym (ap is_some_type (sym h.1 ∙ h.2.2)));
}

-- ---- programs

alone : (f : Function) (n : ℕ) (main : Function) → slice_get (f ∷ []) n ≡ Some main → f ≡ main
alone f zero main h = some_is f main h
alone f (suc n) main h = absurd (true≢false (sym (ap is_some h)))

pub programs : ProgramExamples
unfolding IsDistinct
programs = record {
  prints = record {
    structs = tt;
    variables = tt;
    functions = (
      record {
        params = zero-le;
        locals = (tt, tt);
        result_type = tt;
        body = (
          ((refl, refl), (refl, tt, [], refl, (refl, refl))),
          ((int ∷ [], (int, [], refl, (refl, refl), refl), (int, [], refl, refl, refl)), tt),
        );
      },
      tt,
    );
    struct_names = tt;
    variable_names = tt;
    function_names = (tt, tt);
    has_main = (0, _, refl, record { name = refl; params = refl; result_type = refl });
  };
  no_main =
      λ h. true≢false (sym (ap (λ f. bytes_eq f.name (codes "main")) (alone _ h.has_main.0 h.has_main.1 h.has_main.2)
      ∙ ap (λ n. bytes_eq n (codes "main")) h.has_main.3.name));
  main_takes =
      λ h. true≢false (ap (λ f. nat_eq f.params 1) (alone _ h.has_main.0 h.has_main.1 h.has_main.2) ∙ ap
      (λ n. nat_eq n 1) h.has_main.3.params);
  twice = λ h. true≢false h.function_names.0.0;
  no_struct = λ h. absurd (omega (arith, h.functions.0.locals.0));
}
