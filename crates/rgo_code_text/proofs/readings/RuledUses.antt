-- Code that keeps the first rule uses names that it declares, each once.
use Rattle.std.proofs.Common.{◌≡◌, ℕ, zero, suc, ◌<◌, Bool, true, false, List, [], ◌∷◌, ◌++◌, map, length, get_or, Option, Some, None, slice_get, bytes_eq, refl, sym, ap, ◌∙◌, subst, arith, append-nil}
use Rattle.std.specs.List.{All, flat_map}
use Rattle.std.specs.Option.{option_map}
use Rattle.std.proofs.lemmas.Bool.Decides.{Decides-ltb}
use Rattle.std.proofs.lemmas.List.{length-map}
use Rattle.std.proofs.lemmas.List.Elements.{All-nil, All-cons, All-head, All-tail, All-append}
use Rattle.std.proofs.lemmas.List.Sums.{position_or_len_is}
use Rattle.std.proofs.lemmas.Option.{slice_get-get_or, slice_get_within}
use Rattle.std.proofs.lemmas.Slice.Eq.{bytes_eq-Decides}
use Rattle.rgo_typed.specs.declared.actions.Action.{Action}
use Rattle.rgo_typed.specs.declared.actions.Action.TheVariants as action
use Rattle.rgo_typed.specs.declared.types.Base.{Base}
use Rattle.rgo_typed.specs.declared.types.Base.TheVariants as base
use Rattle.rgo_typed.specs.declared.types.Type.{«Type»}
use Rattle.rgo_wellformed.specs.TypeRules.{IsBase}
use Rattle.rgo_code.specs.declared.rules.Line.TheVariants as line
use Rattle.rgo_code.specs.declared.rules.Rule.TheVariants as rule
use Rattle.rgo_code.specs.Checked.{IsChecked}
use Rattle.rgo_code.specs.Code.{Slot, CodeOp, CodeFn, Code, Do, Call, Go, Print, Jump, Branch, Return}
use Rattle.rgo_code.specs.Erasure.{erased_op, erased_fn, erased}
use Rattle.rgo_code.specs.Exists.{declared_in_code, TypeExists, IsNew, ActionExists, OpExists}
use Rattle.rgo_code_printing.specs.Words.{name_at}
use Rattle.rgo_code_text.specs.Written.{base_uses, type_uses, result_uses, struct_of_op, variable_in, function_in, naming_of, struct_named, variable_named, fn_structs, fn_variables, fn_functions, uses_of, number_of_name, AreFirst, unknown, KindIsWritten}
use Rattle.rgo_code_words.specs.Worded.{AreNames, is_among}
use Rattle.rgo_code_text.proofs.naming.Firsts.{among_is}

-- ---- lists

-- what holds of each item, by its number
pub each : {A : Type 0} (P : A → Type 0) (xs : List A) → ((i : ℕ) (x : A) → slice_get xs i ≡ Some x → P x) → All P xs
each P [] h = All-nil P
each P (x ∷ xs) h = All-cons P x xs (h 0 x refl) (each P xs (λ i y e. h (suc i) y e))

flat_each : {A B : Type 0} (P : B → Type 0) (f : A → List B) (xs : List A)
    → ((i : ℕ) (x : A) → slice_get xs i ≡ Some x → All P (f x)) → All P (flat_map f xs)
flat_each P f [] h = All-nil P
flat_each P f (x ∷ xs) h =
    All-append P (f x) (flat_map f xs) (h 0 x refl) (flat_each P f xs (λ i y e. h (suc i) y e))

-- ---- names that are declared once

abbrev pub IsFirst : List (List ℕ) → ℕ → Type 0
IsFirst names n = (n < length names) × (number_of_name names (name_at names n) ≡ n)

is_first : (names : List (List ℕ)) → ((n : ℕ) → n < length names → IsNew names n) → (n : ℕ) → n < length names → IsFirst names n
is_first names new n within =
    (within, position_or_len_is (λ known. bytes_eq known (name_at names n)) names n [] (omega (arith, within)) differ same)
  where
    there : (k : ℕ) → k < length names → slice_get names k ≡ Some (get_or names k [])
    there k less = slice_get-get_or names k [] less

    differ : (k : ℕ) → k < n → bytes_eq (get_or names k []) (name_at names n) ≡ false
    differ k less = by (bytes_eq (get_or names k []) (name_at names n)) refl
      where
        by : (t : Bool) → bytes_eq (get_or names k []) (name_at names n) ≡ t
            → bytes_eq (get_or names k []) (name_at names n) ≡ false
        by false e = e
        by true e =
            let one = (bytes_eq-Decides (get_or names k []) (name_at names n)).0 e in
            absurd (new n within k (get_or names n []) less (there n within)
            (there k (omega (arith, less, within)) ∙ ap Some one))

    same : n < length names → bytes_eq (get_or names n []) (name_at names n) ≡ true
    same less = (bytes_eq-Decides (get_or names n []) (name_at names n)).1 refl

known : (names : List (List ℕ)) (n : ℕ) → IsFirst names n → is_among names (name_at names n) ≡ true
known names n f =
    among_is names (name_at names n)
    ∙ (Decides-ltb (number_of_name names (name_at names n)) (length names)).1 (omega (arith, f.0, f.1))

none_unknown : (names : List (List ℕ)) (ns : List ℕ) → All (IsFirst names) ns → unknown names (map (name_at names) ns) ≡ []
none_unknown names [] f = refl
none_unknown names (n ∷ ns) f =
    rw (known names n (All-head (IsFirst names) n ns f)) (none_unknown names ns (All-tail (IsFirst names) n ns f))

pub kind : (declared undeclared : List (List ℕ)) (uses : List ℕ) → undeclared ≡ [] → AreNames declared
    → All (IsFirst declared) uses → KindIsWritten declared undeclared uses
kind declared undeclared uses e names first =
    subst (λ u. KindIsWritten declared u uses) (sym e) (record {
      names = subst AreNames (sym all) names;
      first = subst (λ ns. AreFirst ns uses) (sym all) first;
      unknown = sym (ap (λ ns. unknown declared (map (name_at ns) uses)) all ∙ none_unknown declared uses first);
    })
  where
    all : declared ++ [] ≡ declared
    all = append-nil declared

-- ---- the uses of code

module _ (code : Code) (checked : IsChecked code) where
  abbrev struct_names : List (List ℕ)
  struct_names = map (λ s. s.name) code.structs

  abbrev variable_names : List (List ℕ)
  variable_names = map (λ v. v.name) code.variables

  abbrev function_names : List (List ℕ)
  function_names = map (λ f. f.name) code.functions

  -- below the length there is an item
  at : {A : Type 0} (xs : List A) (n : ℕ) → n < length xs → (x : A) × (slice_get xs n ≡ Some x)
  at [] n l = absurd (omega (arith, l))
  at (x ∷ xs) zero l = (x, refl)
  at (x ∷ xs) (suc n) l = at xs n (omega (arith, l))

  structs_new : (n : ℕ) → n < length struct_names → IsNew struct_names n
  structs_new n l =
      let s = at code.structs n (omega (arith, l, length-map code.structs (λ s. s.name))) in
      (checked rule.Exists (line.Struct n) s.0 s.1).is_new

  variables_new : (n : ℕ) → n < length variable_names → IsNew variable_names n
  variables_new n l =
      let v = at code.variables n (omega (arith, l, length-map code.variables (λ v. v.name))) in
      (checked rule.Exists (line.Variable n) v.0 v.1).is_new

  erased_names : (fs : List CodeFn) → map (λ f. f.name) (map erased_fn fs) ≡ map (λ f. f.name) fs
  erased_names [] = refl
  erased_names (f ∷ fs) = ap (λ ns. f.name ∷ ns) (erased_names fs)

  functions_new : (n : ℕ) → n < length function_names → IsNew function_names n
  functions_new n l =
      let f = at code.functions n (omega (arith, l, length-map code.functions (λ f. f.name))) in
      subst (λ ns. IsNew ns n) (erased_names code.functions) (checked rule.Exists (line.Function n) f.0 f.1).is_new

  a_struct : (n : ℕ) → n < length code.structs → IsFirst struct_names n
  a_struct n l = is_first struct_names structs_new n (omega (arith, l, length-map code.structs (λ s. s.name)))

  a_variable : (n : ℕ) → n < length code.variables → IsFirst variable_names n
  a_variable n l = is_first variable_names variables_new n (omega (arith, l, length-map code.variables (λ v. v.name)))

  a_function : (n : ℕ) → n < length code.functions → IsFirst function_names n
  a_function n l = is_first function_names functions_new n (omega (arith, l, length-map code.functions (λ f. f.name)))

  one : (names : List (List ℕ)) (n : ℕ) → IsFirst names n → All (IsFirst names) (n ∷ [])
  one names n f = All-cons (IsFirst names) n [] f (All-nil (IsFirst names))

  none : (names : List (List ℕ)) → All (IsFirst names) []
  none names = All-nil (IsFirst names)

  -- ---- types

  of_type : (ty : «Type») → TypeExists (erased code) ty → All (IsFirst struct_names) (type_uses ty)
  of_type ty h = by ty.base h
    where
      by : (b : Base) → IsBase (declared_in_code (erased code)) b → All (IsFirst struct_names) (base_uses b)
      by base.Int h = none struct_names
      by base.Bool h = none struct_names
      by (base.Pointer n) h =
          one struct_names n (a_struct n (omega (arith, h, length-map code.structs (λ s. s.fields))))

  of_result : (o : Option Slot) → ((ty : «Type») → option_map (λ s. s.ty) o ≡ Some ty → TypeExists (erased code) ty)
      → All (IsFirst struct_names) (result_uses o)
  of_result None h = none struct_names
  of_result (Some s) h = of_type s.ty (h s.ty refl)

  -- ---- instructions

  struct_of : (f : CodeFn) (op : CodeOp) → OpExists (erased code) (erased_fn f) (erased_op op)
      → All (IsFirst struct_names) (struct_of_op op)
  struct_of f (Do to act from removes) h = by act h.0
    where
      by : (a : Action) → ActionExists (erased code) a → All (IsFirst struct_names) (struct_named (naming_of a))
      by (action.New n) h = one struct_names n (a_struct n h)
      by (action.Get n) h = none struct_names
      by (action.Set n) h = none struct_names
      by (action.Int k) h = none struct_names
      by (action.Bool b) h = none struct_names
      by action.Nil h = none struct_names
      by action.Copy h = none struct_names
      by (action.Binary op) h = none struct_names
      by action.Neg h = none struct_names
      by action.Not h = none struct_names
      by action.IsNil h = none struct_names
      by action.Len h = none struct_names
      by (action.Load k) h = none struct_names
      by (action.Store k) h = none struct_names
      by action.At h = none struct_names
      by action.Put h = none struct_names
      by action.Slice h = none struct_names
      by action.Chan h = none struct_names
      by action.Recv h = none struct_names
      by action.Send h = none struct_names
      by action.Close h = none struct_names
  struct_of f (Call to n from passes protects removes) h = none struct_names
  struct_of f (Go n from passes removes) h = none struct_names
  struct_of f (Print pieces from removes) h = none struct_names
  struct_of f (Jump target removes) h = none struct_names
  struct_of f (Branch test target removes other otherwise) h = none struct_names
  struct_of f (Return value) h = none struct_names

  variable_of : (f : CodeFn) (op : CodeOp) → OpExists (erased code) (erased_fn f) (erased_op op)
      → All (IsFirst variable_names) (variable_in op)
  variable_of f (Do to act from removes) h = by act h.0
    where
      by : (a : Action) → ActionExists (erased code) a → All (IsFirst variable_names) (variable_named (naming_of a))
      by (action.Get n) h = one variable_names n (a_variable n h)
      by (action.Set n) h = one variable_names n (a_variable n h)
      by (action.New n) h = none variable_names
      by (action.Int k) h = none variable_names
      by (action.Bool b) h = none variable_names
      by action.Nil h = none variable_names
      by action.Copy h = none variable_names
      by (action.Binary op) h = none variable_names
      by action.Neg h = none variable_names
      by action.Not h = none variable_names
      by action.IsNil h = none variable_names
      by action.Len h = none variable_names
      by (action.Load k) h = none variable_names
      by (action.Store k) h = none variable_names
      by action.At h = none variable_names
      by action.Put h = none variable_names
      by action.Slice h = none variable_names
      by action.Chan h = none variable_names
      by action.Recv h = none variable_names
      by action.Send h = none variable_names
      by action.Close h = none variable_names
  variable_of f (Call to n from passes protects removes) h = none variable_names
  variable_of f (Go n from passes removes) h = none variable_names
  variable_of f (Print pieces from removes) h = none variable_names
  variable_of f (Jump target removes) h = none variable_names
  variable_of f (Branch test target removes other otherwise) h = none variable_names
  variable_of f (Return value) h = none variable_names

  called : (n : ℕ) → n < length (map erased_fn code.functions) → All (IsFirst function_names) (n ∷ [])
  called n l = one function_names n (a_function n (omega (arith, l, length-map code.functions erased_fn)))

  function_of : (f : CodeFn) (op : CodeOp) → OpExists (erased code) (erased_fn f) (erased_op op)
      → All (IsFirst function_names) (function_in op)
  function_of f (Call to n from passes protects removes) h =
      called n (slice_get_within (map erased_fn code.functions) n h.callee h.declared)
  function_of f (Go n from passes removes) h =
      called n (slice_get_within (map erased_fn code.functions) n h.callee h.declared)
  function_of f (Do to action from removes) h = none function_names
  function_of f (Print pieces from removes) h = none function_names
  function_of f (Jump target removes) h = none function_names
  function_of f (Branch test target removes other otherwise) h = none function_names
  function_of f (Return value) h = none function_names

  -- ---- functions

  module _ (n : ℕ) (f : CodeFn) (there : slice_get code.functions n ≡ Some f) where
    structs_in : All (IsFirst struct_names) (fn_structs f)
    structs_in =
        All-append (IsFirst struct_names) (result_uses f.result) _
        (of_result f.result (checked rule.Exists (line.Function n) f there).result)
        (All-append (IsFirst struct_names) (flat_map (λ s. type_uses s.ty) f.variables) (flat_map (λ i. struct_of_op i.op) f.body)
        (flat_each (IsFirst struct_names) (λ s. type_uses s.ty) f.variables
        (λ v s e. of_type s.ty (checked rule.Exists (line.Slot n v) f s there e)))
        (flat_each (IsFirst struct_names) (λ i. struct_of_op i.op) f.body
        (λ i x e. struct_of f x.op (checked rule.Exists (line.Instr n i) f x there e).exists)))

    variables_in : All (IsFirst variable_names) (fn_variables f)
    variables_in =
        flat_each (IsFirst variable_names) (λ i. variable_in i.op) f.body
        (λ i x e. variable_of f x.op (checked rule.Exists (line.Instr n i) f x there e).exists)

    functions_in : All (IsFirst function_names) (fn_functions f)
    functions_in =
        flat_each (IsFirst function_names) (λ i. function_in i.op) f.body
        (λ i x e. function_of f x.op (checked rule.Exists (line.Instr n i) f x there e).exists)

  pub structs_first : All (IsFirst struct_names) (uses_of code).structs
  structs_first =
      All-append (IsFirst struct_names) (flat_map (λ s. flat_map type_uses s.fields) code.structs) _
      (flat_each (IsFirst struct_names) (λ s. flat_map type_uses s.fields) code.structs
      (λ n s e. flat_each (IsFirst struct_names) type_uses s.fields
      (λ k ty q. of_type ty ((checked rule.Exists (line.Struct n) s e).fields k ty q))))
      (All-append (IsFirst struct_names) (flat_map (λ v. type_uses v.ty) code.variables) (flat_map fn_structs code.functions)
      (flat_each (IsFirst struct_names) (λ v. type_uses v.ty) code.variables
      (λ n v e. of_type v.ty (checked rule.Exists (line.Variable n) v e).ty))
      (flat_each (IsFirst struct_names) fn_structs code.functions structs_in))

  pub variables_first : All (IsFirst variable_names) (uses_of code).variables
  variables_first = flat_each (IsFirst variable_names) fn_variables code.functions variables_in

  pub functions_first : All (IsFirst function_names) (uses_of code).functions
  functions_first = flat_each (IsFirst function_names) fn_functions code.functions functions_in
