-- The parts of code by number.
use Rattle.std.proofs.Common.{◌≡◌, ◌∷◌, ◌≤◌, ℕ, zero, suc, List, [], Option, Some, None, length, drop, get_or, slice_get, refl, ap, sym, subst, ◌∙◌, arith}
use Rattle.std.proofs.lemmas.Option.{same_Some, none-some, get_or_from_slice_get}
use Rattle.std.specs.Option.{option_map}
use Rattle.rgo_typed.specs.declared.types.Type.{«Type»}
use Rattle.rgo_tac.specs.declared.regions.Class.{Class}
use Rattle.rgo_tac.specs.declared.regions.Class.TheVariants as class
use Rattle.rgo_tac.specs.Code.{Op, Instr, TacFn, Do, Call, Go, Print, Jump, Branch, Return}
use Rattle.rgo_tac.specs.declared.ops.Kind.{Kind}
use Rattle.rgo_tac.specs.Ops.{kind_of, op_in}
use Rattle.rgo_code.specs.declared.notes.Note.{Note}
use Rattle.rgo_code.specs.declared.notes.Regions.{Regions}
use Rattle.rgo_code.specs.Names.{slot_class}
use Rattle.rgo_code.specs.Noted.{noted, IsNoted, SaysNothing}
use Rattle.rgo_code.specs.Views.{no_note, no_regions, slot, slots, code_instr, code_body, code_fn, code_fns}

pub after_first : {A : Type 0} (xs : List A) (n : ℕ) (none : A) → get_or (drop 1 xs) n none ≡ get_or xs (suc n) none
after_first [] n none = refl
after_first (x ∷ xs) n none = refl

pub function_at : (fs : List TacFn) (regions : List Regions) (n : ℕ)
    → slice_get (code_fns fs regions) n ≡ option_map (λ f. code_fn f (get_or regions n no_regions)) (slice_get fs n)
function_at [] regions n = refl
function_at (f ∷ fs) regions zero = refl
function_at (f ∷ fs) regions (suc n) =
    function_at fs (drop 1 regions) n
    ∙ ap (λ r. option_map (λ g. code_fn g r) (slice_get fs n)) (after_first regions n no_regions)

pub functions_long : (fs : List TacFn) (regions : List Regions) → length (code_fns fs regions) ≡ length fs
functions_long [] regions = refl
functions_long (f ∷ fs) regions = ap suc (functions_long fs (drop 1 regions))

pub instr_at : (is : List Instr) (notes : List Note) (n : ℕ)
    → slice_get (code_body is notes) n ≡ option_map (λ i. code_instr i (get_or notes n no_note)) (slice_get is n)
instr_at [] notes n = refl
instr_at (i ∷ is) notes zero = refl
instr_at (i ∷ is) notes (suc n) =
    instr_at is (drop 1 notes) n
    ∙ ap (λ r. option_map (λ j. code_instr j r) (slice_get is n)) (after_first notes n no_note)

pub slot_at : (tys : List «Type») (classes : List Class) (n : ℕ)
    → slice_get (slots tys classes) n ≡ option_map (λ ty. slot ty (get_or classes n class.NoClass)) (slice_get tys n)
slot_at [] classes n = refl
slot_at (ty ∷ tys) classes zero = refl
slot_at (ty ∷ tys) classes (suc n) =
    slot_at tys (drop 1 classes) n
    ∙ ap (λ c. option_map (λ t. slot t c) (slice_get tys n)) (after_first classes n class.NoClass)

slice_get_none : {A : Type 0} (xs : List A) (n : ℕ) → slice_get xs n ≡ None → length xs ≤ n
slice_get_none [] n e = omega arith
slice_get_none (x ∷ xs) zero e = absurd (none-some x (sym e))
slice_get_none (x ∷ xs) (suc n) e = let rest = slice_get_none xs n e in omega (arith, rest)

slice_get_beyond : {A : Type 0} (xs : List A) (n : ℕ) → length xs ≤ n → slice_get xs n ≡ None
slice_get_beyond [] n e = refl
slice_get_beyond (x ∷ xs) zero e = absurd (omega (arith, e))
slice_get_beyond (x ∷ xs) (suc n) e = slice_get_beyond xs n (omega (arith, e))

-- by what is found at the number
module _ (fs : List TacFn) (regions : List Regions) (n : ℕ) where
  pub function_found : (f : TacFn) (r : Regions) → slice_get fs n ≡ Some f → slice_get regions n ≡ Some r
      → Some (code_fn f r) ≡ slice_get (code_fns fs regions) n
  function_found f r is_f is_r =
      ap (λ s. Some (code_fn f s)) (sym (get_or_from_slice_get regions n r no_regions is_r))
      ∙ ap (option_map (λ g. code_fn g (get_or regions n no_regions))) (sym is_f) ∙ sym (function_at fs regions n)

  pub no_function : slice_get fs n ≡ None → None ≡ slice_get (code_fns fs regions) n
  no_function none =
      ap (option_map (λ g. code_fn g (get_or regions n no_regions))) (sym none) ∙ sym (function_at fs regions n)

  pub no_region : slice_get regions n ≡ None → length regions ≡ length fs → None ≡ slice_get (code_fns fs regions) n
  no_region none long = no_function (slice_get_beyond fs n (subst (λ l. l ≤ n) long (slice_get_none regions n none)))

module _ (is : List Instr) (notes : List Note) (n : ℕ) where
  noted_by : (i : Option Instr) (kind : Kind) (note : Note) → option_map kind_of (op_in i) ≡ Some kind
      → get_or notes n no_note ≡ note → IsNoted (option_map (λ j. code_instr j (get_or notes n no_note)) i) kind note
  noted_by None kind note is_kind is_note = cc
  noted_by (Some i) kind note is_kind is_note =
      (i.op, i.place, same_Some (kind_of i.op) kind is_kind, ap (λ m. Some (noted i.op m i.place)) is_note)

  pub note_found : (kind : Kind) (note : Note) → option_map kind_of (op_in (slice_get is n)) ≡ Some kind
      → get_or notes n no_note ≡ note → IsNoted (slice_get (code_body is notes) n) kind note
  note_found kind note is_kind is_note =
      subst (λ o. IsNoted o kind note) (sym (instr_at is notes n)) (noted_by (slice_get is n) kind note is_kind is_note)

  silent_op : (op : Op) (place : ℕ) → SaysNothing (Some (noted op no_note place))
  silent_op (Do to action from) place = record {
    creates = refl;
    passes = refl;
    protects = refl;
    removes = refl;
    otherwise = refl;
  }
  silent_op (Call to f from) place = record {
    creates = refl;
    passes = refl;
    protects = refl;
    removes = refl;
    otherwise = refl;
  }
  silent_op (Go f from) place = record {
    creates = refl;
    passes = refl;
    protects = refl;
    removes = refl;
    otherwise =
        refl;
  }
  silent_op (Print pieces from) place = record {
    creates = refl;
    passes = refl;
    protects = refl;
    removes = refl;
    otherwise = refl;
  }
  silent_op (Jump target) place = record {
    creates = refl;
    passes = refl;
    protects = refl;
    removes = refl;
    otherwise =
        refl;
  }
  silent_op (Branch a t e) place = record {
    creates = refl;
    passes = refl;
    protects = refl;
    removes = refl;
    otherwise = refl;
  }
  silent_op (Return value) place = record {
    creates = refl;
    passes = refl;
    protects = refl;
    removes = refl;
    otherwise = refl;
  }

  silent_by : (i : Option Instr) → SaysNothing (option_map (λ j. code_instr j no_note) i)
  silent_by None = record { creates = refl; passes = refl; protects = refl; removes = refl; otherwise = refl }
  silent_by (Some i) = silent_op i.op i.place

  pub no_note_found : get_or notes n no_note ≡ no_note → SaysNothing (slice_get (code_body is notes) n)
  no_note_found none =
      subst SaysNothing (sym (instr_at is notes n ∙ ap (λ m. option_map (λ j. code_instr j m) (slice_get is n)) none))
      (silent_by (slice_get is n))

  none_by : (i : Option Instr) → option_map kind_of (op_in i) ≡ None → i ≡ None
  none_by None e = refl
  none_by (Some i) e = cc

  pub no_instr_found : option_map kind_of (op_in (slice_get is n)) ≡ None → SaysNothing (slice_get (code_body is notes) n)
  no_instr_found none =
      subst SaysNothing (sym (instr_at is notes n
      ∙ ap (option_map (λ j. code_instr j (get_or notes n no_note))) (none_by (slice_get is n) none)))
      (record { creates = refl; passes = refl; protects = refl; removes = refl; otherwise = refl })

module _ (tys : List «Type») (classes : List Class) (n : ℕ) where
  pub class_found : (ty : «Type») → slice_get tys n ≡ Some ty
      → get_or classes n class.NoClass ≡ slot_class (slice_get (slots tys classes) n)
  class_found ty is_ty =
      sym (ap slot_class (slot_at tys classes n
      ∙ ap (option_map (λ t. slot t (get_or classes n class.NoClass))) is_ty))

  pub no_class : slice_get tys n ≡ None → class.NoClass ≡ slot_class (slice_get (slots tys classes) n)
  no_class none =
      sym (ap slot_class (slot_at tys classes n
      ∙ ap (option_map (λ t. slot t (get_or classes n class.NoClass))) none))
