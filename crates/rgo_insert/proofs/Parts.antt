-- The functions of filled code, one by one.
use Rattle.std.proofs.Common.{◌≡◌, ℕ, List, get_or, length, Option, Some, None, slice_get, refl, sym, ap, ◌∙◌, subst, arith}
use Rattle.std.specs.Option.{option_map}
use Rattle.std.proofs.lemmas.Option.{same_Some, none-some, slice_get_within, slice_get-get_or}
use Rattle.rgo_tac.specs.Code.{Instr, TacFn}
use Rattle.rgo_tac.specs.Ops.{op_in}
use Rattle.rgo_classes.specs.declared.classes.Summary.{Summary}
use Rattle.rgo_classes.specs.Classes.{AreClasses}
use Rattle.rgo_code.specs.declared.notes.Note.{Note}
use Rattle.rgo_code.specs.declared.notes.Regions.{Regions}
use Rattle.rgo_code.specs.Code.{CodeFn}
use Rattle.rgo_code.specs.Erasure.{erased_fn}
use Rattle.rgo_code.specs.Views.{code_fn, code_fns, no_note, no_regions}
use Rattle.rgo_code.proofs.Erased.{fn_erased}
use Rattle.rgo_code.proofs.Parts.{function_at}
use Rattle.rgo_insert.specs.Bare.{AreBare, classes_by}
use Rattle.rgo_insert.specs.Filled.{AreFilled, AreRight, IsFilled, IsRight, told}
use Rattle.rgo_insert.proofs.Alike.{AreLikeCallees, like_none, like_some}
use Rattle.rgo_insert.proofs.Told.{alike}

pub told_is : (functions : List CodeFn) (f : TacFn) (b r : Regions) → IsFilled functions f b r
    → r ≡ told b r.entry r.notes
told_is functions f b r filled =
    ap (λ c. record { classes = c; result = r.result; entry = r.entry; notes = r.notes }) filled.classes
    ∙ ap (λ c. record { classes = b.classes; result = c; entry = r.entry; notes = r.notes }) filled.result

module _ (fs : List TacFn) (sums : List Summary) (bare filled : List Regions) (are_bare : AreBare sums fs bare)
    (are : AreFilled (code_fns fs bare) fs bare filled) where
  -- a function, its classes and what it says
  pub record Part (n : ℕ) (f : TacFn) : Type 0 where
    pub b : Regions
    pub r : Regions
    pub bare_here : slice_get (code_fns fs bare) n ≡ Some (code_fn f b)
    pub here : slice_get (code_fns fs filled) n ≡ Some (code_fn f (told b r.entry r.notes))
    pub classes : AreClasses sums f (classes_by b)
    pub is : IsFilled (code_fns fs bare) f b r

  pub part : (n : ℕ) (f : TacFn) → slice_get fs n ≡ Some f → Part n f
  part n f e =
      let within = slice_get_within fs n f e in
      let b = get_or bare n no_regions in
      let r = get_or filled n no_regions in
      let b_here = slice_get-get_or bare n no_regions (omega (arith, within, are_bare.len)) in
      let is = are.each n f b r e b_here (slice_get-get_or filled n no_regions (omega (arith, within, are.len))) in
      record {
        b = b;
        r = r;
        bare_here = function_at fs bare n ∙ ap (option_map (λ g. code_fn g b)) e;
        here = function_at fs filled n ∙ ap (option_map (λ g. code_fn g r)) e
            ∙ ap (λ x. Some (code_fn f x)) (told_is (code_fns fs bare) f b r is);
        classes = are_bare.classes n f b e b_here;
        is = is;
      }

  -- each function of the code is one of these
  pub record IsPart (n : ℕ) (g : CodeFn) : Type 0 where
    pub f : TacFn
    pub f_here : slice_get fs n ≡ Some f
    pub part_is : Part n f
    pub is : g ≡ code_fn f (told part_is.b part_is.r.entry part_is.r.notes)

  pub is_part : (n : ℕ) (g : CodeFn) → slice_get (code_fns fs filled) n ≡ Some g → IsPart n g
  is_part n g e = by (slice_get fs n) refl
    where
      by : (o : Option TacFn) → slice_get fs n ≡ o → IsPart n g
      by None none = absurd (none-some g
          (ap (option_map (λ h. code_fn h (get_or filled n no_regions))) (sym none)
          ∙ sym (function_at fs filled n) ∙ e))
      by (Some f) some =
          let p = part n f some in
          record {
            f = f;
            f_here = some;
            part_is = p;
            is = same_Some g (code_fn f (told p.b p.r.entry p.r.notes)) (sym e ∙ p.here);
          }

  -- callees take the same, whatever is said at their instructions
  pub like_callees : (n : ℕ) → AreLikeCallees (slice_get (code_fns fs bare) n) (slice_get (code_fns fs filled) n)
  like_callees n = by (slice_get fs n) refl
    where
      by : (o : Option TacFn) → slice_get fs n ≡ o
          → AreLikeCallees (slice_get (code_fns fs bare) n) (slice_get (code_fns fs filled) n)
      by None none =
          subst (λ x. AreLikeCallees x (slice_get (code_fns fs filled) n))
          (sym (function_at fs bare n ∙ ap (option_map (λ h. code_fn h (get_or bare n no_regions))) none))
          (subst (λ y. AreLikeCallees None y)
          (sym (function_at fs filled n ∙ ap (option_map (λ h. code_fn h (get_or filled n no_regions))) none))
          like_none)
      by (Some f) some =
          let p = part n f some in
          subst (λ x. AreLikeCallees x (slice_get (code_fns fs filled) n)) (sym p.bare_here)
          (subst (λ y. AreLikeCallees (Some (code_fn f p.b)) y) (sym p.here)
          (like_some (code_fn f p.b) (code_fn f (told p.b p.r.entry p.r.notes)) (alike f p.b p.r.entry p.r.notes)))

-- the note of an instruction is right
pub right_note : (functions : List CodeFn) (f : TacFn) (b : Regions) (notes : List Note) (i : ℕ) (plain : Instr)
    → AreRight functions (code_fn f b) notes (length (erased_fn (code_fn f b)).body) → slice_get f.body i ≡ Some plain
    → IsRight functions (code_fn f b) i plain.op (get_or notes i no_note)
right_note functions f b notes i plain are here =
    let within = slice_get_within f.body i plain here in
    let long = ap (λ (g : TacFn). length g.body) (fn_erased f b) in
    let note = get_or notes i no_note in
    let e = are.each i note (slice_get-get_or notes i no_note (omega (arith, within, are.len, long))) in
    let op : e.0 ≡ plain.op =
    same_Some e.0 plain.op (sym e.1 ∙ ap (λ g. op_in (slice_get g.body i)) (fn_erased f b) ∙ ap op_in here) in
    subst (λ o. IsRight functions (code_fn f b) i o note) op e.2
