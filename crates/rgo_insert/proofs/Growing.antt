-- Notes and regions, one after the other.
use Rattle.std.proofs.Common.{◌≡◌, ◌<◌, ◌+◌, ℕ, List, [], ◌∷◌, ◌++◌, length, Some, None, slice_get, refl, sym, ap, ◌∙◌, subst}
use Rattle.std.proofs.lemmas.List.{length_push}
use Rattle.std.proofs.lemmas.Option.{same_Some, none-some}
use Rattle.rgo_tac.specs.Code.{Op, TacFn}
use Rattle.rgo_tac.specs.Ops.{op_in}
use Rattle.rgo_classes.specs.declared.classes.Summary.{Summary}
use Rattle.rgo_classes.specs.Classes.{AreClasses}
use Rattle.rgo_summaries.proofs.Outer.{some_get}
use Rattle.rgo_code.specs.declared.notes.Note.{Note}
use Rattle.rgo_code.specs.declared.notes.Regions.{Regions}
use Rattle.rgo_code.specs.Code.{CodeFn}
use Rattle.rgo_code.specs.Erasure.{erased_fn}
use Rattle.rgo_insert.specs.Bare.{classes_by}
use Rattle.rgo_insert.specs.Filled.{AreRight, IsFilled, IsRight}
use Rattle.rgo_insert.proofs.Longer.{each_longer}

-- ---- classes

-- each of these regions has the classes of its function
abbrev pub HaveClasses : List Summary → List TacFn → List Regions → Type 0
HaveClasses sums fs regions =
    (n : ℕ) (f : TacFn) (r : Regions) → slice_get fs n ≡ Some f → slice_get regions n ≡ Some r
    → AreClasses sums f (classes_by r)

pub no_classes : (sums : List Summary) (fs : List TacFn) → HaveClasses sums fs []
no_classes sums fs n f r here e = absurd (none-some r e)

pub more_classes : (sums : List Summary) (fs : List TacFn) (regions : List Regions) (n : ℕ) (f : TacFn) (r : Regions)
    → length regions ≡ n → slice_get fs n ≡ Some f → HaveClasses sums fs regions → AreClasses sums f (classes_by r)
    → HaveClasses sums fs (regions ++ r ∷ [])
more_classes sums fs regions n f r long at before now k g s here e =
    each_longer (λ j x. (h : TacFn) → slice_get fs j ≡ Some h → AreClasses sums h (classes_by x)) regions r n long
    (λ j x there h is. before j h x is there)
    (λ h is. subst (λ y. AreClasses sums y (classes_by r)) (same_Some f h (sym at ∙ is)) now)
    k s e g here

-- ---- notes

pub no_notes : (functions : List CodeFn) (f : CodeFn) → AreRight functions f [] 0
no_notes functions f = record { len = refl; each = λ at note e. absurd (none-some note e) }

pub more_notes : (functions : List CodeFn) (f : CodeFn) (notes : List Note) (at : ℕ) (op : Op) (note : Note)
    → AreRight functions f notes at → op_in (slice_get (erased_fn f).body at) ≡ Some op
    → IsRight functions f at op note → AreRight functions f (notes ++ note ∷ []) (at + 1)
more_notes functions f notes at op note are here right = record {
  len = length_push notes note ∙ ap (λ n. n + 1) are.len;
  each = each_longer
      (λ k n. (o : Op) × (op_in (slice_get (erased_fn f).body k) ≡ Some o) × IsRight functions f k o n)
      notes note at are.len are.each (op, here, right);
}

-- at the number of an instruction there is one
pub no_op : (f : TacFn) (at : ℕ) → at < length f.body → op_in (slice_get f.body at) ≡ None → ⊥
no_op f at within none =
    let found = some_get f.body at within in
    none-some found.0.op (sym none ∙ ap op_in found.1)

-- ---- functions

-- each of these regions is filled
abbrev pub AllFilled : List CodeFn → List TacFn → (bare filled : List Regions) → Type 0
AllFilled functions code bare filled =
    (n : ℕ) (f : TacFn) (b r : Regions) → slice_get code n ≡ Some f → slice_get bare n ≡ Some b
    → slice_get filled n ≡ Some r → IsFilled functions f b r

pub no_filled : (functions : List CodeFn) (code : List TacFn) (bare : List Regions) → AllFilled functions code bare []
no_filled functions code bare n f b r here is e = absurd (none-some r e)

pub more_filled : (functions : List CodeFn) (code : List TacFn) (bare filled : List Regions) (n : ℕ) (f : TacFn)
    (b r : Regions) → length filled ≡ n → slice_get code n ≡ Some f → slice_get bare n ≡ Some b
    → AllFilled functions code bare filled → IsFilled functions f b r
    → AllFilled functions code bare (filled ++ r ∷ [])
more_filled functions code bare filled n f b r long at bare_at before now k g c s here is e =
    each_longer
    (λ j x. (h : TacFn) (d : Regions) → slice_get code j ≡ Some h → slice_get bare j ≡ Some d
    → IsFilled functions h d x)
    filled r n long
    (λ j x there h d h_is d_is. before j h d x h_is d_is there)
    (λ h d h_is d_is.
    subst (λ y. IsFilled functions h y r) (same_Some b d (sym bare_at ∙ d_is))
    (subst (λ y. IsFilled functions y b r) (same_Some f h (sym at ∙ h_is)) now))
    k s e g c here is
