-- What is said of regions at instructions changes nothing of classes, liveness and parameters.
use Rattle.std.proofs.Common.{◌≡◌, ◌↔◌, ℕ, List, get_or, Option, Some, None, slice_get, refl, sym, ap, ◌∙◌, subst}
use Rattle.std.specs.Option.{option_map}
use Rattle.std.proofs.lemmas.Option.{same_Some, none-some, slice_get-map}
use Rattle.rgo_tac.specs.Code.{Instr, TacFn}
use Rattle.rgo_code.specs.declared.notes.Note.{Note}
use Rattle.rgo_code.specs.declared.notes.Regions.{Regions}
use Rattle.rgo_code.specs.Code.{CodeFn, CodeInstr, Slot}
use Rattle.rgo_code.specs.Names.{class_of, slot_class, UsesRegionName}
use Rattle.rgo_code.specs.Views.{code_fn, code_instr, code_op, no_note, slots}
use Rattle.rgo_code.proofs.Erased.{fn_erased, op_erased, types_erased}
use Rattle.rgo_code.proofs.Parts.{instr_at}
use Rattle.rgo_region_sets.specs.Used.{UsesName}
use Rattle.rgo_insert.specs.Filled.{told}
use Rattle.rgo_insert.proofs.Alike.{AreAlike, names}

-- ---- what is found in a function

-- an instruction, with its note
pub record Found (f : TacFn) (r : Regions) (i : ℕ) (instr : CodeInstr) : Type 0 where
  pub plain : Instr
  pub here : slice_get f.body i ≡ Some plain
  pub is : instr ≡ code_instr plain (get_or r.notes i no_note)

found_by : (f : TacFn) (r : Regions) (i : ℕ) (instr : CodeInstr) (o : Option Instr) → slice_get f.body i ≡ o
    → option_map (λ p. code_instr p (get_or r.notes i no_note)) o ≡ Some instr → Found f r i instr
found_by f r i instr None here e = absurd (none-some instr e)
found_by f r i instr (Some plain) here e = record {
  plain = plain;
  here = here;
  is = sym (same_Some (code_instr plain (get_or r.notes i no_note)) instr e);
}

pub instr_found : (f : TacFn) (r : Regions) (i : ℕ) (instr : CodeInstr) → slice_get (code_fn f r).body i ≡ Some instr
    → Found f r i instr
instr_found f r i instr e =
    found_by f r i instr (slice_get f.body i) refl (sym (instr_at f.body r.notes i) ∙ e)

-- the type and the class of a variable
pub slot_found : (f : TacFn) (r : Regions) (v : ℕ) (s : Slot) → slice_get (code_fn f r).variables v ≡ Some s
    → (slice_get f.variables v ≡ Some s.ty) × (class_of (code_fn f r) v ≡ s.class)
slot_found f r v s e = (
  ap (λ l. slice_get l v) (sym (types_erased f.variables r.classes))
      ∙ slice_get-map (λ (x : Slot). x.ty) (slots f.variables r.classes) v ∙ ap (option_map (λ (x : Slot). x.ty)) e,
  ap slot_class e,
)

-- ---- one function with other notes

module _ (f : TacFn) (b : Regions) (entry : List ℕ) (notes : List Note) where
  abbrev pub before : CodeFn
  before = code_fn f b

  abbrev pub after : CodeFn
  after = code_fn f (told b entry notes)

  pub alike : AreAlike before after
  alike = record {
    params = refl;
    result = refl;
    variables = refl;
    tac = fn_erased f b ∙ sym (fn_erased f (told b entry notes));
  }

  -- what instruction i uses
  pub uses : (i : ℕ) (plain : Instr) (n : Note) → slice_get f.body i ≡ Some plain → (k : ℕ)
      → UsesName before (slice_get before.body i) k ↔ UsesRegionName after (code_op plain.op n) k
  uses i plain n here k =
      let m = get_or b.notes i no_note in
      let at : slice_get before.body i ≡ Some (code_instr plain m) =
      instr_at f.body b.notes i ∙ ap (option_map (λ p. code_instr p (get_or b.notes i no_note))) here in
      let w = names before after alike (code_op plain.op m) (code_op plain.op n)
      (op_erased plain.op m ∙ sym (op_erased plain.op n)) k in (
        λ u. w.0 (subst (λ o. UsesName before o k) at u),
        λ u. subst (λ o. UsesName before o k) (sym at) (w.1 u),
      )
