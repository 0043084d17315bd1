-- The lines of the second walk, one by one.
use Rattle.std.proofs.Common.{◌≡◌, ◌≢◌, ℕ, zero, suc, ◌+◌, ◌≤◌, Bool, List, [], ◌∷◌, ◌++◌, take, Option, Some, None, slice_get, refl, sym, ap, ◌∙◌, subst, arith, append_assoc}
use Rattle.std.proofs.lemmas.List.{append-nil}
use Rattle.std.proofs.lemmas.Option.{same_Some, none-some, slice_get-map}
use Rattle.std.specs.Bool.{Decides}
use Rattle.std.specs.Option.{option_map}
use Rattle.rgo_typed.specs.declared.types.Type.{«Type»}
use Rattle.rgo_tac.specs.declared.regions.Class.{Class}
use Rattle.rgo_code.specs.declared.rules.Line.{Line}
use Rattle.rgo_code.specs.declared.rules.Line.TheVariants.{Function as FunctionLine, Slot as SlotLine, Entry as EntryLine, Instr as InstrLine, End as EndLine}
use Rattle.rgo_code.specs.declared.rules.Rule.{Rule}
use Rattle.rgo_code.specs.declared.rules.Rule.TheVariants as rule
use Rattle.rgo_code.specs.Checked.{rule_number}
use Rattle.rgo_code.specs.ClassRules.{SlotClassFitsType, ResultFits}
use Rattle.rgo_code.specs.Code.{Slot, CodeFn, Code}
use Rattle.rgo_code.specs.Erasure.{erased_fn}
use Rattle.rgo_code.specs.Names.{slot_class, class_of, result_class}
use Rattle.rgo_checker.specs.declared.scan.Scan.{Scan}
use Rattle.rgo_checker.specs.ClassTests.{class_fits, result_fits}
use Rattle.rgo_checker.specs.Instrs.{InstrKept, EntryKept, LeastBroken}
use Rattle.rgo_checker.specs.Lines.{first_lines, lines_of_slots, lines_of_instrs, lines_of_function, functions_lines}
use Rattle.rgo_checker.specs.Scan.{IsKept, Walks, past_next_line}
use Rattle.rgo_checker.specs.Tests.{broken_if}
use Rattle.rgo_checker.proofs.decides.ClassLaws.{class_fits_decided}
use Rattle.rgo_checker.proofs.Deciding.{always}
use Rattle.rgo_checker.proofs.Getting.{first_more}
use Rattle.rgo_checker.proofs.decides.LineKept.{at_head, at_slot, least_of_one, least_at_instr, least_at_entry}
use Rattle.rgo_checker.proofs.walks.Scanning.{walks_then, walks_line}

-- ---- loops over lines of one kind

pub walks_more : (code : Code) (from to : ℕ) (at : ℕ → Line) (n : ℕ) (s t u : Scan)
    → Walks code from to (first_lines at n) s t → Walks code from to (at n ∷ []) t u
    → Walks code from to (first_lines at (n + 1)) s u
walks_more code from to at n s t u p q =
    subst (λ ls. Walks code from to ls s u) (sym (first_more at n))
    (walks_then code from to (first_lines at n) (at n ∷ []) s t u p q)

-- ---- heads and variables

head_trivial : (code : Code) (n : ℕ) (r : Rule) → 2 ≤ rule_number r → rule_number r ≢ 3 → IsKept code r (FunctionLine n)
unfolding IsKept
head_trivial code n rule.Exists h d = absurd (omega (arith, h))
head_trivial code n rule.Classes h d = absurd (d refl)
head_trivial code n _ h d = λ f e. tt

slot_trivial : (code : Code) (n v : ℕ) (r : Rule) → 2 ≤ rule_number r → rule_number r ≢ 3 → IsKept code r (SlotLine n v)
unfolding IsKept
slot_trivial code n v rule.Exists h d = absurd (omega (arith, h))
slot_trivial code n v rule.Classes h d = absurd (d refl)
slot_trivial code n v _ h d = λ f s e q. tt

end_trivial : (code : Code) (n : ℕ) (r : Rule) → 2 ≤ rule_number r → IsKept code r (EndLine n)
unfolding IsKept
end_trivial code n rule.Exists h = absurd (omega (arith, h))
end_trivial code n _ h = λ f e. tt

module _ (code : Code) (n : ℕ) (f : CodeFn) (here : slice_get code.functions n ≡ Some f) where
  result_decided : (c : Class) → c ≡ result_class f
      → Decides (result_fits c (erased_fn f).result_type) (ResultFits f.result)
  result_decided c e =
      subst (λ x. Decides (result_fits x (erased_fn f).result_type) (ResultFits f.result)) (sym e) (by f.result)
    where
      by : (o : Option Slot) → Decides (result_fits (slot_class o) (option_map (λ s. s.ty) o)) (ResultFits o)
      by None = always tt
      by (Some s) = class_fits_decided s

  pub head_walked : (s t : Scan) (kept : Bool) → kept ≡ result_fits (result_class f) (erased_fn f).result_type
      → t ≡ past_next_line s (broken_if s.limit rule.Classes kept) → Walks code 2 15 (FunctionLine n ∷ []) s t
  head_walked s t kept k e =
      subst (Walks code 2 15 (FunctionLine n ∷ []) s) (sym e)
      (walks_line code 2 15 (FunctionLine n) s (broken_if s.limit rule.Classes kept)
      (λ few. least_of_one (λ r. IsKept code r (FunctionLine n)) rule.Classes kept 2 s.limit
      (at_head code rule.Classes kept n f here
      (subst (λ b. Decides b (ResultFits f.result)) (sym k) (result_decided (result_class f) refl)))
      (omega arith) (λ r low high d. head_trivial code n r low d)))

  slot_of : (v : ℕ) (ty : «Type») → slice_get (erased_fn f).variables v ≡ Some ty
      → (s : Slot) × (slice_get f.variables v ≡ Some s) × (class_of f v ≡ s.class) × (s.ty ≡ ty)
  slot_of v ty e = by (slice_get f.variables v) refl (sym (slice_get-map (λ s. s.ty) f.variables v) ∙ e)
    where
      by : (o : Option Slot) → slice_get f.variables v ≡ o → option_map (λ s. s.ty) o ≡ Some ty
          → (s : Slot) × (slice_get f.variables v ≡ Some s) × (class_of f v ≡ s.class) × (s.ty ≡ ty)
      by None q h = absurd (none-some ty h)
      by (Some s) q h = (s, q, ap slot_class q, same_Some s.ty ty h)

  pub slot_walked : (v : ℕ) (ty : «Type») → slice_get (erased_fn f).variables v ≡ Some ty → (s t : Scan) (kept : Bool)
      → kept ≡ class_fits (class_of f v) ty → t ≡ past_next_line s (broken_if s.limit rule.Classes kept)
      → Walks code 2 15 (SlotLine n v ∷ []) s t
  slot_walked v ty there s t kept k e =
      let x = slot_of v ty there in
      subst (Walks code 2 15 (SlotLine n v ∷ []) s) (sym e)
      (walks_line code 2 15 (SlotLine n v) s (broken_if s.limit rule.Classes kept)
      (λ few. least_of_one (λ r. IsKept code r (SlotLine n v)) rule.Classes kept 2 s.limit
      (at_slot code rule.Classes kept n f here v x.0 x.1
      (subst (λ b. Decides b (SlotClassFitsType x.0)) (sym (k ∙ (λ j. class_fits (x.2 j) (sym x.3 j))))
      (class_fits_decided x.0)))
      (omega arith) (λ r low high d. slot_trivial code n v r low d)))

  -- ---- entry, instructions, end

  pub entry_walked : (s t : Scan) (o : Option Rule) → LeastBroken (EntryKept f) 2 s.limit o → t ≡ past_next_line s o
      → Walks code 2 15 (EntryLine n ∷ []) s t
  entry_walked s t o k e =
      subst (Walks code 2 15 (EntryLine n ∷ []) s) (sym e)
      (walks_line code 2 15 (EntryLine n) s o (λ few. least_at_entry code n f here 2 s.limit o k))

  pub instr_walked : (i : ℕ) (s t : Scan) (o : Option Rule) → LeastBroken (InstrKept code f i) 2 s.limit o
      → t ≡ past_next_line s o → Walks code 2 15 (InstrLine n i ∷ []) s t
  instr_walked i s t o k e =
      subst (Walks code 2 15 (InstrLine n i ∷ []) s) (sym e)
      (walks_line code 2 15 (InstrLine n i) s o (λ few. least_at_instr code n f here 2 s.limit o i k))

pub end_walked : (code : Code) (n : ℕ) (s t : Scan) → t ≡ past_next_line s None → Walks code 2 15 (EndLine n ∷ []) s t
end_walked code n s t e =
    subst (Walks code 2 15 (EndLine n ∷ []) s) (sym e)
    (walks_line code 2 15 (EndLine n) s None (λ few r low high. end_trivial code n r low))

-- ---- functions

pub fn_walked : (code : Code) (from to n : ℕ) (f : CodeFn) (s t u v w x : Scan)
    → Walks code from to (FunctionLine n ∷ []) s t → Walks code from to (lines_of_slots n f.variables) t u
    → Walks code from to (EntryLine n ∷ []) u v → Walks code from to (lines_of_instrs n f.body) v w
    → Walks code from to (EndLine n ∷ []) w x → Walks code from to (lines_of_function n f) s x
fn_walked code from to n f s t u v w x head slots entry body end =
    walks_then code from to (FunctionLine n ∷ []) (lines_of_slots n f.variables ++ rest) s t x head
    (walks_then code from to (lines_of_slots n f.variables) rest t u x slots
    (walks_then code from to (EntryLine n ∷ []) (lines_of_instrs n f.body ++ EndLine n ∷ []) u v x entry
    (walks_then code from to (lines_of_instrs n f.body) (EndLine n ∷ []) v w x body end)))
  where
    rest : List Line
    rest = EntryLine n ∷ (lines_of_instrs n f.body ++ EndLine n ∷ [])

functions_more : (m : ℕ) (fs : List CodeFn) (n : ℕ) (f : CodeFn) → slice_get fs n ≡ Some f
    → functions_lines m (take (suc n) fs) ≡ functions_lines m (take n fs) ++ lines_of_function (m + n) f
functions_more m [] n f e = absurd (none-some f e)
functions_more m (g ∷ fs) zero f e =
    append-nil (lines_of_function m g) ∙ (λ j. lines_of_function (by j) (same_Some g f e j))
  where
    by : m ≡ m + 0
    by = omega arith
functions_more m (g ∷ fs) (suc n) f e =
    ap (λ ls. lines_of_function m g ++ ls) (functions_more (m + 1) fs n f e)
    ∙ sym (append_assoc (lines_of_function m g) (functions_lines (m + 1) (take n fs)) (lines_of_function ((m + 1) + n) f))
    ∙ ap (λ k. (lines_of_function m g ++ functions_lines (m + 1) (take n fs)) ++ lines_of_function k f) by
  where
    by : (m + 1) + n ≡ m + suc n
    by = omega arith

pub functions_walked : (code : Code) (from to n : ℕ) (f : CodeFn) (s t u : Scan) → slice_get code.functions n ≡ Some f
    → Walks code from to (functions_lines 0 (take n code.functions)) s t → Walks code from to (lines_of_function n f) t u
    → Walks code from to (functions_lines 0 (take (n + 1) code.functions)) s u
functions_walked code from to n f s t u e p q =
    subst (λ ls. Walks code from to ls s u) (sym together)
    (walks_then code from to (functions_lines 0 (take n code.functions)) (lines_of_function n f) s t u p q)
  where
    together : functions_lines 0 (take (n + 1) code.functions)
        ≡ functions_lines 0 (take n code.functions) ++ lines_of_function n f
    together =
        ap (λ k. functions_lines 0 (take k code.functions)) (next n) ∙ functions_more 0 code.functions n f e
        ∙ ap (λ k. functions_lines 0 (take n code.functions) ++ lines_of_function k f) (zero_left n)
      where
        next : (k : ℕ) → k + 1 ≡ suc k
        next k = omega arith

        zero_left : (k : ℕ) → 0 + k ≡ k
        zero_left k = omega arith
