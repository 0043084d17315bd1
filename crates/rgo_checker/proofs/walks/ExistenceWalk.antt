-- The lines of the first walk, one by one.
use Rattle.std.proofs.Common.{◌≡◌, ◌≢◌, ℕ, zero, suc, ◌<◌, ◌≤◌, Bool, true, false, ◌&&◌, ◌||◌, not, List, [], ◌∷◌, length, map, take, Option, Some, None, is_some, slice_get, nat_eq, nat_lt, bytes_eq, codes, refl, sym, ap, ◌∙◌, subst, arith, Contains}
use Rattle.std.proofs.lemmas.Bool.{false≢true}
use Rattle.std.proofs.lemmas.Bool.Decides.{Decides-and, Decides-like}
use Rattle.std.proofs.lemmas.Option.{same_Some, none-some, slice_get-map}
use Rattle.std.proofs.lemmas.Slice.Eq.{bytes_eq-Decides}
use Rattle.std.specs.Bool.{Decides}
use Rattle.std.specs.List.{list_any}
use Rattle.std.specs.Option.{option_map}
use Rattle.rgo_typed.specs.declared.programs.Struct.{Struct}
use Rattle.rgo_typed.specs.declared.programs.Variable.{Variable}
use Rattle.rgo_typed.specs.declared.types.Type.{«Type»}
use Rattle.rgo_tac.specs.Code.{TacFn}
use Rattle.rgo_tac.specs.Ops.{op_in}
use Rattle.rgo_code.specs.declared.rules.Line.{Line}
use Rattle.rgo_code.specs.declared.rules.Line.TheVariants.{Struct as StructLine, Variable as VariableLine, Function as FunctionLine, Slot as SlotLine, Entry as EntryLine, Instr as InstrLine, End as EndLine, AfterLast}
use Rattle.rgo_code.specs.declared.rules.Rule.{Rule}
use Rattle.rgo_code.specs.declared.rules.Rule.TheVariants as rule
use Rattle.rgo_code.specs.Checked.{rule_number}
use Rattle.rgo_code.specs.Code.{Slot, CodeFn, Code}
use Rattle.rgo_code.specs.Erasure.{erased_instr, erased_fn, erased}
use Rattle.rgo_code.specs.Exists.{TypeExists, HasMain}
use Rattle.rgo_checker.specs.declared.scan.Scan.{Scan}
use Rattle.rgo_checker.specs.Instrs.{InstrKept}
use Rattle.rgo_checker.specs.Naming.{fn_names}
use Rattle.rgo_checker.specs.Scan.{IsKept, Walks, past_next_line}
use Rattle.rgo_checker.specs.Tests.{broken_if, type_exists, types_exist, head_exists, is_main_fn, declares_main}
use Rattle.rgo_checker.proofs.Deciding.{always, never, decides_less, decides_same}
use Rattle.rgo_checker.proofs.decides.ExistenceLaws.{type_decided, types_decided, head_decided}
use Rattle.rgo_checker.proofs.decides.LineKept.{at_struct, at_variable, at_head, at_slot, at_instr, at_end, least_of_one}
use Rattle.rgo_checker.proofs.decides.NamingLaws.{new_decided}
use Rattle.rgo_checker.proofs.walks.Scanning.{walks_line}

-- ---- the first rule at a line

only_first : (few limit : ℕ) (r : Rule) → few ≤ 2 → 1 ≤ rule_number r → rule_number r < few → rule_number r ≢ 1 → ⊥
only_first few limit r le low high other = other (omega (arith, le, low, high))

exists_walked : (code : Code) (l : Line) (s t : Scan) (kept : Bool) → Decides kept (IsKept code rule.Exists l)
    → t ≡ past_next_line s (broken_if s.limit rule.Exists kept) → Walks code 1 2 (l ∷ []) s t
exists_walked code l s t kept d e =
    subst (Walks code 1 2 (l ∷ []) s) (sym e)
    (walks_line code 1 2 l s (broken_if s.limit rule.Exists kept)
    (λ few. least_of_one (λ r. IsKept code r l) rule.Exists kept 1 s.limit d (omega arith)
    (λ r low high other. absurd (only_first s.limit 0 r few low high other))))

module _ (code : Code) (s t : Scan) where
  pub struct_walked : (n : ℕ) (x : Struct) → slice_get code.structs n ≡ Some x → (fresh exist : Bool)
      → Decides fresh (Contains (take n (map (λ z. z.name) code.structs)) x.name → ⊥)
      → exist ≡ types_exist (erased code) x.fields
      → t ≡ past_next_line s (broken_if s.limit rule.Exists (fresh && exist)) → Walks code 1 2 (StructLine n ∷ []) s t
  struct_walked n x here fresh exist d k e =
      let names = map (λ z. z.name) code.structs in
      exists_walked code (StructLine n) s t (fresh && exist)
      (at_struct code rule.Exists (fresh && exist) n x here
      (Decides-like (fresh && exist) (λ p. record { is_new = p.0; fields = p.1 }) (λ p. (p.is_new, p.fields))
      (Decides-and fresh exist
      (new_decided names n x.name fresh
      (slice_get-map (λ z. z.name) code.structs n ∙ ap (option_map (λ z. z.name)) here) d)
      (subst (λ b. Decides b ((k : ℕ) (ty : «Type») → slice_get x.fields k ≡ Some ty → TypeExists (erased code) ty))
      (sym k)
      (types_decided (erased code) x.fields))))) e

  pub variable_walked : (n : ℕ) (x : Variable) → slice_get code.variables n ≡ Some x → (fresh exist : Bool)
      → Decides fresh (Contains (take n (map (λ z. z.name) code.variables)) x.name → ⊥)
      → exist ≡ type_exists (erased code) x.ty
      → t ≡ past_next_line s (broken_if s.limit rule.Exists (fresh && exist)) → Walks code 1 2 (VariableLine n ∷ []) s t
  variable_walked n x here fresh exist d k e =
      let names = map (λ z. z.name) code.variables in
      exists_walked code (VariableLine n) s t (fresh && exist)
      (at_variable code rule.Exists (fresh && exist) n x here
      (Decides-like (fresh && exist) (λ p. record { is_new = p.0; ty = p.1 }) (λ p. (p.is_new, p.ty))
      (Decides-and fresh exist
      (new_decided names n x.name fresh
      (slice_get-map (λ z. z.name) code.variables n ∙ ap (option_map (λ z. z.name)) here) d)
      (subst (λ b. Decides b (TypeExists (erased code) x.ty)) (sym k) (type_decided (erased code) x.ty))))) e

  pub entry_walked : (n : ℕ) → t ≡ past_next_line s None → Walks code 1 2 (EntryLine n ∷ []) s t
  unfolding IsKept
  entry_walked n e =
      subst (Walks code 1 2 (EntryLine n ∷ []) s) (sym e)
      (walks_line code 1 2 (EntryLine n) s None (λ few r low high. trivial r (omega (arith, few, high))))
    where
      trivial : (r : Rule) → rule_number r < 2 → IsKept code r (EntryLine n)
      trivial rule.Exists h = λ g q. tt
      trivial rule.Entry h = absurd (omega (arith, h))
      trivial rule.Lending h = absurd (omega (arith, h))
      trivial rule.Removals h = absurd (omega (arith, h))
      trivial _ h = λ g q. tt

  module _ (n : ℕ) (f : CodeFn) (here : slice_get code.functions n ≡ Some f) where
    pub name_at : slice_get (fn_names code) n ≡ Some f.name
    name_at =
        slice_get-map (λ z. z.name) (erased code).functions n
        ∙ ap (option_map (λ z. z.name)) (slice_get-map erased_fn code.functions n ∙ ap (option_map erased_fn) here)

    pub head_walked : (fresh exist : Bool) → Decides fresh (Contains (take n (fn_names code)) f.name → ⊥)
        → exist ≡ head_exists (erased code) (erased_fn f)
        → t ≡ past_next_line s (broken_if s.limit rule.Exists (fresh && exist)) → Walks code 1 2 (FunctionLine n ∷ []) s t
    head_walked fresh exist d k e =
        let h = head_decided (erased code) (erased_fn f) in
        exists_walked code (FunctionLine n) s t (fresh && exist)
        (at_head code rule.Exists (fresh && exist) n f here
        (Decides-like (fresh && exist) (λ p. record { is_new = p.0; params = p.1.0; result = p.1.1 })
        (λ p. (p.is_new, (p.params, p.result)))
        (Decides-and fresh exist (new_decided (fn_names code) n f.name fresh name_at d)
        (λ b. h.0 (sym k ∙ b), λ p. k ∙ h.1 p)))) e

    slot_of : (v : ℕ) (ty : «Type») → slice_get (erased_fn f).variables v ≡ Some ty
        → (x : Slot) × (slice_get f.variables v ≡ Some x) × (x.ty ≡ ty)
    slot_of v ty there = by (slice_get f.variables v) refl (sym (slice_get-map (λ z. z.ty) f.variables v) ∙ there)
      where
        by : (o : Option Slot) → slice_get f.variables v ≡ o → option_map (λ z. z.ty) o ≡ Some ty
            → (x : Slot) × (slice_get f.variables v ≡ Some x) × (x.ty ≡ ty)
        by None q h = absurd (none-some ty h)
        by (Some x) q h = (x, q, same_Some x.ty ty h)

    pub slot_walked : (v : ℕ) (ty : «Type») → slice_get (erased_fn f).variables v ≡ Some ty → (exist : Bool)
        → exist ≡ type_exists (erased code) ty
        → t ≡ past_next_line s (broken_if s.limit rule.Exists exist) → Walks code 1 2 (SlotLine n v ∷ []) s t
    slot_walked v ty there exist k e =
        let x = slot_of v ty there in
        exists_walked code (SlotLine n v) s t exist
        (at_slot code rule.Exists exist n f here v x.0 x.1
        (subst (λ b. Decides b (TypeExists (erased code) x.0.ty)) (sym (k ∙ ap (type_exists (erased code)) (sym x.2)))
        (type_decided (erased code) x.0.ty))) e

    pub instr_walked : (i : ℕ) (kept : Bool) → Decides kept (InstrKept code f i rule.Exists)
        → t ≡ past_next_line s (broken_if s.limit rule.Exists kept) → Walks code 1 2 (InstrLine n i ∷ []) s t
    instr_walked i kept d e =
        exists_walked code (InstrLine n i) s t kept (at_instr code rule.Exists kept n f here i d) e

    has_items : {X : Type 0} (xs : List X) → Decides (nat_lt 0 (length xs)) (xs ≢ [])
    has_items [] = (λ t. absurd (let l = (decides_less 0 0).0 t in omega (arith, l)), λ h. absurd (h refl))
    has_items (x ∷ xs) = (λ t e. cc, λ h. (decides_less 0 (length (x ∷ xs))).1 (omega arith))

    pub end_walked : (kept : Bool) → kept ≡ nat_lt 0 (length f.body)
        → t ≡ past_next_line s (broken_if s.limit rule.Exists kept) → Walks code 1 2 (EndLine n ∷ []) s t
    end_walked kept k e =
        exists_walked code (EndLine n) s t kept
        (at_end code rule.Exists kept n f here (subst (λ b. Decides b (f.body ≢ [])) (sym k) (has_items f.body))) e

  -- ---- after the last line

  main_decided : (f : TacFn)
      → Decides (is_main_fn f) ((f.name ≡ codes "main") × ((f.params ≡ 0) × (f.result_type ≡ None)))
  main_decided f =
      Decides-and (bytes_eq f.name (codes "main")) (nat_eq f.params 0 && not (is_some f.result_type))
      (bytes_eq-Decides f.name (codes "main"))
      (Decides-and (nat_eq f.params 0) (not (is_some f.result_type)) (decides_same f.params 0) (by f.result_type))
    where
      by : (o : Option «Type») → Decides (not (is_some o)) (o ≡ None)
      by None = always refl
      by (Some x) = never (λ q. none-some x (sym q))

  abbrev Main : List TacFn → Type 0
  Main fs = (k : ℕ) × (f : TacFn) × (slice_get fs k ≡ Some f) × (is_main_fn f ≡ true)

  any_main : (fs : List TacFn) → Decides (list_any is_main_fn fs) (Main fs)
  any_main [] = never (λ p. none-some p.1 p.2)
  any_main (f ∷ fs) = by (is_main_fn f) refl (any_main fs)
    where
      later : Main (f ∷ fs) → is_main_fn f ≡ false → Main fs
      later (zero, g, e, q) other = absurd (false≢true (sym other ∙ ap is_main_fn (same_Some f g e) ∙ q))
      later (suc k, g, e, q) other = (k, g, e, q)

      by : (b : Bool) → is_main_fn f ≡ b → Decides (list_any is_main_fn fs) (Main fs)
          → Decides (b || list_any is_main_fn fs) (Main (f ∷ fs))
      by true q d = (λ u. (0, f, refl, q), λ p. refl)
      by false q d = (λ u. let p = d.0 u in (suc p.0, p.1, p.2, p.3), λ p. d.1 (later p q))

  has_main_decided : Decides (declares_main (erased code)) (HasMain (erased code))
  has_main_decided =
      Decides-like (declares_main (erased code))
      (λ p. let m = (main_decided p.1).0 p.3 in
      record { number = p.0; main = p.1; declared = p.2; named = m.0; no_params = m.1.0; no_result = m.1.1 })
      (λ p. (p.number, p.main, p.declared, (main_decided p.main).1 (p.named, (p.no_params, p.no_result))))
      (any_main (erased code).functions)

  pub last_walked : (kept : Bool) → kept ≡ declares_main (erased code)
      → t ≡ past_next_line s (broken_if s.limit rule.Exists kept) → Walks code 1 2 (AfterLast ∷ []) s t
  unfolding IsKept
  last_walked kept k e = exists_walked code AfterLast s t kept (last kept k) e
    where
      last : (b : Bool) → b ≡ declares_main (erased code) → Decides b (IsKept code rule.Exists AfterLast)
      last b q = subst (λ x. Decides x (HasMain (erased code))) (sym q) has_main_decided

-- ---- no instruction

pub no_instr : (code : Code) (f : CodeFn) (i : ℕ) (r : Rule) → op_in (slice_get (erased_fn f).body i) ≡ None
    → InstrKept code f i r
unfolding InstrKept
no_instr code f i r none instr e =
    absurd (let q : op_in (option_map erased_instr (Some instr)) ≡ None =
    ap (λ o. op_in (option_map erased_instr o)) (sym e) ∙ ap op_in (sym (slice_get-map erased_instr f.body i))
    ∙ none in cc)
