-- A program that makes no object needs no page, no region and no room for an object. Its code has no variable with a class, so no
-- instruction creates a region, in no run, however long.
use Rattle.std.proofs.Common.{◌≡◌, ◌+◌, ◌*◌, ℕ, suc, max, Bool, true, false, not, ◌&&◌, List, [], ◌∷◌, ◌++◌, length, map}
use Rattle.std.proofs.Common.{Option, Some, None, refl, sym, ap, ◌∙◌, subst, arith, true≢false, slice_get}
use Rattle.std.specs.Prelude.{IsSome, nat_le, option_and_then}
use Rattle.std.specs.Option.{is_some, option_map}
use Rattle.std.specs.List.{list_all}
use Rattle.std.proofs.lemmas.Bool.{and_parts, leb-true}
use Rattle.std.proofs.lemmas.Option.{slice_get-map, slice_get_past}
use Rattle.rgo_typed.specs.Types.{is_pointer_like}
use Rattle.rgo_memory.specs.Memory.{Object}
use Rattle.rgo_machine.specs.declared.picks.Pick.TheVariants.{One}
use Rattle.rgo_tac.specs.declared.regions.Class.{Class}
use Rattle.rgo_tac.specs.declared.regions.Class.TheVariants.{Global, Name, NoClass}
use Rattle.rgo_tac.specs.Code.{Tac, TacFn}
use Rattle.rgo_tac.specs.Frames.{TacFrame}
use Rattle.rgo_tac.specs.Tac.{TacState, tac, tac_start}
use Rattle.rgo_lower.proofs.Determined.{lowering_is_determined}
use Rattle.rgo_code.specs.ClassRules.{SlotClassFitsType}
use Rattle.rgo_code.specs.Code.{Code, CodeFn, CodeInstr, Slot}
use Rattle.rgo_code.specs.Erasure.{erased, erased_fn}
use Rattle.rgo_code.specs.Names.{distinct_names, slot_class}
use Rattle.rgo_code.specs.declared.rules.Line.TheVariants as line
use Rattle.rgo_code.specs.declared.rules.Rule.TheVariants as rule
use Rattle.rgo_region_machine.specs.Machine.{Event, TakePage, next_object, object_made, page_before, page_for, plain_step}
use Rattle.rgo_region_machine.specs.Machine.{region_run, region_start, region_step, take_page, takes_page}
use Rattle.rgo_region_machine.specs.Objects.{new_object}
use Rattle.rgo_region_machine.specs.States.{Holder, RegionState, frames_of}
use Rattle.rgo_region_machine.specs.declared.regions.Region.{Region}
use Rattle.rgo_sound.proofs.plain.Steps.{Yields, yields_none, yields_then}
use Rattle.rgo_sound.specs.Safety.{most_names, name_count}
use Rattle.rgo_command_line.specs.Limits.{default_options}
use Rattle.rgo_run.specs.Compiled.{IsCompiledFrom}
use Rattle.rgo_run.specs.Headline.{Suffices}
use Rattle.rgo_run.specs.Runs.{of_program}
use Rattle.rgo_run.proofs.Sufficing.{few_suffice}
use Rattle.rgo_claim_examples.specs.Programs.{no_object}
use Rattle.rgo_claim_examples.specs.Sufficing.{without_room}
use Rattle.rgo_claim_examples.proofs.Codes.{no_object_code}
use Rattle.rgo_claim_examples.proofs.Enough.{all_at, suffices}
use Rattle.rgo_claim_examples.proofs.Lowered.{no_object_lowered}
use Rattle.rgo_claim_examples.proofs.PlainRuns.{PlainRun, joined, plain_run}
use Rattle.rgo_claim_examples.proofs.Quiet.{quiet, quiet_is_of, quiet_of, quiet_step}
use Rattle.rgo_claim_examples.proofs.Search.{found}

-- ---- no name without a pointer

abbrev AllNone : List Class → Type 0
AllNone [] = Unit {0}
AllNone (c ∷ cs) = (c ≡ NoClass) × AllNone cs

none_named : (seen cs : List Class) → AllNone cs → length (distinct_names seen cs) ≡ 0
none_named seen [] all = refl
none_named seen (NoClass ∷ cs) all = none_named seen cs all.1
none_named seen (Global ∷ cs) all = none_named seen cs all.1
none_named seen (Name k ∷ cs) all = absurd (named all.0)
  where
    named : Name k ≡ NoClass → ⊥
    named e = cc

all_append : (cs : List Class) (c : Class) → AllNone cs → c ≡ NoClass → AllNone (cs ++ c ∷ [])
all_append [] c all is = (is, tt)
all_append (d ∷ cs) c all is = (all.0, all_append cs c all.1 is)

all_of : (slots : List Slot) → ((v : ℕ) (s : Slot) → slice_get slots v ≡ Some s → s.class ≡ NoClass)
    → AllNone (map (λ (s : Slot). s.class) slots)
all_of [] each = tt
all_of (s ∷ slots) each = (each 0 s refl, all_of slots (λ v t at. each (suc v) t at))

class_none : (s : Slot) → SlotClassFitsType s → is_pointer_like s.ty ≡ false → s.class ≡ NoClass
class_none s fits plain = by s.class refl
  where
    by : (c : Class) → s.class ≡ c → s.class ≡ NoClass
    by NoClass e = e
    by Global e = absurd (true≢false (sym (fits.0 (λ n. global (sym e ∙ n))) ∙ plain))
      where
        global : Global ≡ NoClass → ⊥
        global e = cc
    by (Name k) e = absurd (true≢false (sym (fits.0 (λ n. named (sym e ∙ n))) ∙ plain))
      where
        named : Name k ≡ NoClass → ⊥
        named e = cc

-- ---- the code

-- whether a function has neither a pointer, a slice or a channel, nor a result
abbrev is_plain : TacFn → Bool
is_plain f = list_all (λ ty. not (is_pointer_like ty)) f.variables && not (is_some f.result_type)

no_pointer : (b : Bool) → not b ≡ true → b ≡ false
no_pointer true e = absurd (true≢false (sym e))
no_pointer false e = refl

without_result : (o : Option Slot) → not (is_some (option_map (λ (s : Slot). s.ty) o)) ≡ true → slot_class o ≡ NoClass
without_result None e = refl
without_result (Some s) e = absurd (true≢false (sym e))

module _ (made : Code) (compiled : IsCompiledFrom no_object made) where
  same : erased made ≡ no_object_code
  same = lowering_is_determined no_object no_object_code (erased made) no_object_lowered compiled.lowered

  -- ---- names

  plain_at : (n : ℕ) (f : CodeFn) → slice_get made.functions n ≡ Some f → is_plain (erased_fn f) ≡ true
  plain_at n f there =
      all_at is_plain no_object_code.functions n (erased_fn f) refl
      (ap (λ (c : Tac). slice_get c.functions n) (sym same) ∙ slice_get-map erased_fn made.functions n
      ∙ ap (option_map erased_fn) there)

  slot_none : (n v : ℕ) (f : CodeFn) (s : Slot) → slice_get made.functions n ≡ Some f → slice_get f.variables v ≡ Some s
      → s.class ≡ NoClass
  slot_none n v f s there at =
      let plain = and_parts (list_all (λ ty. not (is_pointer_like ty)) (erased_fn f).variables) _ (plain_at n f there) in
      let ty = all_at (λ ty. not (is_pointer_like ty)) (erased_fn f).variables v s.ty plain.0
      (slice_get-map (λ (s : Slot). s.ty) f.variables v ∙ ap (option_map (λ (s : Slot). s.ty)) at) in
      class_none s (compiled.checked rule.Classes (line.Slot n v) f s there at) (no_pointer (is_pointer_like s.ty) ty)

  no_names : (n : ℕ) (f : CodeFn) → slice_get made.functions n ≡ Some f → name_count f ≡ 0
  no_names n f there =
      let plain = and_parts (list_all (λ ty. not (is_pointer_like ty)) (erased_fn f).variables) _ (plain_at n f there) in
      none_named [] _ (all_append _ _ (all_of f.variables (λ v s at. slot_none n v f s there at))
      (without_result f.result plain.1))

  none_of : (fs : List CodeFn) → ((n : ℕ) (f : CodeFn) → slice_get fs n ≡ Some f → name_count f ≡ 0)
      → most_names fs ≡ 0
  none_of [] each = refl
  none_of (f ∷ fs) each =
      let first = each 0 f refl in
      let rest = none_of fs (λ n g at. each (suc n) g at) in
      ap (λ n. max n (most_names fs)) first ∙ ap (λ n. max 0 n) rest

  -- ---- objects

  module _ (page_words : ℕ) (events : List Event) (s : RegionState) (is_run : region_run made page_words events ≡ Some s)
    where
      plain : PlainRun made page_words (region_start made) s
      plain = plain_run made page_words events (region_start made) s is_run

      -- no step from here makes an object
      none_made : (g : ℕ) (next : TacState) → plain_step made s.plain (One g) ≡ Some next
          → new_object s.plain next ≡ None
      none_made g next e =
          let longer = joined made page_words plain.picks (One g ∷ []) (tac_start (erased made)) (quiet s.plain)
          (quiet next) plain.leads
          (ap (option_and_then (λ u. Some u)) (quiet_of (tac (erased made)) s.plain (One g) next e)) in
          let empty = found (tac no_object_code) (quiet_step (tac no_object_code)) (quiet_is_of (tac no_object_code))
          (λ t. nat_le (length t.memory.heap) 0) 4 longer.0 (tac_start no_object_code) (quiet next) refl
          (subst (λ c. Rattle.rgo_machine.specs.Runs.run (quiet_step (tac c)) (tac_start c) longer.0 ≡ Some (quiet next))
          same longer.1) in
          let none = leb-true (length next.memory.heap) 0 empty.0 in
          slice_get_past next.memory.heap (length s.plain.memory.heap) (omega (arith, none))

      none_next : (g : ℕ) → next_object made s g ≡ None
      none_next g = by (plain_step made s.plain (One g)) refl
        where
          by : (o : Option TacState) → plain_step made s.plain (One g) ≡ o → object_made s o ≡ None
          by None e = refl
          by (Some next) e = none_made g next e

      abbrev Never : RegionState → Type 0
      Never t = ⊥

      none_taken : (g : ℕ) (h : Holder) (r : Region) → Yields Never (takes_page made page_words s g h r)
      none_taken g h r =
          subst (λ o. Yields Never (option_and_then (page_before page_words s g h r) o)) (sym (none_next g)) yields_none

      none_for : (g : ℕ) (h : Holder) (frame : TacFrame) (i : CodeInstr)
          → Yields Never (page_for made page_words s g h frame i)
      none_for g h frame i = yields_then (takes_page made page_words s g h) _ (λ r. none_taken g h r)

      none_at : (g : ℕ) (h : Holder) (frames : List TacFrame) → Yields Never (take_page made page_words s g h frames)
      none_at g h [] = yields_none
      none_at g h (frame ∷ callers) =
          yields_then (page_for made page_words s g h frame) _ (λ i. none_for g h frame i)

      no_page : (g : ℕ) → Yields Never (region_step made page_words s (TakePage g))
      no_page g =
          yields_then {X = Holder} (λ h. take_page made page_words s g h (frames_of s.plain g)) (slice_get s.holders g)
          (λ h. none_at g h (frames_of s.plain g))

      no_page_some : (g : ℕ) → IsSome (region_step made page_words s (TakePage g)) → ⊥
      no_page_some g some = by (region_step made page_words s (TakePage g)) (no_page g) some
        where
          by : (o : Option RegionState) → Yields Never o → IsSome o → ⊥
          by None y some = true≢false (sym some)
          by (Some t) y some = y.fact

by_default : Suffices default_options (of_program no_object)
by_default = suffices default_options no_object_code 4 refl no_object no_object_lowered

pub needs_no_room : Suffices without_room (of_program no_object)
needs_no_room = record {
  calls = by_default.calls;
  steps = by_default.steps;
  goroutines = by_default.goroutines;
  pages = λ made compiled events s is_run lacks. no_page_some made compiled 0 events s is_run lacks.0 lacks.1;
  regions =
      few_suffice.regions without_room.sizes (of_program no_object) (λ made events s compiled is_run.
      let none = none_of made compiled made.functions (no_names made compiled) in
      let product = ap (λ n. (s.steps + length s.plain.goroutines) * n) none in
      omega (arith, product));
  object_size =
      λ made compiled events s is_run lacks.
      no_object_large (none_made made compiled 0 events s is_run lacks.0 lacks.1 lacks.2) lacks.3.0 lacks.3.1;
}
  where
    no_object_large : {o : Option Object} → o ≡ None → (object : Object) → o ≡ Some object → ⊥
    no_object_large none object some = none_some (sym none ∙ some)
      where
        none_some : ◌≡◌ {A = Option Object} None (Some object) → ⊥
        none_some e = cc
