-- In which region the next instruction makes an object, by the record.
use Rattle.std.proofs.Common.{◌≡◌, ℕ, Bool, List, ◌∷◌, Option, Some, None, true, false, true≢false, refl, sym, ap, ◌∙◌, option_and_then, option_map, if◌then◌else◌}
use Rattle.rgo_sound.specs.Typed.declared.actions.Action.{Action}
use Rattle.rgo_sound.specs.Typed.declared.actions.Action.TheVariants as action
use Rattle.rgo_sound.specs.Code.Code.{Branch, Call, Code, CodeFn, CodeOp, Do, Go, Jump, Print, Return}
use Rattle.rgo_sound.specs.RegionMachine.declared.regions.Region.{Region}
use Rattle.rgo_sound.specs.RegionMachine.Objects.{making_region, makes_object, target_class}
use Rattle.rgo_sound.specs.RegionMachine.Owed.{function_at, code_function}
use Rattle.rgo_sound.specs.RegionMachine.Regions.{Bindings, class_region}
use Rattle.rgo_sound.specs.RegionMachine.States.{Holder, top_names}
use Rattle.rgo_core_frames.specs.steps.Local.{local_by, local_frames, local_instr, local_op}
use Rattle.rgo_core_frames.specs.steps.Makes.{MakingLaw, RegionLaw}
use Rattle.rgo_core_frames.specs.shown.Operators.{computed}
use Rattle.rgo_core_frames.specs.Records.{after_op}
use Rattle.rgo_core_frames.specs.regions.Slots.{slotted_region, slot_names}
use Rattle.rgo_core_frames.specs.shown.WordFrames.{WordFrame, word_going, words_of}
use Rattle.rgo_core_frames.proofs.steps.LocalActs.{mapped}
use Rattle.rgo_core_frames.proofs.regions.Paging.{region_live}
use Rattle.rgo_core_frames.proofs.regions.SlotLemmas.{class_slot, top_slot}

-- the same instruction makes its object at the region's slot
making_slot : (slot_of : ℕ → ℕ) (f : Option CodeFn) (names : Bindings) (op : CodeOp)
    → making_region f (slot_names slot_of names) op ≡ option_map (slotted_region slot_of) (making_region f names op)
making_slot slot_of f names (Do to action from removes) = go (makes_object action)
  where
    go : (b : Bool) → (if b then class_region (slot_names slot_of names) (target_class f to) else None)
        ≡ option_map (slotted_region slot_of) (if b then class_region names (target_class f to) else None)
    go true = class_slot slot_of names (target_class f to)
    go false = refl
making_slot slot_of f names (Call to n from passes protects removes) = refl
making_slot slot_of f names (Go n from passes removes) = refl
making_slot slot_of f names (Print pieces from removes) = refl
making_slot slot_of f names (Jump target removes) = refl
making_slot slot_of f names (Branch test target removes other otherwise) = refl
making_slot slot_of f names (Return value) = refl

pub region_law : RegionLaw
region_law x by_slot e = record {
  region = at.0;
  slot_is = at.2;
  makes = makes;
  live = region_live x.here.code x.here.page_words x.here.sound.checked x.here.slot_of x.here.addresses x.here.s x.here.sound.good
      x.here.records x.here.all x.here.g x.here.c x.here.is_c x.w x.ws x.instr x.before at.0 makes;
}
  where
    at : (r : Region)
        × (making_region (code_function x.here.code x.w.function) (top_names x.before.h.environments) x.instr.op ≡ Some r)
        × (slotted_region x.here.slot_of r ≡ by_slot)
    at = mapped (slotted_region x.here.slot_of)
        (making_region (code_function x.here.code x.w.function) (top_names x.before.h.environments) x.instr.op) by_slot
        (sym (making_slot x.here.slot_of (code_function x.here.code x.w.function) (top_names x.before.h.environments) x.instr.op)
        ∙ ap (λ ns. making_region (code_function x.here.code x.w.function) ns x.instr.op)
        (sym (top_slot x.here.slot_of x.before.h.environments))
        ∙ ap (λ (h : Holder). making_region (code_function x.here.code x.w.function) (top_names h.environments) x.instr.op)
        (sym x.before.holder)
        ∙ e)

    makes : making_region (function_at x.here.code x.before.frame) (top_names x.before.h.environments) x.instr.op ≡ Some at.0
    makes =
        ap (λ k. making_region (code_function x.here.code k) (top_names x.before.h.environments) x.instr.op)
        (sym x.before.newest.alike.function)
        ∙ at.1

-- ---- it is not a local step

none : {A : Type 0} (region : Region) → None ≡ Some region → A
none region e = absurd (by e)
  where
    by : None ≡ Some region → ⊥
    by e = cc

is_making : (b : Bool) (o : Option Region) (region : Region) → (if b then o else None) ≡ Some region → b ≡ true
is_making true o region e = refl
is_making false o region e = none region e

uncomputed : (a : Action) (words : List ℕ) → makes_object a ≡ true → computed a words ≡ None
uncomputed (action.New n) words e = refl
uncomputed action.Slice words e = refl
uncomputed action.Chan words e = refl
uncomputed (action.Int k) words e = absurd (true≢false (sym e))
uncomputed (action.Bool b) words e = absurd (true≢false (sym e))
uncomputed action.Nil words e = absurd (true≢false (sym e))
uncomputed action.Copy words e = absurd (true≢false (sym e))
uncomputed (action.Binary op) words e = absurd (true≢false (sym e))
uncomputed action.Neg words e = absurd (true≢false (sym e))
uncomputed action.Not words e = absurd (true≢false (sym e))
uncomputed action.IsNil words e = absurd (true≢false (sym e))
uncomputed action.Len words e = refl
uncomputed (action.Load k) words e = refl
uncomputed (action.Store k) words e = refl
uncomputed action.At words e = refl
uncomputed action.Put words e = refl
uncomputed action.Recv words e = refl
uncomputed action.Send words e = refl
uncomputed action.Close words e = refl
uncomputed (action.Get n) words e = refl
uncomputed (action.Set n) words e = refl

module _ (code : Code) (f : Option CodeFn) (names : Bindings) (w : WordFrame) (ws : List WordFrame) (region : Region) where
  not_local : (op : CodeOp) → making_region f names op ≡ Some region → local_op code w ws op ≡ None
  not_local (Do to a from removes) e =
      ap (option_map (λ word. word_going w to word ∷ ws))
      (uncomputed a (words_of w from) (is_making (makes_object a) (class_region names (target_class f to)) region e))
  not_local (Call to n from passes protects removes) e = none region e
  not_local (Go n from passes removes) e = none region e
  not_local (Print pieces from removes) e = none region e
  not_local (Jump target removes) e = none region e
  not_local (Branch test target removes other otherwise) e = none region e
  not_local (Return value) e = none region e

pub making_law : MakingLaw
making_law code c w ws instr by_slot owes frames cur makes =
    ap (local_by code c) owes
    ∙ ap (local_frames code c.holder) frames
    ∙ ap (option_and_then (local_instr code c.holder w ws)) cur
    ∙ ap (option_map (after_op code c.holder w ws instr.op))
    (not_local code (code_function code w.function) (top_names c.holder.environments) w ws by_slot instr.op makes)
