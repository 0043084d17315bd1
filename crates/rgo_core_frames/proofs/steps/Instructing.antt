-- The step of the region machine for an instruction of one goroutine that makes no object. The machine's definition is a chain of tests,
-- shown to be true one after the other.
use Rattle.std.proofs.Common.{◌≡◌, ℕ, zero, suc, true, ◌&&◌, List, [], ◌∷◌, ◌++◌, length, Option, Some, None, refl, sym, ap, ◌∙◌, le_refl, if◌then◌else◌}
use Rattle.std.proofs.Common.{slice_get, slice_set, option_map, option_and_then}
use Rattle.std.proofs.lemmas.Option.{slice_get_past, slice_get_within}
use Rattle.rgo_sound.specs.Memory.Memory.{Memory}
use Rattle.rgo_sound.specs.Machine.declared.picks.Pick.TheVariants.{One}
use Rattle.rgo_sound.specs.Tac.Frames.{TacFrame}
use Rattle.rgo_sound.specs.Tac.Tac.{TacState}
use Rattle.rgo_sound.specs.Code.Code.{Code, CodeInstr}
use Rattle.rgo_sound.specs.Code.Erasure.{erased, erased_instr, erased_op}
use Rattle.rgo_sound.specs.RegionMachine.declared.regions.Region.{Region}
use Rattle.rgo_sound.specs.RegionMachine.Duties.{may_go}
use Rattle.rgo_sound.specs.RegionMachine.Instructions.{child_holder, has_none, holder_after, instruct, is_ready, instructed, instructed_at, instructed_with, last_frames, one_instructed, some_instructed, touches, unless_trapped}
use Rattle.rgo_sound.specs.RegionMachine.Machine.{Instruct, plain_step, region_step}
use Rattle.rgo_sound.specs.RegionMachine.Objects.{allotted, making_region, may_touch, new_object, touched}
use Rattle.rgo_sound.specs.RegionMachine.Owed.{current, function_at, removes_behind}
use Rattle.rgo_sound.specs.RegionMachine.States.{Holder, RegionState, frames_in, frames_of, top_names}
use Rattle.rgo_sound.proofs.steps.Acting.{Acted, act, act_at, after, end_by}
use Rattle.rgo_sound.proofs.steps.OneStep.{SameHolder, current_erased}
use Rattle.rgo_sound.proofs.Places.{get_append_left, get_set_same}
use Rattle.rgo_core_frames.specs.Fits.{IsShown}
use Rattle.rgo_core_frames.specs.Records.{FramesRec, after_op}
use Rattle.rgo_core_frames.specs.shown.Variables.{CallersShow, FramesShow}
use Rattle.rgo_core_frames.specs.regions.Slots.{slotted}
use Rattle.rgo_core_frames.specs.shown.WordFrames.{WordFrame, bare, bare_all}
use Rattle.rgo_core_frames.proofs.regions.Bookkeeping.{after_slot}
use Rattle.rgo_core_frames.proofs.Keeping.{Changes}
use Rattle.rgo_sound.proofs.Progress.{one_step}
use Rattle.rgo_sound.proofs.offers.Offers.{after_offer}

-- goroutine g is before this instruction, owes nothing, and touches what is live
pub record IsReady
    (code : Code) (s : RegionState) (g : ℕ) (h : Holder) (frame : TacFrame) (callers : List TacFrame) (instr : CodeInstr)
    : Type 0 where
  pub there : slice_get s.holders g ≡ Some h
  pub at : slice_get s.plain.goroutines g ≡ Some (frame ∷ callers)
  pub cur : current code frame ≡ Some instr
  pub none : h.duties ≡ []
  pub free : may_go h.offer ≡ true
  pub live : may_touch s (touched frame instr.op) ≡ true
  pub running : s.plain.ended ≡ None

module _ {code : Code} {s : RegionState} {g : ℕ} {h : Holder} {frame : TacFrame} {callers : List TacFrame}
    {instr : CodeInstr} (i : IsReady code s g h frame callers instr) where
  step_of : (a : Acted) → act (erased code) s.plain.memory (erased_op instr.op) instr.place frame callers ≡ Some a
      → plain_step code s.plain (One g) ≡ Some (after s.plain g a)
  step_of a q =
      one_step code s.plain g (frame ∷ callers) i.running i.at
      ∙ ap (option_map (after s.plain g))
      (ap (λ o. act_at (erased code) s.plain.memory o frame callers)
      (current_erased code frame ∙ ap (option_map erased_instr) i.cur) ∙ q)

  -- it passes the test
  pub ready_test : is_ready code s h (frame ∷ callers) ≡ true
  ready_test =
      ap (λ ds. has_none ds && may_go h.offer && touches s frame (current code frame)) i.none
      ∙ ap (λ b. b && touches s frame (current code frame)) i.free ∙ ap (touches s frame) i.cur ∙ i.live

  pub instructs : (page_words : ℕ) (a : Acted) (given : Holder × List Region)
      → act (erased code) s.plain.memory (erased_op instr.op) instr.place frame callers ≡ Some a
      → allotted page_words h (making_region (function_at code frame) (top_names h.environments) instr.op)
      (new_object s.plain (after s.plain g a)) ≡ Some given
      → region_step code page_words s (Instruct (One g))
      ≡ Some (instructed_with code s g frame callers instr (after s.plain g a) given)
  instructs page_words a given q fitting =
      ap (option_and_then (instruct code page_words s (One g))) (step_of a q)
      ∙ ap (λ o. one_instructed code page_words s g o (frames_of s.plain g) (after s.plain g a)) i.there
      ∙ ap (λ fr. one_instructed code page_words s g (Some h) fr (after s.plain g a)) (ap frames_in i.at)
      ∙ ap (λ b. if b then instructed_at code page_words s g h frame callers (after s.plain g a) else None)
      ready_test
      ∙ ap (option_and_then (instructed code page_words s g h frame callers (after s.plain g a))) i.cur
      ∙ ap (option_and_then (some_instructed code s g frame callers instr (after s.plain g a))) fitting

  -- ---- what it leaves

  module _ (a : Acted) (safe : a.trap ≡ None) (given : Holder × List Region) where
    abbrev pub done_state : RegionState
    done_state = instructed_with code s g frame callers instr (after s.plain g a) given

    frames_after : frames_of (after s.plain g a) g ≡ a.frames
    frames_after =
        let e = get_set_same s.plain.goroutines g (frame ∷ callers) a.frames i.at in
        ap frames_in
        (get_append_left (slice_set s.plain.goroutines g a.frames) a.started g
        (slice_get_within (slice_set s.plain.goroutines g a.frames) g a.frames e) ∙ e)

    untrapped : (x y : Holder) → unless_trapped (end_by g a.frames a.trap) x y ≡ y
    untrapped x y = ap (λ e. unless_trapped (end_by g a.frames e) x y) safe ∙ go g a.frames
      where
        go : (g : ℕ) (next : List TacFrame) → unless_trapped (end_by g next None) x y ≡ y
        go zero [] = refl
        go zero (f ∷ fs) = refl
        go (suc g) next = refl

    abbrev pub next_holder : Holder
    next_holder = holder_after code given.0 frame callers instr.op a.frames

    pub changes : Changes s done_state g a.frames next_holder a.started
        (child_holder code given.0 instr.op (last_frames (after s.plain g a).goroutines))
    changes = record {
      goroutines = refl;
      holders = ap (λ k. slice_set s.holders g k ++ child_holder code given.0 instr.op (last_frames (after s.plain g a).goroutines))
          (untrapped given.0 (holder_after code given.0 frame callers instr.op (frames_of (after s.plain g a) g))
          ∙ ap (holder_after code given.0 frame callers instr.op) frames_after);
    }

    -- the record after it, by slots
    module _ (slot_of : ℕ → ℕ) (addresses : List ℕ) (same : SameHolder h given.0) (c : FramesRec) (holder_is : c.holder ≡ slotted slot_of h)
        (w : WordFrame) (ws : List WordFrame) (waiting : CallersShow code addresses callers ws)
        (tests : removes_behind (bare w) instr.op ≡ removes_behind frame instr.op) (addresses' : List ℕ)
        (next : List WordFrame) (shows : FramesShow code addresses' a.frames next) where
      same_slots : slotted slot_of given.0 ≡ slotted slot_of h
      same_slots = ap (slotted slot_of) same.same

      pub shown_after : IsShown code slot_of addresses' a.frames next_holder (after_op code c.holder w ws instr.op next)
      shown_after = record {
        calm = ap may_go (after_offer code given.0 frame callers instr.op a.frames
            ∙ ap (λ (k : Holder). k.offer) same.same) ∙ i.free;
        shown = shows;
        holder = ap (λ (k : Holder). holder_after code k (bare w) (bare_all ws) instr.op (bare_all next))
            (holder_is ∙ sym same_slots)
            ∙ sym (after_slot slot_of code addresses given.0 frame callers w ws waiting a.frames addresses' next shows instr.op tests);
      }

-- ---- over the same memory

-- no object is made
pub none_allotted : (page_words : ℕ) (h : Holder) (region : Option Region) (p : TacState) (g : ℕ) (a : Acted)
    → a.memory ≡ p.memory → allotted page_words h region (new_object p (after p g a)) ≡ Some (h, [])
none_allotted page_words h region p g a e =
    ap (allotted page_words h region)
    (ap (λ (m : Memory). slice_get m.heap (length p.memory.heap)) e ∙ slice_get_past p.memory.heap (length p.memory.heap) (le_refl _))
