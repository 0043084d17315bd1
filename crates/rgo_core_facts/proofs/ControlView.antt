-- The goroutine of a record, whether or not an offer of it was taken: its frames as they were at its send, and what it has of
-- regions. A sender whose offer was taken is past its send in the state. Its record is compared with the frames before it.
use Rattle.std.proofs.Common.{◌≡◌, ⊎_elim, ◌∙◌, ℕ, List, [], ◌∷◌, length, map, Option, Some, None, slice_get, refl, sym, ap, subst, arith}
use Rattle.std.proofs.lemmas.List.{length-map}
use Rattle.rgo_sound.specs.Code.Code.{Code, CodeFn, CodeInstr, CodeOp, Do, Slot}
use Rattle.rgo_sound.specs.Code.Erasure.{erased_fn}
use Rattle.rgo_core.specs.Frames.Fits.{RecordFits, IsPast, IsShown}
use Rattle.rgo_core.specs.Frames.shown.Variables.{FramesShow}
use Rattle.rgo_core.specs.Frames.regions.Slots.{slotted_region, slot_environments}
use Rattle.rgo_sound.specs.Memory.declared.values.Value.{Value}
use Rattle.rgo_sound.specs.Memory.declared.values.Value.TheVariants as value
use Rattle.rgo_sound.specs.RegionMachine.Instructions.{holder_after}
use Rattle.rgo_sound.specs.RegionMachine.Owed.{current, current_in, function_at}
use Rattle.rgo_sound.specs.RegionMachine.States.{Duty, RegionEnvironment, Holder, frames_in}
use Rattle.rgo_sound.specs.RegionMachine.declared.regions.Region.{Region}
use Rattle.rgo_sound.proofs.Places.{length_set}
use Rattle.rgo_sound.specs.Invariant.{FramesFit, GoodHolder}
use Rattle.rgo_sound.specs.Types.{CalledFrom, FramesHaveKinds, HaveKinds}
use Rattle.rgo_sound.specs.Tac.Frames.{TacFrame, assigned_variables, frame_after_instr}
use Rattle.rgo_sound.specs.Typed.declared.actions.Action.TheVariants.{Send}
use Rattle.rgo_sound.specs.Typed.declared.types.Type.{«Type»}
use Rattle.rgo_core.specs.Core.{Situation, Setup}
use Rattle.rgo_core.specs.Records.{Record}
use Rattle.rgo_core.proofs.image.Parts.{I}
use Rattle.rgo_core.proofs.image.Standing.{frame_at}

-- ---- frames in the code

abbrev pub IsPlaced : Code → TacFrame → Type 0
IsPlaced code frame = (fn : CodeFn) × (function_at code frame ≡ Some fn) × (length frame.variables ≡ length fn.variables)

abbrev pub ArePlaced : Code → List TacFrame → Type 0
ArePlaced code [] = Unit {0}
ArePlaced code (frame ∷ callers) = IsPlaced code frame × CalledFrom code frame callers × ArePlaced code callers

abbrev pub HasNewestInstr : Code → List TacFrame → Type 0
HasNewestInstr code [] = Unit {0}
HasNewestInstr code (frame ∷ callers) = (instr : CodeInstr) × (current code frame ≡ Some instr)

kinds_long : (kinds tys : List «Type») (vs : List Value) → HaveKinds kinds tys vs → length vs ≡ length tys
kinds_long kinds [] [] h = refl
kinds_long kinds [] (v ∷ vs) h = absurd h
kinds_long kinds (ty ∷ tys) [] h = absurd h
kinds_long kinds (ty ∷ tys) (v ∷ vs) h = let n = kinds_long kinds tys vs h.1 in omega (arith, n)

placed : (code : Code) (kinds : List «Type») (frames : List TacFrame) → FramesHaveKinds code kinds frames → ArePlaced code frames
placed code kinds [] h = tt
placed code kinds (frame ∷ callers) h = (
  (h.0.0, h.0.1, kinds_long kinds (erased_fn h.0.0).variables frame.variables h.0.2 ∙ length-map h.0.0.variables (λ (s : Slot). s.ty)),
  h.1,
  placed code kinds callers h.2,
)

assigned_long : (vs : List Value) (to : Option ℕ) (v : Value) → length (assigned_variables vs to v) ≡ length vs
assigned_long vs None v = refl
assigned_long vs (Some d) v = length_set vs d v

-- before its send, if it is past it
placed_before : (code : Code) (frame : TacFrame) (callers : List TacFrame) (to : Option ℕ) (v : Value)
    → ArePlaced code (frame_after_instr frame to v ∷ callers) → ArePlaced code (frame ∷ callers)
placed_before code frame callers to v h =
    ((h.0.0, h.0.1, sym (assigned_long frame.variables to v) ∙ h.0.2), h.1, h.2)

-- the newest frame is at an instruction
newest_instr : (code : Code) (base : List Region) (frames : List TacFrame) (es : List RegionEnvironment) (duties : List Duty)
    → FramesFit code base frames es duties → HasNewestInstr code frames
newest_instr code base [] es duties h = tt
newest_instr code base (frame ∷ callers) [] duties h = absurd h
newest_instr code base (frame ∷ callers) (e ∷ es) duties h =
    (h.0.instr, ap (λ o. current_in o frame.next) h.0.is_fn ∙ h.0.is_instr)

-- ---- the goroutine

pub record Seen {T : Setup} {g : ℕ} {c : Record} (x : Situation T g c) : Type 0 where
  -- its frames and its holder in the state
  pub now : List TacFrame
  pub at : slice_get x.s.plain.goroutines g ≡ Some now
  pub h : Holder
  pub there : slice_get x.s.holders g ≡ Some h
  -- its frames, as the record shows them
  pub frames : List TacFrame
  pub as_many : length frames ≡ length now
  pub shown : FramesShow T.code (I x).addresses frames c.frame.frames
  pub placed : ArePlaced T.code frames
  pub newest : HasNewestInstr T.code frames
  pub stakes : c.frame.holder.stakes ≡ map (I x).places.slot h.stakes
  pub pending : c.frame.holder.pending ≡ map (I x).places.slot h.pending
  pub environments : c.frame.holder.environments ≡ slot_environments (I x).places.slot h.environments
  pub base : c.frame.holder.base ≡ map (slotted_region (I x).places.slot) h.base

-- what an action leaves of the regions
record Leaves (k h : Holder) : Type 0 where
  pub stakes : k.stakes ≡ h.stakes
  pub pending : k.pending ≡ h.pending
  pub environments : k.environments ≡ h.environments
  pub base : k.base ≡ h.base

action_leaves : (code : Code) (h k : Holder) (frame : TacFrame) (callers : List TacFrame) (op : CodeOp) (next : List TacFrame) (o : _)
    (to : Option ℕ) (from removes : List ℕ) → op ≡ Do to Send from removes
    → k ≡ record (holder_after code h frame callers op next) { offer = o } → Leaves k h
action_leaves code h k frame callers op next o to from removes is e =
    subst (λ (y : Holder). Leaves y h)
    (sym (e ∙ ap (λ (p : CodeOp). record (holder_after code h frame callers p next) { offer = o }) is))
    (record { stakes = refl; pending = refl; environments = refl; base = refl })

module _ {T : Setup} {g : ℕ} {c : Record} (x : Situation T g c) where
  pub fitted : RecordFits T.code (I x).places.slot (I x).addresses x.s g c.frame
  fitted = (I x).frames.each g c.frame (frame_at x)

  abbrev pub Shown : List TacFrame → Holder → Type 0
  Shown frames h = IsShown T.code (I x).places.slot (I x).addresses frames h c.frame

  abbrev pub Past : List TacFrame → Holder → Type 0
  Past frames h = IsPast T.code (I x).places.slot (I x).addresses frames h c.frame

  pub good_holder : (frames : List TacFrame) (h : Holder) → slice_get x.s.plain.goroutines g ≡ Some frames → slice_get x.s.holders g ≡ Some h
      → GoodHolder T.code frames h
  good_holder frames h at there = subst (λ (y : List TacFrame). GoodHolder T.code y h) (ap frames_in at)
      (x.core.sound.good.good.fine.each g h there)

  placed_now : (frames : List TacFrame) → slice_get x.s.plain.goroutines g ≡ Some frames → ArePlaced T.code frames
  placed_now frames at = placed T.code x.core.sound.good.good.typed.kinds frames (x.core.sound.good.good.typed.frames g frames at)

  seen_shown : Shown fitted.frames fitted.h → Seen x
  seen_shown y =
      let f = fitted in
      record {
        now = f.frames;
        at = f.at;
        h = f.h;
        there = f.there;
        frames = f.frames;
        as_many = refl;
        shown = y.shown;
        placed = placed_now f.frames f.at;
        newest = newest_instr T.code f.h.base f.frames f.h.environments f.h.duties (good_holder f.frames f.h f.at f.there).fit;
        stakes = ap (λ (k : Holder). k.stakes) y.holder;
        pending = ap (λ (k : Holder). k.pending) y.holder;
        environments = ap (λ (k : Holder). k.environments) y.holder;
        base = ap (λ (k : Holder). k.base) y.holder;
      }

  seen_past : Past fitted.frames fitted.h → Seen x
  seen_past y =
      let f = fitted in
      let l = action_leaves T.code y.before f.h y.frame y.callers y.instr.op f.frames _ y.to (y.channel ∷ y.sent ∷ []) y.removes y.is
      y.holder_is in
      record {
        now = f.frames;
        at = f.at;
        h = f.h;
        there = f.there;
        frames = y.frame ∷ y.callers;
        as_many = sym (ap (λ (l : List TacFrame). length l) y.frames_are);
        shown = y.shown.shown;
        placed = placed_before T.code y.frame y.callers y.to value.Nil
            (subst (ArePlaced T.code) y.frames_are (placed_now f.frames f.at));
        newest = (y.instr, y.at);
        stakes = ap (λ (k : Holder). k.stakes) y.shown.holder ∙ ap (map (I x).places.slot) (sym l.stakes);
        pending = ap (λ (k : Holder). k.pending) y.shown.holder ∙ ap (map (I x).places.slot) (sym l.pending);
        environments = ap (λ (k : Holder). k.environments) y.shown.holder
            ∙ ap (slot_environments (I x).places.slot) (sym l.environments);
        base = ap (λ (k : Holder). k.base) y.shown.holder ∙ ap (map (slotted_region (I x).places.slot)) (sym l.base);
      }

  pub seen : Seen x
  seen = ⊎_elim seen_shown seen_past fitted.fits

  pub seen_good : GoodHolder T.code seen.now seen.h
  seen_good = good_holder seen.now seen.h seen.at seen.there
