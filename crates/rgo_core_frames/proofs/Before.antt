-- What follows from a record before an instruction. By the offer the record is not past its send, so its frames are shown. Types and
-- stakes are those of the invariant of region safety.
use Rattle.std.proofs.Common.{◌≡◌, ◌⊎◌, ℕ, List, [], ◌∷◌, Some, refl, sym, ap, ◌∙◌, subst, inl, inr, slice_get}
use Rattle.rgo_sound.specs.Tac.Frames.{TacFrame}
use Rattle.rgo_sound.specs.Code.Checked.{IsChecked}
use Rattle.rgo_sound.specs.Code.Code.{Code, CodeInstr}
use Rattle.std.proofs.Common.{true≢false}
use Rattle.rgo_sound.specs.RegionMachine.Duties.{may_go}
use Rattle.rgo_sound.specs.RegionMachine.Owed.{current}
use Rattle.rgo_sound.specs.RegionMachine.States.{Duty, Holder, NoOffer, Offer, RegionState, Standing, Taken}
use Rattle.rgo_sound.specs.Good.{AllGood}
use Rattle.rgo_core_frames.specs.steps.Before.{IsBefore}
use Rattle.rgo_core_frames.specs.steps.BeforeLaws.{BeforeLaw, MayGo}
use Rattle.rgo_core_frames.specs.Fits.{RecordFits, IsPast, IsShown}
use Rattle.rgo_core_frames.specs.Records.{FramesRec}
use Rattle.rgo_core_frames.specs.shown.Variables.{FramesShow}
use Rattle.rgo_core_frames.specs.regions.Slots.{nameless, slot_duties}
use Rattle.rgo_core_frames.specs.shown.WordFrames.{WordFrame, bare}
use Rattle.rgo_core_frames.proofs.regions.Bookkeeping.{current_alike}
use Rattle.rgo_core_frames.proofs.shown.Showing.{reads_show}
use Rattle.rgo_core_frames.proofs.Standing.{reads_staked}

pub no_offer : (o : Offer) → nameless o ≡ NoOffer → o ≡ NoOffer
no_offer NoOffer e = refl
no_offer (Standing o) e = cc
no_offer (Taken o) e = cc

pub no_duties : (slot_of : ℕ → ℕ) (ds : List Duty) → slot_duties slot_of ds ≡ [] → ds ≡ []
no_duties slot_of [] e = refl
no_duties slot_of (d ∷ ds) e = cc

before_at : (code : Code) (s : RegionState) (slot_of : ℕ → ℕ) (addresses : List ℕ) (g : ℕ) (c : FramesRec) (w : WordFrame)
    (ws : List WordFrame) (instr : CodeInstr) → IsChecked code → AllGood code s → (frames : List TacFrame) (h : Holder)
    → slice_get s.plain.goroutines g ≡ Some frames → slice_get s.holders g ≡ Some h
    → IsShown code slot_of addresses frames h c → c.frames ≡ w ∷ ws → current code (bare w) ≡ Some instr
    → c.holder.duties ≡ [] → IsBefore code slot_of addresses s g c w ws instr
before_at code s slot_of addresses g c w ws instr checked good frames h at there shown is cur none =
    by frames at (subst (FramesShow code addresses frames) is shown.shown)
  where
    by : (frames : List TacFrame) → slice_get s.plain.goroutines g ≡ Some frames → FramesShow code addresses frames (w ∷ ws)
        → IsBefore code slot_of addresses s g c w ws instr
    by [] at f = absurd f
    by (frame ∷ callers) at f =
        let now : current code frame ≡ Some instr = sym (current_alike code frame w f.0.alike) ∙ cur in
        record {
          frame = frame;
          callers = callers;
          h = h;
          at = at;
          there = there;
          cur = now;
          none = no_duties slot_of h.duties (ap (λ (k : Holder). k.duties) (sym shown.holder) ∙ none);
          free = shown.calm;
          frames_are = is;
          newest = f.0;
          waiting = f.1;
          holder = shown.holder;
          shown = reads_show addresses code frame w instr now f.0;
          staked = reads_staked code s g h frame callers instr checked good.good there at now;
          kinds = good.good.typed.kinds;
          memory = good.good.typed.memory;
          typed = good.good.typed.frames g (frame ∷ callers) at;
        }

pub before_law : BeforeLaw
before_law x w ws instr is cur none free = go f.fits
  where
    f : RecordFits x.code x.slot_of x.addresses x.s x.g x.c
    f = x.all.each x.g x.c x.is_c

    go : IsShown x.code x.slot_of x.addresses f.frames f.h x.c ⊎ IsPast x.code x.slot_of x.addresses f.frames f.h x.c
        → IsBefore x.code x.slot_of x.addresses x.s x.g x.c w ws instr
    go (inl shown) =
        before_at x.code x.s x.slot_of x.addresses x.g x.c w ws instr x.sound.checked x.sound.good f.frames f.h f.at f.there
        shown is cur none
    go (inr past) = absurd (by free)
      where
        offered : (o : Offer) → o ≡ Standing past.offer → nameless o ≡ NoOffer → ⊥
        offered NoOffer e n = cc
        offered (Standing p) e n = cc
        offered (Taken p) e n = cc

        by : MayGo x → ⊥
        by (inl e) = offered past.before.offer past.stood (ap (λ (k : Holder). k.offer) (sym past.shown.holder) ∙ e)
        by (inr k) = true≢false (sym (k f.h f.there) ∙ ap (λ (h : Holder). may_go h.offer) past.holder_is)
