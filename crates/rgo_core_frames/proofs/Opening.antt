-- The record of `main` fits as a run begins. The word 0 shows the zero of each type, so its variables show theirs.
use Rattle.std.proofs.Common.{◌≡◌, ℕ, zero, suc, List, [], ◌∷◌, Some, None, refl, sym, ◌∙◌, subst, inl, slice_get, true≢false}
use Rattle.std.proofs.lemmas.Option.{same_Some}
use Rattle.rgo_sound.specs.Tac.Frames.{TacFrame, new_tac_frame}
use Rattle.rgo_sound.specs.Tac.Tac.{tac_main_frames}
use Rattle.rgo_sound.specs.Code.Code.{Code, CodeFn}
use Rattle.rgo_sound.specs.Code.Erasure.{erased, erased_fn}
use Rattle.rgo_sound.specs.RegionMachine.Machine.{main_holder, region_start}
use Rattle.rgo_core_frames.specs.Fits.{RecordsFit, RecordFits}
use Rattle.rgo_core_frames.specs.goroutines.Opening.{FrameOpeningLaw, main_record}
use Rattle.rgo_core_frames.specs.Records.{FramesRec}
use Rattle.rgo_core_frames.specs.shown.Variables.{FramesShow}
use Rattle.rgo_core_frames.specs.regions.Slots.{slotted}
use Rattle.rgo_core_frames.specs.shown.WordFrames.{WordFrame, word_called}
use Rattle.rgo_core_frames.proofs.regions.Bookkeeping.{next_alike, next_slot}
use Rattle.rgo_core_frames.proofs.shown.Showing.{enters}

module _ (code : Code) (slot_of : ℕ → ℕ) (n : ℕ) (main : CodeFn)
    (begins : tac_main_frames (erased code).functions 0 ≡ new_tac_frame (erased_fn main) n [] ∷ []) where
  abbrev words : List WordFrame
  words = word_called main n [] ∷ []

  abbrev frames : List TacFrame
  frames = tac_main_frames (erased code).functions 0

  shows : FramesShow code [] frames words
  shows = subst (λ fs. FramesShow code [] fs words) (sym begins) (enters [] code main n [] [] tt, tt)

  main_fits : RecordFits code slot_of [] (region_start code) 0 (main_record code n main)
  main_fits = record {
    frames = frames;
    at = refl;
    h = main_holder code frames;
    there = refl;
    fits = inl (record {
      calm = refl;
      shown = shows;
      holder = λ i. record (slotted slot_of (main_holder code frames)) {
        duties = (next_alike code [] frames words shows ∙ sym (next_slot slot_of code frames)) i;
      };
    });
  }

  opens : RecordsFit code slot_of [] (region_start code) (main_record code n main ∷ [])
  opens = record {
    as_many = refl;
    each = each;
    laid = refl;
    slots_differ = λ r q a b e. absurd (true≢false (sym a));
    addresses_differ = λ o p a x y e f. absurd (none a e);
  }
    where
      none : (a : ℕ) → None ≡ Some a → ⊥
      none a e = cc

      each : (g : ℕ) (c : FramesRec) → slice_get (main_record code n main ∷ []) g ≡ Some c → RecordFits code slot_of [] (region_start code) g c
      each zero c e = subst (RecordFits code slot_of [] (region_start code) 0) (same_Some (main_record code n main) c e) main_fits
      each (suc g) c e = cc

pub opening_law : FrameOpeningLaw
opening_law code slot_of n main begins = opens code slot_of n main begins
