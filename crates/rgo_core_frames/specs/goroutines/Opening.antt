-- The record with which a run begins: `main` before its first instruction.
use Rattle.rgo_sound.specs.Code.Code.{Code, CodeFn}
use Rattle.rgo_sound.specs.Code.Erasure.{erased, erased_fn}
use Rattle.rgo_sound.specs.RegionMachine.Machine.{main_holder, region_start}
use Rattle.rgo_sound.specs.Tac.Frames.{new_tac_frame}
use Rattle.rgo_sound.specs.Tac.Tac.{tac_main_frames}
use Rattle.rgo_sound.specs.RegionMachine.States.{NoOffer}
use Rattle.std.specs.Prelude.{[], ℕ, ◌∷◌, ◌≡◌}
use Rattle.rgo_core_frames.specs.Fits.{RecordsFit}
use Rattle.rgo_core_frames.specs.Records.{FramesRec}
use Rattle.rgo_core_frames.specs.shown.WordFrames.{bare_all, word_called}

abbrev pub main_record : Code → ℕ → CodeFn → FramesRec
main_record code n main = record {
  frames = word_called main n [] ∷ [];
  holder = main_holder code (bare_all (word_called main n [] ∷ []));
}

-- a record without frames, which has no stake in any region
abbrev pub no_record : FramesRec
no_record = record {
  frames = [];
  holder = record {
    stakes = [];
    pending = [];
    environments = [];
    base = [];
    fills = [];
    reserved = 0;
    duties = [];
    offer = NoOffer;
  };
}

abbrev pub FrameOpeningLaw : Type 0
FrameOpeningLaw =
    (code : Code) (slot_of : ℕ → ℕ) (n : ℕ) (main : CodeFn)
    → tac_main_frames (erased code).functions 0 ≡ new_tac_frame (erased_fn main) n [] ∷ []
    → RecordsFit code slot_of [] (region_start code) (main_record code n main ∷ [])
