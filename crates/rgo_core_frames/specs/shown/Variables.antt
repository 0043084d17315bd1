-- How words represent the variables of frames: those of live variables show their values. A dead variable may point to an object that
-- was removed, whose address is another's by now. So all variables would be too many.
use Rattle.rgo_sound.specs.Code.Code.{Code, CodeFn, CodeInstr}
use Rattle.rgo_sound.specs.Code.Erasure.{erased_fn}
use Rattle.rgo_sound.specs.Flow.Live.{Live}
use Rattle.rgo_sound.specs.RegionMachine.Owed.{current, function_at}
use Rattle.rgo_sound.specs.Values.{call_target}
use Rattle.rgo_sound.specs.Tac.Frames.{TacFrame, value_at}
use Rattle.std.specs.Prelude.{List, None, Option, Some, [], length, ℕ, ◌+◌, ◌∷◌, ◌≡◌, ◌≢◌}
use Rattle.rgo_core_frames.specs.shown.WordFrames.{WordFrame, frame_word}
use Rattle.rgo_core_frames.specs.shown.Words.{Shows}

-- what is live at i, except for one variable, shows its value
abbrev pub LiveShow : Code → (addresses : List ℕ) → (but : Option ℕ) → (i : ℕ) → TacFrame → WordFrame → Type 0
LiveShow code addresses but i frame w =
    (fn : CodeFn) → function_at code frame ≡ Some fn → (v : ℕ) → but ≢ Some v → Live (erased_fn fn) v i
    → Shows addresses (value_at frame v) (frame_word w v)

-- both are at the same place in the code, with equally many variables
pub record IsAlike (frame : TacFrame) (w : WordFrame) : Type 0 where
  pub function : w.function ≡ frame.function
  pub next : w.next ≡ frame.next
  pub as_many : length w.variables ≡ length frame.variables

-- the newest frame: what is live at its instruction
pub record NewestShows (code : Code) (addresses : List ℕ) (frame : TacFrame) (w : WordFrame) : Type 0 where
  pub alike : IsAlike frame w
  pub shows : LiveShow code addresses None frame.next frame w

-- a caller: what is live after its call, except for the variable that waits for the result
pub record CallerShows (code : Code) (addresses : List ℕ) (frame : TacFrame) (w : WordFrame) : Type 0 where
  pub alike : IsAlike frame w
  pub shows : (call : CodeInstr) → current code frame ≡ Some call
      → LiveShow code addresses (call_target call.op) (frame.next + 1) frame w

abbrev pub CallersShow : Code → (addresses : List ℕ) → List TacFrame → List WordFrame → Type 0
CallersShow code addresses [] [] = Unit {0}
CallersShow code addresses [] (w ∷ ws) = ⊥
CallersShow code addresses (caller ∷ callers) [] = ⊥
CallersShow code addresses (caller ∷ callers) (w ∷ ws) = CallerShows code addresses caller w × CallersShow code addresses callers ws

abbrev pub FramesShow : Code → (addresses : List ℕ) → List TacFrame → List WordFrame → Type 0
FramesShow code addresses [] [] = Unit {0}
FramesShow code addresses [] (w ∷ ws) = ⊥
FramesShow code addresses (frame ∷ callers) [] = ⊥
FramesShow code addresses (frame ∷ callers) (w ∷ ws) = NewestShows code addresses frame w × CallersShow code addresses callers ws
