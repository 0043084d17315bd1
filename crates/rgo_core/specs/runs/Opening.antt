-- How a table opens: the record of `main`, and that the run without a step explains the first words. From here every later state of the
-- table follows, access by access.
use Rattle.std.specs.Prelude.{◌≤◌, ℕ, suc, List, [], ◌∷◌, bytes_eq, codes, if◌then◌else◌}
use Rattle.rgo_sound.specs.Code.Checked.{IsChecked}
use Rattle.rgo_sound.specs.Code.Code.{Code, CodeFn}
use Rattle.rgo_sound.specs.Code.NameRules.{Ascends}
use Rattle.rgo_core_frames.specs.shown.Constants.{ConstantsFit}
use Rattle.rgo_core_frames.specs.Records.{FramesRec as FrameRec}
use Rattle.rgo_core_frames.specs.shown.WordFrames.{WordFrame, bare_all, word_called}
use Rattle.rgo_core_memory.specs.Opening.{first_words}
use Rattle.rgo_sound.specs.Machine.Limits.{most_goroutines}
use Rattle.rgo_sound.specs.RegionMachine.Machine.{main_holder}
use Rattle.rgo_core.specs.Core.{Core, Setup, layout}
use Rattle.rgo_core.specs.Records.{Record, begins_with, fresh}

-- the frame of `main`; n is the number of the first function of the list
abbrev pub main_words : List CodeFn → ℕ → List WordFrame
main_words [] n = []
main_words (fn ∷ fns) n = if bytes_eq fn.name (codes "main") then word_called fn n [] ∷ [] else main_words fns (suc n)

abbrev pub main_frame : Code → FrameRec
main_frame code = record {
  frames = main_words code.functions 0;
  holder = main_holder code (bare_all (main_words code.functions 0));
}

abbrev pub first_of : Code → Record
first_of code = record (begins_with (main_frame code)) { clock = fresh }

abbrev pub opening_table : Setup → List ℕ
opening_table T = first_words (layout T)

abbrev pub TableOpeningLaw : Type 0
TableOpeningLaw = (T : Setup) → IsChecked T.code → Ascends T.code → ConstantsFit T.code
    → most_goroutines T.limits ≤ 1000000 → Core T (opening_table T) (first_of T.code ∷ []) []
