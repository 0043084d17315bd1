-- The invariant of region runs of checked code, and that each step keeps it. It is about states and not about runs, so that
-- rgo_region_interpreter can use it from any state at which its world is.
use Rattle.std.specs.Prelude.{Some, ℕ, ◌≡◌}
use Rattle.rgo_code.specs.Checked.{IsChecked}
use Rattle.rgo_code.specs.Code.{Code}
use Rattle.rgo_code.specs.NameRules.{Ascends}
use Rattle.rgo_region_machine.specs.Machine.{Event, region_start, region_step}
use Rattle.rgo_region_machine.specs.States.{RegionState}
use Rattle.rgo_sound.specs.Invariant.{Fine}
use Rattle.rgo_sound.specs.Offers.{OffersFit}
use Rattle.rgo_sound.specs.Types.{AreValuesTyped}
use Rattle.rgo_sound.specs.Values.{ValuesStay}

-- Names and stakes, types, and where pointers lead. Each part is kept by a step that starts from all three: a removal keeps pointers
-- because its name is not held, and a variable has a class because its value has a type.
pub record Good (code : Code) (s : RegionState) : Type 0 where
  pub fine : Fine code s
  pub typed : AreValuesTyped code s.plain
  pub values : ValuesStay code s

-- Offers come last: whether a step keeps them follows from `Good` before it, and no other part needs them.
pub record AllGood (code : Code) (s : RegionState) : Type 0 where
  pub good : Good code s
  pub offers : OffersFit code s

-- it holds at the start
abbrev pub StartIsGood : Type 0
StartIsGood = (code : Code) → IsChecked code → Ascends code → AllGood code (region_start code)

-- each step keeps it
abbrev pub StepsKeepGood : Type 0
StepsKeepGood = (code : Code) (page_words : ℕ) (s t : RegionState) (event : Event) → IsChecked code → Ascends code
    → AllGood code s → region_step code page_words s event ≡ Some t → AllGood code t
