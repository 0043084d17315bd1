-- The erasure of a region run: the run of the three-address machine that remains without the region steps. It ties the two
-- machines together: regions change neither what a program prints nor how it ends. It holds for any code, checked or not.
use Rattle.std.specs.Prelude.{List, None, Option, Some, [], option_map, unwrap_or, ℕ, ◌++◌, ◌∷◌, ◌≡◌}
use Rattle.rgo_code.specs.Code.{Code}
use Rattle.rgo_code.specs.Erasure.{erased}
use Rattle.rgo_machine.specs.Runs.{Leads}
use Rattle.rgo_machine.specs.declared.limits.Sizes.{Sizes}
use Rattle.rgo_machine.specs.declared.picks.End.{End}
use Rattle.rgo_machine.specs.declared.picks.Pick.{Pick}
use Rattle.rgo_region_machine.specs.Machine.{Acknowledge, Attend, Event, Finish, Instruct, MakeOffer, TakePage}
use Rattle.rgo_region_machine.specs.Machine.{region_run, region_start, region_step}
use Rattle.rgo_region_machine.specs.States.{Ended, Mark, RegionState, Stopped}
use Rattle.rgo_tac.specs.Tac.{TacState, tac_start, tac_step}

-- the picks of an event: none after the end mark, since the three-address machine has stopped there
abbrev pub event_picks : Option Mark → Event → List Pick
event_picks None (Instruct pick) = pick ∷ []
event_picks None (Attend g) = []
event_picks None (TakePage g) = []
event_picks None (MakeOffer g) = []
event_picks None (Acknowledge g) = []
event_picks None (Finish end) = []
event_picks (Some end) event = []

-- The picks of a run up to its end mark, without the region steps. It follows the run, since only the states show where the mark
-- is set; after an event without a step nothing follows.
abbrev pub erased_picks : Code → ℕ → RegionState → List Event → List Pick
erased_picks code page_words s [] = []
erased_picks code page_words s (event ∷ events) =
    event_picks s.mark event ++ unwrap_or (option_map (λ t. erased_picks code page_words t events)
    (region_step code page_words s event)) []

-- the picks of a run, without its region steps
abbrev pub picks_of : Code → Sizes → List Event → List Pick
picks_of code sizes events = erased_picks code sizes.page_words (region_start code) events

-- The end of a plain run and the end mark: an exit or a trap is both. A limit is an end mark only: the plain run has not ended, and
-- is a beginning of one that could continue.
abbrev pub SameEnd : Option End → Option Mark → Type 0
SameEnd None None = Unit {0}
SameEnd None (Some (Ended end)) = ⊥
SameEnd None (Some (Stopped limit)) = Unit {0}
SameEnd (Some end) mark = mark ≡ Some (Ended end)

-- The erasure is a run of the three-address machine with the same print and the same end. Before an end mark it leads to the plain
-- part of the state; after one the state may have gone on, so only the print and the end are compared.
pub record ErasesTo (code : Code) (page_words : ℕ) (events : List Event) (s : RegionState) : Type 0 where
  pub state : TacState
  pub leads : Leads (tac_step (erased code)) (tac_start (erased code))
      (erased_picks code page_words (region_start code) events) state
  pub print : state.printed ≡ s.plain.printed
  pub end : SameEnd state.ended s.mark
  pub same : s.mark ≡ None → state ≡ s.plain

-- each region run erases to a plain run
abbrev pub Erasure : Type 0
Erasure = (code : Code) (page_words : ℕ) (events : List Event) (s : RegionState) → region_run code page_words events
    ≡ Some s → ErasesTo code page_words events s
