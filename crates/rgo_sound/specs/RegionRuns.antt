-- What the claim about the whole program says about the run of its code: the bridge from this crate's laws to `rgo run`.
use Rattle.std.specs.Prelude.{◌≡◌, ℕ, List, ◌++◌, Option, Some, slice_get}
use Rattle.rgo_code.specs.Code.{Code}
use Rattle.rgo_code.specs.Erasure.{erased}
use Rattle.rgo_machine.specs.Ends.{RunsFreely}
use Rattle.rgo_machine.specs.declared.ends.RunEnd.{RunEnd}
use Rattle.rgo_machine.specs.declared.ends.RunEnd.TheVariants.{NoRoom}
use Rattle.rgo_machine.specs.declared.limits.Limits.{Limits}
use Rattle.rgo_machine.specs.declared.limits.Sizes.{Sizes}
use Rattle.rgo_machine.specs.declared.limits.Shortage.{Shortage}
use Rattle.rgo_region_machine.specs.Counts.{Counts, counts_of}
use Rattle.rgo_region_machine.specs.Machine.{Event, region_run}
use Rattle.rgo_region_machine.specs.Room.{StateFitsIn, LacksIn}
use Rattle.rgo_region_machine.specs.States.{Holder, RegionState, plain_at}
use Rattle.rgo_region_machine.specs.declared.regions.Region.{Region}
use Rattle.rgo_sound.specs.NextNames.{HasStake, NextNames}
use Rattle.rgo_sound.specs.Safety.{IsSafe}
use Rattle.rgo_tac.specs.Tac.{TacState, tac, tac_start}
use Rattle.rgo_sound.specs.Erasure.{picks_of}

-- each region that a goroutine names next is Global, or live with a stake of the goroutine
abbrev pub NamesLive : Code → RegionState → Type 0
NamesLive code s =
    (g : ℕ) (h : Holder) (r : Region) → slice_get s.holders g ≡ Some h → NextNames code s g h h.duties h.offer r
    → HasStake s h r

-- A run of the code with its regions, in pages of this size, that has come to this state of the three-address machine. Its
-- steps are those of the region machine, none of which touches or removes a region that was removed, or removes Global.
-- `safe` says so too: by `NamesLive`, what a goroutine names or touches next is live.
-- The run never has more pages or regions than the sizes allow. Goroutines may still step after its end, until all have stopped.
pub record RegionRun (code : Code) (sizes : Sizes) (end : RunEnd) (t : TacState) : Type 0 where
  -- the events up to the end, and those after it: workers that are in a turn when the run ends finish what they have begun
  pub events : List Event
  pub late : List Event
  pub state : RegionState
  pub last : RegionState
  pub run : region_run code sizes.page_words events ≡ Some state
  pub more : region_run code sizes.page_words (events ++ late) ≡ Some last
  -- without its regions it is in this state, and its end mark is that end; `plain_at` takes the print from t, so the next part is
  -- needed: it has printed the same
  pub is : plain_at state t.printed ≡ t
  pub printed : state.plain.printed ≡ t.printed
  -- in each state that it went through, stakes are counted, and what any goroutine names next is live
  pub safe : (before after : List Event) (s : RegionState) → events ++ late ≡ before ++ after
      → region_run code sizes.page_words before ≡ Some s → IsSafe code sizes.page_words s × NamesLive code s
  -- and no more pages are in use, and no more regions are live, than the sizes allow
  pub within : (before after : List Event) (s : RegionState) → events ++ late ≡ before ++ after
      → region_run code sizes.page_words before ≡ Some s → StateFitsIn sizes s
  -- if the run stopped for lack of room, some goroutine really needed it: a run cannot be stopped early and blame its limits
  pub lacks : (why : Shortage) → end ≡ NoRoom why → LacksIn code sizes why state

-- Some run of the code, its steps in some order, has this end and this print. The same picks are those of a run with regions, whose
-- counts after its last step are the tally.
pub record CodeRuns (code : Code) (sizes : Sizes) (limits : Limits) (end : RunEnd) (tally : Counts) (old new : Option (List ℕ)) : Type 0 where
  pub runs : RunsFreely (tac (erased code)) limits (tac_start (erased code)) end old new
  pub regions : RegionRun code sizes end runs.state
  pub same : runs.picks ≡ picks_of code sizes regions.events
  pub made : counts_of regions.last ≡ tally
