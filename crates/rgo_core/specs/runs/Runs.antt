-- Runs of the region machine every state of which is within the limits of frames and goroutines, and beginnings of such runs. The machine
-- itself has no limits. The claim about a run does, so the rule has to keep them.
use Rattle.std.specs.Prelude.{◌≡◌, ℕ, List, ◌∷◌, ◌++◌, Option, Some, None, option_and_then, if◌then◌else◌}
use Rattle.rgo_sound.specs.Code.Code.{Code}
use Rattle.rgo_sound.specs.Machine.Limits.{is_within}
use Rattle.rgo_sound.specs.Machine.Runs.{run}
use Rattle.rgo_sound.specs.Machine.declared.limits.Limits.{Limits}
use Rattle.rgo_sound.specs.RegionMachine.Machine.{Event, region_start, region_step}
use Rattle.rgo_sound.specs.RegionMachine.States.{Mark, RegionState}

module _ (code : Code) (page_words : ℕ) (limits : Limits) where
  abbrev pub if_in_limits : RegionState → Option RegionState
  if_in_limits s = if is_within limits s.plain then Some s else None

  -- the steps that stay within the limits
  abbrev pub step_in_limits : RegionState → Event → Option RegionState
  step_in_limits s event = option_and_then if_in_limits (region_step code page_words s event)

  abbrev pub limited_run : List Event → Option RegionState
  limited_run events = run step_in_limits (region_start code) events

  -- A beginning of the run that has printed these bytes and has not ended. It names the run of a driver that ran out of memory, whose print
  -- stops somewhere in the middle.
  pub record Printed (events : List Event) (bytes : List ℕ) : Type 0 where
    pub first : List Event
    pub rest : List Event
    pub is : events ≡ first ++ rest
    pub state : RegionState
    pub leads : limited_run first ≡ Some state
    pub unmarked : state.mark ≡ None
    pub printed : state.plain.printed ≡ bytes

  -- The step that ended the run after it had printed these bytes; the cause of the end held before it. Steps may follow: other goroutines
  -- run until they look at the clock.
  pub record Marked (Cause : Mark → RegionState → Type 0) (events : List Event) (mark : Mark) (bytes : List ℕ) : Type 0 where
    pub first : List Event
    pub event : Event
    pub rest : List Event
    pub is : events ≡ first ++ event ∷ rest
    pub state : RegionState
    pub leads : limited_run first ≡ Some state
    pub unmarked : state.mark ≡ None
    pub printed : state.plain.printed ≡ bytes
    pub next : RegionState
    pub steps : step_in_limits state event ≡ Some next
    pub marked : next.mark ≡ Some mark
    pub still : next.plain.printed ≡ state.plain.printed
    pub cause : Cause mark state
