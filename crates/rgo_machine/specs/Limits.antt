-- What limits a run, and the runs within the limits.
use Rattle.std.specs.Prelude.{◌≡◌, ℕ, max, Bool, ◌&&◌, nat_le, List, ◌∷◌, length, Option, Some, None, slice_get}
use Rattle.std.specs.Prelude.{if◌then◌else◌, option_and_then}
use Rattle.std.specs.List.{list_all}
use Rattle.rgo_machine.specs.declared.limits.Limits.{Limits}
use Rattle.rgo_machine.specs.declared.picks.Pick.{Pick}
use Rattle.rgo_machine.specs.Machines.{Machine, State, Stand, AtCall, AtStart, step_by}
use Rattle.rgo_machine.specs.Runs.{Leads}

-- the most frames of a goroutine
abbrev pub deepest : ℕ
deepest = 100000

-- the most goroutines of a run, those that have returned included; there is always `main`
abbrev pub most_goroutines : Limits → ℕ
most_goroutines limits = max 1 limits.goroutines

module _ {F : Type 0} where
  -- whether a goroutine has at most `deepest` frames
  abbrev pub is_within_depth : List F → Bool
  is_within_depth frames = nat_le (length frames) deepest

  -- whether the state has no more goroutines than the limits allow, and each of them no more frames than `deepest`
  abbrev pub is_within : Limits → State F → Bool
  is_within limits s = nat_le (length s.goroutines) (most_goroutines limits) && list_all is_within_depth s.goroutines

  -- the state if it is within the limits; if not, none, as for a step that does not exist
  abbrev pub if_within : Limits → State F → Option (State F)
  if_within limits s = if is_within limits s then Some s else None

  -- The steps that stay within the limits. The state after the step is tested, so every state of such a run is within them, if the first
  -- is.
  abbrev pub limited_step : Machine F → Limits → State F → Pick → Option (State F)
  limited_step machine limits s pick = option_and_then (if_within limits) (step_by machine s pick)

  -- the picks lead from the one state to the other, always within the limits
  abbrev pub LeadsWithin : Machine F → Limits → State F → List Pick → State F → Type 0
  LeadsWithin machine limits s picks t = Leads (limited_step machine limits) s picks t

  -- the frame calls a function next
  abbrev pub IsAtCall : Stand F → Type 0
  IsAtCall (AtCall next callee) = Unit {0}
  IsAtCall _ = ⊥

  -- the frame starts a goroutine next
  abbrev pub IsAtStart : Stand F → Type 0
  IsAtStart (AtStart next child) = Unit {0}
  IsAtStart _ = ⊥

  -- some goroutine has 100,000 frames, and is before a call: it has a step, but none within the limits
  pub record IsCallTooDeep (machine : Machine F) (s : State F) : Type 0 where
    pub goroutine : ℕ
    pub frame : F
    pub callers : List F
    pub frames : slice_get s.goroutines goroutine ≡ Some (frame ∷ callers)
    pub deep : length (frame ∷ callers) ≡ deepest
    pub calls : IsAtCall (machine.stand frame)

  -- there are as many goroutines as there may be, and some goroutine is before the start of another
  pub record IsFull (machine : Machine F) (limits : Limits) (s : State F) : Type 0 where
    pub full : length s.goroutines ≡ most_goroutines limits
    pub goroutine : ℕ
    pub frame : F
    pub callers : List F
    pub frames : slice_get s.goroutines goroutine ≡ Some (frame ∷ callers)
    pub starts : IsAtStart (machine.stand frame)
