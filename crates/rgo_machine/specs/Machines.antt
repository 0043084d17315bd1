-- Machines: goroutines over one memory, each a stack of frames. A machine says what a frame does by itself, where it
-- is, and how a caller continues; what goroutines do to each other is the same for all machines and is defined here. So the meaning of
-- channels, calls and starts is read once, and machines differ in their frames only.
use Rattle.std.specs.Prelude.{ℕ, zero, suc, ◌==◌, List, [], ◌∷◌, ◌++◌, Option, Some, None, slice_get, slice_set}
use Rattle.std.specs.Prelude.{if◌then◌else◌, option_and_then}
use Rattle.std.specs.Option.{option_map}
use Rattle.rgo_memory.specs.declared.values.Value.{Value}
use Rattle.rgo_memory.specs.declared.traps.Trap.{Trap}
use Rattle.rgo_memory.specs.Channels.{receive, send, close, meets_at}
use Rattle.rgo_memory.specs.Effects.{Effect, Does}
use Rattle.rgo_memory.specs.Effects as effect
use Rattle.rgo_memory.specs.Memory.{Memory}
use Rattle.rgo_machine.specs.declared.picks.Pick.{Pick}
use Rattle.rgo_machine.specs.declared.picks.Pick.TheVariants.{One, Meet}
use Rattle.rgo_machine.specs.declared.picks.End.{End}
use Rattle.rgo_machine.specs.declared.picks.End.TheVariants as the_end

-- What a frame does by itself. There is no case in which it waits: all that may wait is a `Stand`.
pub data Act (F : Type 0) : Type 0 where
  -- it continues, over this memory
  Moves : (memory : Memory) (frame : F) → Act F
  -- its function returns, with a value or without one
  Returns : (value : Option Value) → Act F
  -- it prints
  Prints : (frame : F) (bytes : List ℕ) → Act F
  -- it traps, at a place of the text
  Traps : (trap : Trap) (place : ℕ) → Act F

-- Where a frame is, and how it continues from there. A frame shows what it wants of others, and does not do it: so two goroutines can do
-- it in one step.
pub data Stand (F : Type 0) : Type 0 where
  -- before a receive; a closed channel returns `blank`, since the zero depends on a type that the machine does not know
  AtReceive : (channel blank : Value) (go_on : Value → F) → Stand F
  -- before a send, or a close, at a place of the text
  AtSend : (channel value : Value) (place : ℕ) (go_on : F) → Stand F
  AtClose : (channel : Value) (place : ℕ) (go_on : F) → Stand F
  -- before the call of a function, or the start of a goroutine, which begins with this frame
  AtCall : (go_on callee : F) → Stand F
  AtStart : (go_on child : F) → Stand F
  -- before what it does by itself
  Elsewhere : Stand F

-- What is particular to one machine, over its frames F; what goroutines do to each other is defined below for all of them.
pub record Machine (F : Type 0) : Type 0 where
  -- what a frame does by itself, if it is elsewhere
  pub act : Memory → F → Act F
  pub stand : F → Stand F
  -- a caller, when the callee has returned
  pub resume : F → Option Value → F

-- the memory; the goroutines by number, each its frames with the newest first, none where it has returned; what was
-- printed; and how the run ended
pub record State (F : Type 0) : Type 0 where
  pub memory : Memory
  pub goroutines : List (List F)
  pub printed : List ℕ
  pub ended : Option End

-- the run ends when `main` has returned, goroutine 0, whatever the others still have to do
abbrev pub end_of_return : ℕ → Option End
end_of_return zero = Some the_end.Exit
end_of_return (suc g) = None

module _ {F : Type 0} where
  -- a run that begins with this memory and the frames of `main`
  abbrev pub start_state : Memory → List F → State F
  start_state memory frames = record { memory = memory; goroutines = frames ∷ []; printed = []; ended = None }

  -- goroutine g has these frames, and all else is as it was
  abbrev pub with_frames : State F → ℕ → List F → State F
  with_frames s g frames = record s { goroutines = slice_set s.goroutines g frames }

  -- a trap changes nothing but the end
  abbrev pub trapped : State F → Trap → ℕ → State F
  trapped s trap place = record s { ended = Some (the_end.Trap trap place) }

  -- the newest frame of a goroutine has returned to its callers
  abbrev pub state_after_return : Machine F → State F → ℕ → List F → Option Value → State F
  state_after_return machine s g [] value = record (with_frames s g []) { ended = end_of_return g }
  state_after_return machine s g (caller ∷ callers) value = with_frames s g (machine.resume caller value ∷ callers)

  -- a goroutine that has these callers did this
  abbrev pub acted : Machine F → State F → ℕ → List F → Act F → State F
  acted machine s g callers (Moves m f) = record (with_frames s g (f ∷ callers)) { memory = m }
  acted machine s g callers (Returns value) = state_after_return machine s g callers value
  acted machine s g callers (Prints f bytes) = record (with_frames s g (f ∷ callers)) { printed = s.printed ++ bytes }
  acted machine s g callers (Traps trap place) = trapped s trap place

  -- an operation on a channel had this effect; a trap is at that place
  abbrev pub operated : State F → ℕ → List F → (Value → F) → ℕ → Effect → State F
  operated s g callers go_on place (Does m v) = record (with_frames s g (go_on v ∷ callers)) { memory = m }
  operated s g callers go_on place (effect.Traps trap) = trapped s trap place

  -- The state after the step of a goroutine whose newest frame is there; none if it waits. Only a receive and a send can wait. The place
  -- of a receive is 0, since a receive never traps.
  abbrev pub stepped : Machine F → State F → ℕ → F → List F → Stand F → Option (State F)
  stepped machine s g f callers (AtReceive channel blank go_on) =
      option_map (operated s g callers go_on 0) (receive s.memory channel blank)
  stepped machine s g f callers (AtSend channel v place next) =
      option_map (operated s g callers (λ _. next) place) (send s.memory channel v)
  stepped machine s g f callers (AtClose channel place next) =
      Some (operated s g callers (λ _. next) place (close s.memory channel))
  stepped machine s g f callers (AtCall next callee) = Some (with_frames s g (callee ∷ next ∷ callers))
  stepped machine s g f callers (AtStart next child) =
      Some (record s { goroutines = slice_set s.goroutines g (next ∷ callers) ++ (child ∷ []) ∷ [] })
  stepped machine s g f callers Elsewhere = Some (acted machine s g callers (machine.act s.memory f))

  -- one goroutine alone
  abbrev pub alone : Machine F → State F → ℕ → List F → Option (State F)
  alone machine s g [] = None
  alone machine s g (f ∷ callers) = stepped machine s g f callers (machine.stand f)

  -- Both sides continue if they are at one open channel without a buffer, the receiver with the value. It is one step of both: with two
  -- there would be a state in which neither has the value.
  abbrev pub met : State F → ℕ → ℕ → List F → List F → Stand F → Stand F → Option (State F)
  met s r t receivers senders (AtReceive c blank receiver) (AtSend d value place sender) =
      if meets_at s.memory c d
      then Some (with_frames (with_frames s r (receiver value ∷ receivers)) t (sender ∷ senders)) else None
  met s r t receivers senders _ _ = None

  -- the same by the frames of receiver r and sender t, whose newest frames meet; a goroutine that has returned meets nobody
  abbrev pub met_by : Machine F → State F → ℕ → ℕ → List F → List F → Option (State F)
  met_by machine s r t [] senders = None
  met_by machine s r t (f ∷ receivers) [] = None
  met_by machine s r t (f ∷ receivers) (h ∷ senders) = met s r t receivers senders (machine.stand f) (machine.stand h)

  -- the same by the numbers of the two; none if one of them is not that of a goroutine
  abbrev pub meet : Machine F → State F → ℕ → ℕ → Option (State F)
  meet machine s r t =
      option_and_then (λ f. option_and_then (met_by machine s r t f) (slice_get s.goroutines t))
      (slice_get s.goroutines r)

  -- the state after a step of one goroutine, or a meeting of two; none if there is no such step: a goroutine never meets itself
  abbrev pub picked : Machine F → State F → Pick → Option (State F)
  picked machine s (One g) = option_and_then (alone machine s g) (slice_get s.goroutines g)
  picked machine s (Meet r t) = if r == t then None else meet machine s r t

  -- no state follows the end of a run
  abbrev pub unless_ended : Option End → Option (State F) → Option (State F)
  unless_ended None next = next
  unless_ended (Some e) next = None

  -- one step of a machine; after the end there is none
  abbrev pub step_by : Machine F → State F → Pick → Option (State F)
  step_by machine s pick = unless_ended s.ended (picked machine s pick)
