-- What one goroutine does by its frames, whatever the other goroutines are.
use Rattle.std.specs.Prelude.{◌≡◌, ℕ, zero, suc, Bool, true, false, List, [], ◌∷◌, Option, Some, None, Result, Ok, Err}
use Rattle.std.specs.Prelude.{slice_get, slice_set}
use Rattle.std.specs.Option.{option_map}
use Rattle.std.specs.declared.alloc.AllocError.{AllocError}
use Rattle.rgo_interpreter.specs.declared.effects.Effect.{Effect as CodeEffect}
use Rattle.rgo_interpreter.specs.declared.effects.Effect.TheVariants as effect
use Rattle.rgo_memory.specs.declared.values.Value.{Value}
use Rattle.rgo_memory.specs.declared.values.Value.TheVariants as value
use Rattle.rgo_memory.specs.Channels.{SameChannels, SameChannelsBut}
use Rattle.rgo_memory.specs.Memory.{Memory}
use Rattle.rgo_interpreter.specs.declared.machines.Stand.{Stand as CodeStand}
use Rattle.rgo_interpreter.specs.declared.machines.Stand.TheVariants as code
use Rattle.rgo_interpreter.specs.declared.goroutines.Happened.{Happened}
use Rattle.rgo_interpreter.specs.declared.goroutines.Happened.TheVariants as happened
use Rattle.rgo_machine.specs.declared.picks.End.{End}
use Rattle.rgo_machine.specs.declared.picks.End.TheVariants as the_end
use Rattle.rgo_interpreter.specs.Acting.{frame_after_operation, entered_frames}
use Rattle.rgo_machine.specs.Machines.{Machine, State, alone}

-- what an operation on a channel did
abbrev pub happened_by : CodeEffect → Value → (place : ℕ) → Happened
happened_by (effect.Traps trap) channel place = happened.Ends (the_end.Trap trap place)
happened_by (effect.Gives v) (value.Object n) place = happened.Operates n
happened_by (effect.Gives v) _ place = happened.Moves

-- Which channels changed: at most the one that was operated on. A driver wakes only those that wait there, so this is what makes it right
-- to leave the others asleep.
abbrev pub ChangesAt : Result Happened AllocError → Memory → Memory → Type 0
ChangesAt (Ok (happened.Operates n)) before after = SameChannelsBut n before after
ChangesAt _ before after = SameChannels before after

abbrev pub is_at_start : CodeStand → Bool
is_at_start code.Start = true
is_at_start _ = false

-- the channel from which a goroutine receives next, if it is at a receive
abbrev pub receives_at : Option CodeStand → Option Value
receives_at (Some (code.Receive channel blank)) = Some channel
receives_at _ = None

-- the channel to which it sends, and the value
abbrev pub sends_at : Option CodeStand → Option (Value × Value)
sends_at (Some (code.Send channel v place)) = Some (channel, v)
sends_at _ = None

-- the print, which is as it was unless the step printed: so a driver looks at the print only after such a step
abbrev pub KeepsPrint : Result Happened AllocError → (old new : List ℕ) → Type 0
KeepsPrint (Ok happened.Prints) old new = Unit {0}
KeepsPrint _ old new = new ≡ old

module _ {F : Type 0} where
  -- the frames after an operation on a channel that returned this value
  abbrev pub after_operation : Machine F → Value → List F → List F
  after_operation machine v [] = []
  after_operation machine v (f ∷ callers) = frame_after_operation f v (machine.stand f) ∷ callers

  -- the same by the effect of the operation
  abbrev pub after_effect : Machine F → CodeEffect → List F → List F
  after_effect machine (effect.Gives v) frames = after_operation machine v frames
  after_effect machine (effect.Traps trap) frames = frames

  -- the frames after a return
  abbrev pub after_return : Machine F → Option Value → List F → List F
  after_return machine v [] = []
  after_return machine v (f ∷ []) = []
  after_return machine v (f ∷ caller ∷ callers) = machine.resume caller v ∷ callers

  -- what a return did, which left these frames to the goroutine of this number
  abbrev pub ended_by_return : ℕ → List F → Happened
  ended_by_return zero [] = happened.Ends the_end.Exit
  ended_by_return _ _ = happened.Moves

  -- the two frames after a call or a start, the first of them on these callers
  abbrev pub onto : List F → F × F → List F × F
  onto callers both = (both.0 ∷ callers, both.1)

  -- the frames after a call or a start, without the new one, and the new one
  abbrev pub entered_by : Machine F → List F → Option (List F × F)
  entered_by machine [] = None
  entered_by machine (f ∷ callers) = option_map (onto callers) (entered_frames (machine.stand f))

  -- The frame of the function that was called or started. If there was none, and on allocation failure, nothing
  -- changed: the step can be left out, or is the end of the run.
  abbrev pub EntersNewest : Machine F → Result (Option F) AllocError → (before after : List F) → Type 0
  EntersNewest machine (Ok (Some begun)) before after = entered_by machine before ≡ Some (after, begun)
  EntersNewest machine (Ok None) before after = (entered_by machine before ≡ None) × (after ≡ before)
  EntersNewest machine (Err e) before after = after ≡ before

  -- the same, with the frame of the function on top
  abbrev pub with_callee : List F × F → List F
  with_callee both = both.1 ∷ both.0

  abbrev pub after_call : Machine F → List F → Option (List F)
  after_call machine frames = option_map with_callee (entered_by machine frames)

  abbrev pub Calls : Machine F → Result Bool AllocError → (before after : List F) → Type 0
  Calls machine (Ok true) before after = after_call machine before ≡ Some after
  Calls machine (Ok false) before after = (after_call machine before ≡ None) × (after ≡ before)
  Calls machine (Err e) before after = after ≡ before

  -- the same, with the frame of the function in a goroutine of its own
  abbrev pub with_child_goroutine : List F × F → List F × List F
  with_child_goroutine both = (both.0, both.1 ∷ [])

  abbrev pub ChildBegins : Machine F → Result (Option (List F)) AllocError → (before after : List F) → Type 0
  ChildBegins machine (Ok (Some child)) before after =
      option_map with_child_goroutine (entered_by machine before) ≡ Some (after, child)
  ChildBegins machine (Ok None) before after = (entered_by machine before ≡ None) × (after ≡ before)
  ChildBegins machine (Err e) before after = after ≡ before

  -- a running state of these parts
  abbrev pub running : Memory → List (List F) → List ℕ → State F
  running m goroutines printed = record { memory = m; goroutines = goroutines; printed = printed; ended = None }

  -- The goroutine of this number, among any others, has a step from these frames to those. It is stated for all lists of goroutines, so
  -- that code can hold one goroutine and know nothing of the list.
  abbrev pub GoroutineSteps : Machine F → ℕ → Option End → (m n : Memory) (before after : List F) (old new : List ℕ) → Type 0
  GoroutineSteps machine g ended m n before after old new =
      (goroutines : List (List F)) → slice_get goroutines g ≡ Some before
      → alone machine (running m goroutines old) g before
      ≡ Some (record { memory = n; goroutines = slice_set goroutines g after; printed = new; ended = ended })

  -- What a goroutine of this number did, with the memory, its frames and the print before and after. If it waits,
  -- and on allocation failure, nothing changed.
  abbrev pub Happens
      : Machine F → ℕ → Result Happened AllocError → (m n : Memory) (before after : List F) (old new : List ℕ)
      → Type 0
  Happens machine g (Ok happened.Waits) m n before after old new =
      ((goroutines : List (List F)) → alone machine (running m goroutines old) g before ≡ None)
      × (n ≡ m) × (after ≡ before) × (new ≡ old)
  Happens machine g (Ok (happened.Ends e)) m n before after old new =
      GoroutineSteps machine g (Some e) m n before after old new
  Happens machine g (Ok _) m n before after old new = GoroutineSteps machine g None m n before after old new
  Happens machine g (Err e) m n before after old new = (n ≡ m) × (after ≡ before) × (new ≡ old)

  -- the result of a step of one goroutine alone; if it waits, and on allocation failure, nothing changed
  abbrev pub StepsAlone : Result Happened AllocError → (before after : State F) → Option (State F) → Type 0
  StepsAlone (Ok happened.Waits) before after next = (next ≡ None) × (after ≡ before)
  StepsAlone (Ok (happened.Ends e)) before after next = (next ≡ Some after) × (after.ended ≡ Some e)
  StepsAlone (Ok _) before after next = (next ≡ Some after) × (after.ended ≡ None)
  StepsAlone (Err e) before after next = after ≡ before

  -- whether two have met
  abbrev pub MeetsSo : Bool → (before after : State F) → Option (State F) → Type 0
  MeetsSo true before after next = (next ≡ Some after) × (after.ended ≡ None)
  MeetsSo false before after next = (next ≡ None) × (after ≡ before)

  -- the goroutines after an operation of one of them on a channel, which returned this value
  abbrev pub goroutines_after_operation : Machine F → Value → List (List F) → ℕ → List (List F)
  goroutines_after_operation machine v [] g = []
  goroutines_after_operation machine v (frames ∷ goroutines) zero = after_operation machine v frames ∷ goroutines
  goroutines_after_operation machine v (frames ∷ goroutines) (suc g) = frames ∷ goroutines_after_operation machine v goroutines g
