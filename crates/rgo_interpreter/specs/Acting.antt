-- What results of a machine's code say about its definition. On allocation failure nothing changed, in each of them: so a step happens as a
-- whole or not at all.
use Rattle.std.specs.Prelude.{◌≡◌, ℕ, List, [], ◌∷◌, ◌++◌, Option, Some, None, Result, Ok, Err, slice_get}
use Rattle.std.specs.Prelude.{option_and_then}
use Rattle.std.specs.declared.alloc.AllocError.{AllocError}
use Rattle.rgo_memory.specs.declared.values.Value.{Value}
use Rattle.rgo_memory.specs.Memory.{Memory}
use Rattle.rgo_interpreter.specs.declared.machines.Did.{Did}
use Rattle.rgo_interpreter.specs.declared.machines.Did.TheVariants as did
use Rattle.rgo_interpreter.specs.declared.machines.Stand.{Stand as CodeStand}
use Rattle.rgo_interpreter.specs.declared.machines.Stand.TheVariants as code
use Rattle.rgo_interpreter.specs.declared.steps.Stepped.{Stepped}
use Rattle.rgo_interpreter.specs.declared.steps.Stepped.TheVariants as stepped
use Rattle.rgo_machine.specs.Machines.{Act, Moves, Returns, Prints, Traps, State, Machine}
use Rattle.rgo_machine.specs.Machines.{Stand, AtReceive, AtSend, AtClose, AtCall, AtStart, Elsewhere}

module _ {F : Type 0} where
  -- where a frame is, without how it continues, which code does by changing the frame
  abbrev pub stand_of : Stand F → CodeStand
  stand_of (AtReceive channel blank go_on) = code.Receive channel blank
  stand_of (AtSend channel value place next) = code.Send channel value place
  stand_of (AtClose channel place next) = code.Close channel place
  stand_of (AtCall next callee) = code.Call
  stand_of (AtStart next child) = code.Start
  stand_of Elsewhere = code.Elsewhere

  -- the frame after an operation on a channel that returned this value; as it was if it is not at a channel
  abbrev pub frame_after_operation : F → Value → Stand F → F
  frame_after_operation f v (AtReceive channel blank go_on) = go_on v
  frame_after_operation f v (AtSend channel value place next) = next
  frame_after_operation f v (AtClose channel place next) = next
  frame_after_operation f v _ = f

  -- the frame after a call or a start, and the new one
  abbrev pub entered_frames : Stand F → Option (F × F)
  entered_frames (AtCall next callee) = Some (next, callee)
  entered_frames (AtStart next child) = Some (next, child)
  entered_frames _ = None

  -- what a call or a start left of a frame; nothing changed on allocation failure, or if there was none
  abbrev pub FrameEnters : Result (Option F) AllocError → (before after : F) → Stand F → Type 0
  FrameEnters (Ok (Some begun)) before after stand = entered_frames stand ≡ Some (after, begun)
  FrameEnters (Ok None) before after stand = (entered_frames stand ≡ None) × (after ≡ before)
  FrameEnters (Err e) before after stand = after ≡ before

  -- What a frame did by itself, with the memory, the frame and the print before and after; on allocation failure
  -- nothing changed.
  abbrev pub FrameActs : Result Did AllocError → (m n : Memory) (f g : F) (old new : List ℕ) → Act F → Type 0
  FrameActs (Ok did.Moves) m n f g old new act = (act ≡ Moves n g) × (new ≡ old)
  FrameActs (Ok (did.Returns value)) m n f g old new act = (act ≡ Returns value) × (n ≡ m) × (g ≡ f) × (new ≡ old)
  FrameActs (Ok did.Prints) m n f g old new act =
      (bytes : List ℕ) × (act ≡ Prints g bytes) × (n ≡ m) × (new ≡ old ++ bytes)
  FrameActs (Ok (did.Traps trap at)) m n f g old new act = (act ≡ Traps trap at) × (n ≡ m) × (g ≡ f) × (new ≡ old)
  FrameActs (Err e) m n f g old new act = (n ≡ m) × (g ≡ f) × (new ≡ old)

  -- the result of a step of the machine; if there is none, and on allocation failure, nothing changed
  abbrev pub MachineSteps : Result Stepped AllocError → (before after : State F) → Option (State F) → Type 0
  MachineSteps (Ok stepped.Advanced) before after next = (next ≡ Some after) × (after.ended ≡ None)
  MachineSteps (Ok (stepped.Ended e)) before after next = (next ≡ Some after) × (after.ended ≡ Some e)
  MachineSteps (Ok stepped.NotEnabled) before after next = (next ≡ None) × (after ≡ before)
  MachineSteps (Err e) before after next = after ≡ before

  -- where the newest frame of a goroutine is; none if it has returned, or does not exist
  abbrev pub newest_stand : Machine F → List F → Option CodeStand
  newest_stand machine [] = None
  newest_stand machine (f ∷ callers) = Some (stand_of (machine.stand f))

  abbrev pub standing : Machine F → State F → ℕ → Option CodeStand
  standing machine s g = option_and_then (newest_stand machine) (slice_get s.goroutines g)
