-- Deadlocks: the run has not ended, and no pick has a step.
use Rattle.std.specs.Prelude.{◌≡◌, ℕ, List, [], ◌∷◌, Some, None, slice_get}
use Rattle.rgo_memory.specs.Channels.{receive, send}
use Rattle.rgo_memory.specs.Memory.{Memory}
use Rattle.rgo_machine.specs.Machines.{Machine, State, Stand, AtReceive, AtSend, step_by}
use Rattle.rgo_machine.specs.Runs.{IsBlocked}

module _ {F : Type 0} where
  -- The first part is needed: after its end a run has no step either.
  abbrev pub IsDeadlock : Machine F → State F → Type 0
  IsDeadlock machine s = (s.ended ≡ None) × IsBlocked (step_by machine) s

  -- before a receive or a send, on a channel that is not ready
  abbrev pub WaitsAt : Memory → Stand F → Type 0
  WaitsAt m (AtReceive channel blank go_on) = receive m channel blank ≡ None
  WaitsAt m (AtSend channel v place next) = send m channel v ≡ None
  WaitsAt m _ = ⊥

  -- a goroutine that has returned, or waits at a channel
  abbrev pub HasReturnedOrWaits : Machine F → Memory → List F → Type 0
  HasReturnedOrWaits machine m [] = Unit {0}
  HasReturnedOrWaits machine m (f ∷ callers) = WaitsAt m (machine.stand f)

  -- In a deadlock every goroutine has returned or waits at a channel. The definition above says only that nothing can step; this law is
  -- what a reader expects of it.
  abbrev pub DeadlocksWait : Machine F → Type 0
  DeadlocksWait machine =
      (s : State F) → IsDeadlock machine s
      → (g : ℕ) (frames : List F) → slice_get s.goroutines g ≡ Some frames → HasReturnedOrWaits machine s.memory frames
