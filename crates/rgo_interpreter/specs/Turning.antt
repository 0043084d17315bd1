-- When a turn meets a limit, and why it is over after a step.
use Rattle.std.specs.Prelude.{ℕ, nat_le, List, length, Option, Some, None, slice_get, if◌then◌else◌}
use Rattle.rgo_interpreter.specs.declared.goroutines.Happened.{Happened}
use Rattle.rgo_interpreter.specs.declared.goroutines.Happened.TheVariants as happened
use Rattle.rgo_machine.specs.declared.limits.Limits.{Limits}
use Rattle.rgo_interpreter.specs.declared.machines.Stand.{Stand as CodeStand}
use Rattle.rgo_interpreter.specs.declared.machines.Stand.TheVariants as code
use Rattle.rgo_interpreter.specs.declared.turns.TurnEnd.{TurnEnd}
use Rattle.rgo_interpreter.specs.declared.turns.TurnEnd.TheVariants as stop
use Rattle.rgo_interpreter.specs.declared.turns.Turned.{Turned}
use Rattle.rgo_machine.specs.Limits.{deepest, most_goroutines}
use Rattle.rgo_machine.specs.Machines.{State}

abbrev pub turn_of : Happened → Turned
turn_of happened.Waits = record { steps = 0; stop = stop.Waits }
turn_of happened.Moves = record { steps = 1; stop = stop.Spent }
turn_of happened.Prints = record { steps = 1; stop = stop.Printed }
turn_of (happened.Operates channel) = record { steps = 1; stop = stop.Operated channel }
turn_of (happened.Ends e) = record { steps = 1; stop = stop.Ended e }

module _ {F : Type 0} where
  -- how many frames a goroutine has, 0 if it does not exist
  abbrev pub depth_in : Option (List F) → ℕ
  depth_in None = 0
  depth_in (Some frames) = length frames

  abbrev pub depth_of : State F → ℕ → ℕ
  depth_of s g = depth_in (slice_get s.goroutines g)

  -- the limit that a goroutine meets at this point
  abbrev pub limit_at : Limits → State F → ℕ → CodeStand → Option TurnEnd
  limit_at limits s g code.Call = if nat_le deepest (depth_of s g) then Some stop.TooDeep else None
  limit_at limits s g code.Start =
      if nat_le (most_goroutines limits) (length s.goroutines) then Some stop.Full else None
  limit_at limits s g _ = None
