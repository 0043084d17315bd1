-- A run under way, as plain data: the state, which the driver does not see, and what the driver knows.
use Rattle.std.specs.Prelude.{ℕ, List, [], Option, Some, None, nat_eq, Vec}
use Rattle.std.specs.HashMap.{HashMap, get}
use Rattle.rgo_machine.specs.Machines.{State}
use Rattle.rgo_round_robin.specs.declared.drivers.Driver.{Driver}

-- the numbers in a list, none if there is no list
abbrev pub numbers_in : {Z : Type 0} → Option (Vec ℕ Z) → List ℕ
numbers_in (Some list) = list.items
numbers_in None = []

-- the goroutines that are listed at a channel
abbrev pub listed_at_channel : {Z S : Type 0} → HashMap ℕ (Vec ℕ Z) S → ℕ → List ℕ
listed_at_channel waiting channel = numbers_in (get nat_eq waiting channel)

pub record Point (F : Type 0) : Type 0 where
  pub state : State F
  -- how many steps were taken, counted up to the end of a u64
  pub steps : ℕ
  -- the goroutines that have a turn in the next round
  pub ready : List ℕ
  -- those that wait at each channel
  pub waiting : ℕ → List ℕ

-- a run that a driver drives, at this state
abbrev pub point_of : {F : Type 0} → State F → Driver → Point F
point_of s d = record { state = s; steps = d.steps; ready = d.ready.items; waiting = listed_at_channel d.waiting }
