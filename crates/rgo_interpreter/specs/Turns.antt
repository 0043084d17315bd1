-- Turns: up to n steps of one goroutine in a row.
use Rattle.std.specs.Prelude.{◌≡◌, ◌≤◌, ◌<◌, ℕ, List, replicate, Some, None}
use Rattle.rgo_memory.specs.Channels.{SameChannels, SameChannelsBut}
use Rattle.rgo_memory.specs.Memory.{Memory}
use Rattle.rgo_machine.specs.declared.limits.Limits.{Limits}
use Rattle.rgo_machine.specs.declared.picks.Pick.TheVariants.{One}
use Rattle.rgo_interpreter.specs.declared.turns.TurnEnd.{TurnEnd}
use Rattle.rgo_interpreter.specs.declared.turns.TurnEnd.TheVariants as stop
use Rattle.rgo_interpreter.specs.declared.turns.Turned.{Turned}
use Rattle.rgo_machine.specs.Limits.{LeadsWithin, IsCallTooDeep, IsFull}
use Rattle.rgo_machine.specs.Machines.{Machine, State, step_by}

module _ {F : Type 0} where
  -- Why a turn of `at_most` steps is over in a state, after `steps`. Each reason says what a driver concludes from it: a goroutine that
  -- waits has no step alone in this state, one that meets a limit is before the step that would pass it.
  abbrev pub IsOver : Machine F → Limits → State F → ℕ → (at_most steps : ℕ) → TurnEnd → Type 0
  IsOver machine limits t g at_most steps stop.Spent = (t.ended ≡ None) × (steps ≡ at_most)
  IsOver machine limits t g at_most steps stop.Waits = (t.ended ≡ None) × (step_by machine t (One g) ≡ None)
  IsOver machine limits t g at_most steps stop.Printed = (t.ended ≡ None) × (0 < steps)
  IsOver machine limits t g at_most steps (stop.Operated channel) = (t.ended ≡ None) × (0 < steps)
  IsOver machine limits t g at_most steps (stop.Ended e) = (t.ended ≡ Some e) × (0 < steps)
  IsOver machine limits t g at_most steps stop.TooDeep = (t.ended ≡ None) × IsCallTooDeep machine t
  IsOver machine limits t g at_most steps stop.Full = (t.ended ≡ None) × IsFull machine limits t
  -- room is not a notion of machines: what is lacking is stated by the run under way (`lacks` of its view)
  IsOver machine limits t g at_most steps (stop.NoRoom shortage) = t.ended ≡ None
  IsOver machine limits t g at_most steps stop.NoMemory = t.ended ≡ None

-- which channels a turn has changed: at most the one that it reports, so only goroutines that wait there need a turn again
abbrev pub ChangesChannels : TurnEnd → Memory → Memory → Type 0
ChangesChannels (stop.Operated channel) before after = SameChannelsBut channel before after
ChangesChannels stop.Spent before after = SameChannels before after
ChangesChannels stop.Waits before after = SameChannels before after
ChangesChannels stop.Printed before after = SameChannels before after
ChangesChannels (stop.Ended e) before after = SameChannels before after
ChangesChannels stop.TooDeep before after = SameChannels before after
ChangesChannels stop.Full before after = SameChannels before after
ChangesChannels (stop.NoRoom shortage) before after = SameChannels before after
ChangesChannels stop.NoMemory before after = SameChannels before after

-- what a turn has printed: nothing, unless it is over because of that
abbrev pub ChangesPrint : TurnEnd → (before after : List ℕ) → Type 0
ChangesPrint stop.Printed before after = Unit {0}
ChangesPrint stop.Spent before after = after ≡ before
ChangesPrint stop.Waits before after = after ≡ before
ChangesPrint (stop.Operated channel) before after = after ≡ before
ChangesPrint (stop.Ended e) before after = after ≡ before
ChangesPrint stop.TooDeep before after = after ≡ before
ChangesPrint stop.Full before after = after ≡ before
ChangesPrint (stop.NoRoom shortage) before after = after ≡ before
ChangesPrint stop.NoMemory before after = after ≡ before

-- a turn of a goroutine from one state to another
pub record Turns
    {F : Type 0} (machine : Machine F) (limits : Limits) (s t : State F) (g at_most : ℕ) (turned : Turned)
    : Type 0 where
  pub leads : LeadsWithin machine limits s (replicate turned.steps (One g)) t
  pub within : turned.steps ≤ at_most
  pub over : IsOver machine limits t g at_most turned.steps turned.stop
  pub channels : ChangesChannels turned.stop s.memory t.memory
  pub print : ChangesPrint turned.stop s.printed t.printed
