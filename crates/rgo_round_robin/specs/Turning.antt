-- What happens in the turn of a goroutine: steps alone and meetings.
use Rattle.std.specs.Prelude.{◌≡◌, ◌≤◌, ◌⊎◌, ℕ, ◌+◌, ◌-◌, ◌^◌, min, List, length, All, Option, Some, None}
use Rattle.rgo_machine.specs.declared.limits.Limits.{Limits}
use Rattle.rgo_machine.specs.declared.picks.Pick.{Pick}
use Rattle.rgo_interpreter.specs.declared.turns.TurnEnd.{TurnEnd}
use Rattle.rgo_interpreter.specs.declared.turns.TurnEnd.TheVariants as stop
use Rattle.rgo_machine.specs.Limits.{LeadsWithin}
use Rattle.rgo_machine.specs.Machines.{Machine, State}
use Rattle.rgo_machine.specs.declared.ends.RunEnd.{RunEnd}
use Rattle.rgo_machine.specs.declared.ends.RunEnd.TheVariants as run_end
use Rattle.rgo_round_robin.specs.Points.{Point}
use Rattle.rgo_round_robin.specs.Rounds.{IsPickOf, IsTurn}
use Rattle.rgo_round_robin.specs.Running.{RunContinues}
use Rattle.rgo_machine.specs.Ends.{RunEndsAs}

-- the channel on which a turn has operated last
abbrev pub operated_channel : TurnEnd → Option ℕ
operated_channel (stop.Operated channel) = Some channel
operated_channel stop.Spent = None
operated_channel stop.Waits = None
operated_channel stop.Printed = None
operated_channel (stop.Ended e) = None
operated_channel stop.TooDeep = None
operated_channel stop.Full = None
operated_channel (stop.NoRoom shortage) = None
operated_channel stop.NoMemory = None

-- the end of the run that a turn has found; a turn that spent its steps, waits, printed or operated ends nothing
abbrev pub run_end_of : TurnEnd → Option RunEnd
run_end_of (stop.Ended e) = Some (run_end.Ended e)
run_end_of stop.TooDeep = Some run_end.CallsTooDeep
run_end_of stop.Full = Some run_end.GoroutinesSpent
run_end_of (stop.NoRoom shortage) = Some (run_end.NoRoom shortage)
run_end_of stop.NoMemory = Some run_end.NoMemory
run_end_of stop.Spent = None
run_end_of stop.Waits = None
run_end_of stop.Printed = None
run_end_of (stop.Operated channel) = None

-- A count that stops at the end of a u64, m before and n after `count` steps. It is related to the true number of steps, so that such
-- relations add up even after it has stopped.
abbrev pub CountsUp : (m count n : ℕ) → Type 0
CountsUp m count n = (taken : ℕ) → m ≡ min taken (2 ^ 64 - 1) → n ≡ min (taken + count) (2 ^ 64 - 1)

-- a count of steps before and after these
abbrev pub CountsPicks : ℕ → List Pick → ℕ → Type 0
CountsPicks m picks n = CountsUp m (length picks) n

-- the two goroutines meet, the one as the receiver and the other as the sender
abbrev pub AreMet : ℕ × ℕ → (g h : ℕ) → Type 0
AreMet met g h = ((met.0 ≡ g) × (met.1 ≡ h)) ⊎ ((met.0 ≡ h) × (met.1 ≡ g))

module _ {F : Type 0} (machine : Machine F) (limits : Limits) where
  -- `count` steps of a goroutine, after which the run continues
  pub record TurnMoved (g : ℕ) (p q : Point F) (count : ℕ) : Type 0 where
    pub picks : List Pick
    pub leads : LeadsWithin machine limits p.state picks q.state
    pub own : All (IsPickOf g) picks
    pub long : length picks ≡ count
    pub counted : CountsPicks p.steps picks q.steps
    pub on : RunContinues limits q.state

  -- some steps of a goroutine, after which the run ends
  pub record Stopped (g : ℕ) (s t : State F) (at_most : ℕ) (end : RunEnd) : Type 0 where
    pub picks : List Pick
    pub leads : LeadsWithin machine limits s picks t
    pub own : All (IsPickOf g) picks
    pub short : length picks ≤ at_most
    pub ends : (before steps : ℕ) → RunEndsAs machine limits before steps t end
    pub no_fault : end ≡ run_end.WriteFault → ⊥

  -- steps of a goroutine, at most `left`: how many are left then, none if it sleeps
  abbrev pub Advances : Option ℕ → ℕ → Point F → Point F → ℕ → Type 0
  Advances (Some rest) g p q left = (rest ≤ left) × TurnMoved g p q (left - rest)
  Advances None g p q left = (count : ℕ) × (count ≤ left) × TurnMoved g p q count

  -- a whole turn, after which the run continues
  pub record Turned (g : ℕ) (p q : Point F) : Type 0 where
    pub picks : List Pick
    pub turn : IsTurn machine limits p.state g picks q.state
    pub counted : CountsPicks p.steps picks q.steps
    pub on : RunContinues limits q.state
