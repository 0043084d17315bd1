-- What is known when two goroutines that meet are looked for: a meeting, a deadlock, or that memory has run out.
use Rattle.std.specs.Prelude.{◌≡◌, ◌⊎◌, ℕ, Bool, true, false, List, Some, None, Result, Ok, Err}
use Rattle.std.specs.declared.alloc.AllocError.{AllocError}
use Rattle.rgo_machine.specs.declared.picks.Pick.TheVariants.{Meet}
use Rattle.rgo_machine.specs.Machines.{Machine, State, step_by}
use Rattle.rgo_interpreter.specs.Meetings.{IsUnmet}
use Rattle.rgo_round_robin.specs.declared.drivers.Driver.{Driver}
use Rattle.rgo_machine.specs.declared.ends.RunEnd.{RunEnd}
use Rattle.rgo_machine.specs.declared.ends.RunEnd.TheVariants as run_end
use Rattle.rgo_round_robin.specs.Points.{listed_at_channel}
use Rattle.rgo_round_robin.specs.Running.{View, IsRunAt}
use Rattle.rgo_round_robin.specs.Sleeping.{Watches}
use Rattle.rgo_round_robin.specs.Turning.{CountsUp}

-- the state at which a run of this machine is left when memory has run out
pub record IsLeftOver {F C : Type 0} (run : View F C) (machine : Machine F) (given : List ℕ) (s : State F)
    : Type 0 where
  pub is : run.machine ≡ machine
  pub print : s.printed ≡ run.print
  pub leaves : run.leaves given s

-- Memory has run out, before a meeting or after it: after it, if there is no memory to list the two. The step has then been taken.
pub record MeetsNoMemory
    {F C : Type 0} (run : View F C) (machine : Machine F) (given : List ℕ) (s : State F) (end : RunEnd)
    : Type 0 where
  pub is : end ≡ run_end.NoMemory
  pub state : State F
  pub step : (state ≡ s) ⊎ ((met : ℕ × ℕ) × (step_by machine s (Meet met.0 met.1) ≡ Some state))
  pub left : IsLeftOver run machine given state

module _ {F C : Type 0} (run : View F C) (machine : Machine F) (given : List ℕ) (s : State F) where
  -- a receiver and a sender have met, with the counts of steps
  pub record HaveMet (met : ℕ × ℕ) (m n : ℕ) : Type 0 where
    pub state : State F
    pub at : IsRunAt run machine given state
    pub step : step_by machine s (Meet met.0 met.1) ≡ Some state
    pub counted : CountsUp m 1 n

  -- what trying a meeting has made of a run, with the counts of steps
  abbrev pub MeetingTried : ℕ × ℕ → (m n : ℕ) → Result Bool AllocError → Type 0
  MeetingTried met m n (Ok true) = HaveMet met m n
  MeetingTried met m n (Ok false) = (step_by machine s (Meet met.0 met.1) ≡ None) × IsRunAt run machine given s × (n ≡ m)
  MeetingTried met m n (Err e) = IsLeftOver run machine given s

  -- the same, of two that can meet
  abbrev pub MeetsFound : ℕ × ℕ → (m n : ℕ) → Result (Unit {0}) AllocError → Type 0
  MeetsFound met m n (Ok x) = HaveMet met m n
  MeetsFound met m n (Err e) = IsLeftOver run machine given s

  -- two have met, and no goroutine is lost
  pub record MeetsTwo (d e : Driver) : Type 0 where
    pub met : ℕ × ℕ
    pub meets : HaveMet met d.steps e.steps
    pub watches : Watches machine s d.ready.items (listed_at_channel d.waiting)
        → Watches machine meets.state e.ready.items (listed_at_channel e.waiting)

  -- no two can meet
  pub record MeetsNone (end : RunEnd) : Type 0 where
    pub is : end ≡ run_end.Deadlock
    pub at : IsRunAt run machine given s
    pub unmet : (g : ℕ) → IsUnmet machine s g

  -- two have met; if no two can, the run ends with a deadlock
  abbrev pub MeetsAny : Result (Unit {0}) RunEnd → (d e : Driver) → Type 0
  MeetsAny (Ok x) d e = MeetsTwo d e
  MeetsAny (Err end) d e = MeetsNone end ⊎ MeetsNoMemory run machine given s end
