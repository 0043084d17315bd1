-- Runs under way: at which states of its machine a run is, and what turns and meetings make of it.
use Rattle.std.specs.Prelude.{◌≡◌, ℕ, Bool, true, false, List, [], ◌++◌, Some, None, Result, Ok, Err}
use Rattle.std.specs.declared.alloc.AllocError.{AllocError}
use Rattle.rgo_machine.specs.declared.limits.Limits.{Limits}
use Rattle.rgo_machine.specs.declared.picks.Pick.TheVariants.{Meet}
use Rattle.rgo_machine.specs.declared.limits.Shortage.{Shortage}
use Rattle.rgo_interpreter.specs.declared.turns.TurnEnd.TheVariants as stop
use Rattle.rgo_interpreter.specs.declared.turns.Turned.{Turned}
use Rattle.rgo_machine.specs.Limits.{is_within}
use Rattle.rgo_machine.specs.Machines.{Machine, State, step_by}
use Rattle.rgo_interpreter.specs.Turns.{Turns}

-- What is stated about a run; F are the frames of its machine, C what no call changes. A run is at a state if `shows` holds: the run need
-- not hold the state in full, and what was written before is a parameter, since it no longer has it.
pub record View (F C : Type 0) : Type 1 where
  -- the machine whose goroutines take turns and meet
  pub machine : Machine F
  -- the run is at this state; before its print was last cleared it had printed these bytes
  pub shows : (given : List ℕ) → State F → Type 0
  -- What still holds of the run at this state once memory has run out: less than `shows`, since it may have run out in the middle of the
  -- bookkeeping of a step.
  pub leaves : (given : List ℕ) → State F → Type 0
  -- some goroutine lacks room for its next step at this state, before which these bytes were written
  pub lacks : Shortage → (given : List ℕ) → State F → Type 0
  -- what was printed since the print was last cleared
  pub print : List ℕ
  -- what no call changes
  pub fixed : C

-- a state in which a run continues
pub record RunContinues {F : Type 0} (limits : Limits) (s : State F) : Type 0 where
  pub running : s.ended ≡ None
  pub within : is_within limits s ≡ true

module _ {F C : Type 0} where
  -- the run is one of this machine, and is at this state, with what was written before
  pub record IsRunAt (run : View F C) (machine : Machine F) (given : List ℕ) (s : State F) : Type 0 where
    pub is : run.machine ≡ machine
    pub shown : run.shows given s

  -- the run is at some state that has not ended
  pub record IsNotEnded (run : View F C) : Type 0 where
    pub given : List ℕ
    pub state : State F
    pub shown : run.shows given state
    pub running : state.ended ≡ None

  -- the run is at some state in which it continues
  pub record IsOn (limits : Limits) (run : View F C) : Type 0 where
    pub given : List ℕ
    pub state : State F
    pub shown : run.shows given state
    pub on : RunContinues limits state

  -- a turn from state `s`, in which nothing is written
  pub record RunTakesTurn
      (run : View F C) (machine : Machine F) (limits : Limits) (given : List ℕ) (s : State F) (g at_most : ℕ)
      (turned : Turned)
      : Type 0 where
    pub state : State F
    pub turns : Turns machine limits s state g at_most turned
    pub print : state.printed ≡ run.print
    pub leaves : run.leaves given state
    pub shows : (turned.stop ≡ stop.NoMemory → ⊥) → run.shows given state
    pub lacks : (shortage : Shortage) → turned.stop ≡ stop.NoRoom shortage → run.lacks shortage given state

  -- whether a receiver and a sender have met from state `s`; if not, nothing changed
  abbrev pub TriesMeeting
      : (run : View F C) (machine : Machine F) (given : List ℕ) (s : State F) (receiver sender : ℕ)
      → Result Bool AllocError → Type 0
  TriesMeeting run machine given s receiver sender (Ok true) =
      (t : State F) × (step_by machine s (Meet receiver sender) ≡ Some t) × run.shows given t
  TriesMeeting run machine given s receiver sender (Ok false) =
      (step_by machine s (Meet receiver sender) ≡ None) × run.shows given s
  TriesMeeting run machine given s receiver sender (Err e) = run.leaves given s × (s.printed ≡ run.print)

  -- The print was cleared, and is now the end of what was written before; nothing else changed. So the run is at the same state as
  -- before, to everyone who puts the two parts together.
  pub record Clears (old new : View F C) : Type 0 where
    pub machine : new.machine ≡ old.machine
    pub print : new.print ≡ []
    pub fixed : new.fixed ≡ old.fixed
    pub shows : (given : List ℕ) (s : State F) → old.shows given s
        → new.shows (given ++ s.printed) (record s { printed = [] })
    pub leaves : (given : List ℕ) (s : State F) → old.leaves given s
        → new.leaves (given ++ s.printed) (record s { printed = [] })
    pub lacks : (shortage : Shortage) (given : List ℕ) (s : State F) → old.lacks shortage given s
        → new.lacks shortage (given ++ s.printed) (record s { printed = [] })
