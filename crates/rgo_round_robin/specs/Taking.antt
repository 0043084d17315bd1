-- What turns and their parts make of a run under way.
use Rattle.std.specs.Prelude.{◌≡◌, ℕ, Bool, true, false, List, Option, None}
use Rattle.rgo_machine.specs.declared.limits.Limits.{Limits}
use Rattle.rgo_interpreter.specs.declared.turns.Turned.{Turned}
use Rattle.rgo_machine.specs.Machines.{Machine, State}
use Rattle.rgo_interpreter.specs.Turns.{IsOver}
use Rattle.rgo_round_robin.specs.declared.drivers.Driver.{Driver}
use Rattle.rgo_machine.specs.declared.ends.RunEnd.{RunEnd}
use Rattle.rgo_round_robin.specs.Points.{listed_at_channel, point_of}
use Rattle.rgo_round_robin.specs.Running.{View, IsRunAt}
use Rattle.rgo_round_robin.specs.Runs.{IsRunLeft}
use Rattle.rgo_round_robin.specs.Sleeping.{Sleeps, LosesNoGoroutine, RoundContinues}
use Rattle.rgo_round_robin.specs.Turning as turning
use Rattle.rgo_round_robin.specs.Turning.{run_end_of, TurnMoved, Stopped, Advances}

module _
    {F C : Type 0} (run : View F C) (machine : Machine F) (limits : Limits) (g : ℕ) (given : List ℕ) (s : State F)
  where
    -- the run ends after some steps of the goroutine
    pub record StopsAt (at_most : ℕ) (end : RunEnd) : Type 0 where
      pub state : State F
      pub stopped : Stopped machine limits g s state at_most end
      pub print : state.printed ≡ run.print
      pub left : IsRunLeft run machine given state end

    module _ (d e : Driver) where
      -- the run continues after `count` steps of the goroutine, and no other one is lost
      pub record TurnMovesTo (count : ℕ) : Type 0 where
        pub state : State F
        pub at : IsRunAt run machine given state
        pub moved : TurnMoved machine limits g (point_of s d) (point_of state e) count
        pub keeps : LosesNoGoroutine machine g (point_of s d) (point_of state e)

      -- the same after steps alone, which are over so
      pub record TurnStepsTo (at_most : ℕ) (turned : Turned) : Type 0 where
        pub moves : TurnMovesTo turned.steps
        pub none : run_end_of turned.stop ≡ None
        pub over : IsOver machine limits moves.state g at_most turned.steps turned.stop

      -- a goroutine that waits has met another; or nothing has happened, and it sleeps
      abbrev pub WaitsTo : Bool → Type 0
      WaitsTo true = TurnMovesTo 1
      WaitsTo false = (moves : TurnMovesTo 0) × Sleeps machine moves.state (listed_at_channel e.waiting) g

      -- steps of a goroutine, at most `left`: how many are left then, none if it sleeps
      pub record AdvancesTo (left : ℕ) (rest : Option ℕ) : Type 0 where
        pub state : State F
        pub at : IsRunAt run machine given state
        pub advances : Advances machine limits rest g (point_of s d) (point_of state e) left
        pub keeps : LosesNoGoroutine machine g (point_of s d) (point_of state e)
        pub sleeps : rest ≡ None → Sleeps machine state (listed_at_channel e.waiting) g

      -- a whole turn, after which the run continues
      pub record TurnsTo : Type 0 where
        pub state : State F
        pub at : IsRunAt run machine given state
        pub turned : turning.Turned machine limits g (point_of s d) (point_of state e)
        pub passes : RoundContinues machine g (point_of s d) (point_of state e)
