-- What happens in rounds, with what goes out. Everything is stated for every print before: the run clears its print when it is written, so
-- its states have only the newest part, and these records put the parts together to runs that keep all.
use Rattle.std.specs.Prelude.{◌≡◌, ◌<◌, ℕ, ◌+◌, ◌-◌, ◌^◌, min, max, List, ◌++◌, length, Option}
use Rattle.std.specs.Io.KnownBytes.{Appends}
use Rattle.rgo_machine.specs.declared.limits.Limits.{Limits}
use Rattle.rgo_machine.specs.declared.picks.Pick.{Pick}
use Rattle.rgo_machine.specs.Machines.{Machine, State}
use Rattle.rgo_machine.specs.declared.ends.RunEnd.{RunEnd}
use Rattle.rgo_round_robin.specs.declared.drivers.Driver.{Driver}
use Rattle.rgo_round_robin.specs.Points.{Point, listed_at_channel, point_of}
use Rattle.rgo_round_robin.specs.Rounds.{IsTurn, AreTurns, IsRound, IsBegunRound, AreRounds, all_of}
use Rattle.rgo_round_robin.specs.Running.{View, IsRunAt}
use Rattle.rgo_machine.specs.Ends.{RunEndsAs, RunPrints}
use Rattle.rgo_round_robin.specs.Runs.{IsReadyForTurn, IsRunLeft}
use Rattle.rgo_round_robin.specs.Sleeping.{Watches, RoundContinues}
use Rattle.rgo_round_robin.specs.Turning.{CountsPicks}

module _ {F : Type 0} where
  -- the state with this print
  abbrev pub state_with_print : State F → List ℕ → State F
  state_with_print s bytes = record s { printed = bytes }

module _ {F : Type 0} (machine : Machine F) (limits : Limits) where
  -- Between rounds: what holds before each of them. `watches` says that no goroutine is lost, on which a deadlock and the fairness of a
  -- round rest; `counting` that the count of steps is still exact.
  pub record IsBetweenRounds (p : Point F) : Type 0 where
    pub ready : IsReadyForTurn limits p.state
    pub watches : Watches machine p.state p.ready p.waiting
    pub counting : p.steps < 2 ^ 64 - 1

  -- a turn, and these bytes that it printed went out
  pub record Plays (g : ℕ) (p q : Point F) (bytes : List ℕ) (old new : Option (List ℕ)) : Type 0 where
    pub picks : List Pick
    pub turn : (before : List ℕ)
        → IsTurn machine limits (state_with_print p.state before) g picks (state_with_print q.state (before ++ bytes))
    pub counted : CountsPicks p.steps picks q.steps
    pub gave : Appends old new bytes

  -- turns, one after the other, and these bytes that they printed went out
  pub record PlaysAll (order : List ℕ) (p q : Point F) (bytes : List ℕ) (old new : Option (List ℕ)) : Type 0 where
    pub picks : List Pick
    pub turns : (before : List ℕ)
        → AreTurns machine limits (state_with_print p.state before) order picks (state_with_print q.state (before ++ bytes))
    pub counted : CountsPicks p.steps picks q.steps
    pub gave : Appends old new bytes

  -- a round, and these bytes that it printed went out
  pub record PlaysRound (p q : Point F) (bytes : List ℕ) (old new : Option (List ℕ)) : Type 0 where
    pub picks : List Pick
    pub round : (before : List ℕ)
        → IsRound machine limits (state_with_print p.state before) picks (state_with_print q.state (before ++ bytes))
    pub counted : CountsPicks p.steps picks q.steps
    pub gave : Appends old new bytes

  -- Part of a round, after which the run ends, whatever was counted; `given` had been written before. The last write may have failed, so
  -- the print that the run still has is kept apart from what was written.
  pub record RoundEndsRun
      {C : Type 0} (run : View F C) (given : List ℕ) (s : State F) (end : RunEnd) (old new : Option (List ℕ))
      : Type 0 where
    pub picks : List Pick
    pub bytes : List ℕ
    pub state : State F
    pub begun : (before : List ℕ)
        → IsBegunRound machine limits (state_with_print s before) picks (state_with_print state (before ++ bytes))
    pub ends : (print : List ℕ) (before steps : ℕ) → RunEndsAs machine limits before steps (state_with_print state print) end
    pub gives : RunPrints end bytes old new
    pub before : List ℕ
    pub whole : given ++ bytes ≡ before ++ run.print
    pub left : IsRunLeft run machine before (state_with_print state run.print) end

  -- the same with the count: `given` had been written and m steps counted before, which the limit of steps is about
  pub record Finishes
      {C : Type 0} (run : View F C) (given : List ℕ) (s : State F) (m : ℕ) (end : RunEnd) (old new : Option (List ℕ))
      : Type 0 where
    pub picks : List Pick
    pub bytes : List ℕ
    pub state : State F
    pub begun : (before : List ℕ)
        → IsBegunRound machine limits (state_with_print s before) picks (state_with_print state (before ++ bytes))
    pub ends : (print : List ℕ) (taken : ℕ) → m ≡ min taken (2 ^ 64 - 1) → taken < max 1 limits.steps
        → RunEndsAs machine limits taken (taken + length picks) (state_with_print state print) end
    pub gives : RunPrints end bytes old new
    pub before : List ℕ
    pub whole : given ++ bytes ≡ before ++ run.print
    pub left : IsRunLeft run machine before (state_with_print state run.print) end

  -- rounds so far, and these bytes that they printed went out
  pub record RoundsProgress (s : State F) (p : Point F) (bytes : List ℕ) (old new : Option (List ℕ)) : Type 0 where
    pub rounds : List (List Pick)
    pub went : AreRounds machine limits s rounds (state_with_print p.state bytes)
    pub counted : p.steps ≡ min (length (all_of rounds)) (2 ^ 64 - 1)
    pub early : length (all_of rounds) < max 1 limits.steps
    pub gave : Appends old new bytes

-- ---- what is made of a run under way

-- the run is at some state between rounds
pub record StandsBetween {F C : Type 0} (run : View F C) (limits : Limits) (d : Driver) : Type 0 where
  pub given : List ℕ
  pub state : State F
  pub shown : run.shows given state
  pub between : IsBetweenRounds run.machine limits (point_of state d)

module _
    {F C : Type 0} (run : View F C) (machine : Machine F) (limits : Limits) (given : List ℕ) (s : State F)
    (d e : Driver)
  where
    -- the run continues after a turn, and what it printed went out
    pub record PlaysTo (g : ℕ) (old new : Option (List ℕ)) : Type 0 where
      pub state : State F
      pub bytes : List ℕ
      pub at : IsRunAt run machine (given ++ bytes) state
      pub ready : IsReadyForTurn limits state
      pub plays : Plays machine limits g (point_of s d) (point_of state e) bytes old new
      pub passes : RoundContinues machine g (point_of s d) (point_of state e)

    -- the same after turns of these goroutines, one after the other; the others have theirs later in the round
    pub record PlaysAllTo (order rest : List ℕ) (old new : Option (List ℕ)) : Type 0 where
      pub state : State F
      pub bytes : List ℕ
      pub at : IsRunAt run machine (given ++ bytes) state
      pub ready : IsReadyForTurn limits state
      pub plays : PlaysAll machine limits order (point_of s d) (point_of state e) bytes old new
      pub watches : Watches machine s d.ready.items (listed_at_channel d.waiting)
          → Watches machine state (rest ++ e.ready.items) (listed_at_channel e.waiting)

    -- the same after a round
    pub record PlaysRoundTo (old new : Option (List ℕ)) : Type 0 where
      pub state : State F
      pub bytes : List ℕ
      pub at : IsRunAt run machine (given ++ bytes) state
      pub ready : IsReadyForTurn limits state
      pub plays : PlaysRound machine limits (point_of s d) (point_of state e) bytes old new
      pub watches : Watches machine state e.ready.items (listed_at_channel e.waiting)

-- the run continues after rounds, and what they printed went out
pub record ProgressesTo
    {F C : Type 0} (run : View F C) (machine : Machine F) (limits : Limits) (given : List ℕ) (s : State F)
    (d : Driver) (old new : Option (List ℕ))
    : Type 0 where
  pub state : State F
  pub bytes : List ℕ
  pub at : IsRunAt run machine (given ++ bytes) state
  pub between : IsBetweenRounds machine limits (point_of state d)
  pub goes : RoundsProgress machine limits s (point_of state d) bytes old new
