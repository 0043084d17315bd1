-- Runs in rounds: how such a run has ended, and what holds of it then.
use Rattle.std.specs.Prelude.{◌≡◌, ℕ, List, [], ◌++◌, length, Option}
use Rattle.rgo_machine.specs.declared.ends.RunEnd.{RunEnd}
use Rattle.rgo_machine.specs.declared.ends.RunEnd.TheVariants as run_end
use Rattle.rgo_machine.specs.declared.limits.Limits.{Limits}
use Rattle.rgo_machine.specs.declared.picks.Pick.{Pick}
use Rattle.rgo_machine.specs.declared.limits.Shortage.{Shortage}
use Rattle.rgo_machine.specs.Ends.{RunEndsAs, RunPrints}
use Rattle.rgo_machine.specs.Limits.{LeadsWithin}
use Rattle.rgo_machine.specs.Machines.{Machine, State}
use Rattle.rgo_round_robin.specs.Rounds.{AreRounds, IsBegunRound, all_of}
use Rattle.rgo_round_robin.specs.Running.{View, RunContinues}

-- some run from a state ends so, in rounds and within the limits, and its print was written
pub record RunsInRounds
    {F : Type 0} (machine : Machine F) (limits : Limits) (start : State F) (end : RunEnd) (old new : Option (List ℕ))
    : Type 0 where
  -- the steps of the rounds before the last, and of the last
  pub rounds : List (List Pick)
  pub last : List Pick
  pub begun : State F
  pub state : State F
  pub went : AreRounds machine limits start rounds begun
  pub goes : IsBegunRound machine limits begun last state
  pub ran : LeadsWithin machine limits start (all_of rounds ++ last) state
  pub ends : RunEndsAs machine limits (length (all_of rounds)) (length (all_of rounds ++ last)) state end
  pub gives : RunPrints end state.printed old new

-- a state in which a run may begin, and between turns: the run continues, and all that was printed was written
pub record IsReadyForTurn {F : Type 0} (limits : Limits) (s : State F) : Type 0 where
  pub on : RunContinues limits s
  pub silent : s.printed ≡ []

module _ {F C : Type 0} where
  -- the run is at some such state
  pub record CanBegin (limits : Limits) (run : View F C) : Type 0 where
    pub given : List ℕ
    pub state : State F
    pub shown : run.shows given state
    pub ready : IsReadyForTurn limits state

  -- what holds of a run of this machine, at this state, that has ended so, with what was written before
  pub record IsRunLeft (run : View F C) (machine : Machine F) (given : List ℕ) (s : State F) (end : RunEnd)
      : Type 0 where
    pub is : run.machine ≡ machine
    pub leaves : run.leaves given s
    pub shows : (end ≡ run_end.NoMemory → ⊥) → (end ≡ run_end.WriteFault → ⊥) → run.shows given s
    pub lacks : (shortage : Shortage) → end ≡ run_end.NoRoom shortage → run.lacks shortage given s

  -- A run of the machine from a state, and what holds of the run under way at its last state. What was written is no
  -- longer in its print: `before` and its print are what was written at first, and all that was printed since.
  pub record RunsTo
      (run : View F C) (machine : Machine F) (limits : Limits) (given : List ℕ) (start : State F) (end : RunEnd)
      (old new : Option (List ℕ))
      : Type 0 where
    pub runs : RunsInRounds machine limits start end old new
    pub before : List ℕ
    pub whole : given ++ runs.state.printed ≡ before ++ run.print
    pub left : IsRunLeft run machine before (record runs.state { printed = run.print }) end
