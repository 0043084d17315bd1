use Rattle.std.proofs.Common.{◌≡◌, ◌≤◌, ◌-◌, ℕ, List}
use Rattle.rgo_machine.specs.Machines.{Machine, State}
use Rattle.rgo_round_robin.specs.Running.{RunContinues, IsRunAt}
use Rattle.rgo_round_robin.specs.Taking.{TurnMovesTo}
use Rattle.rgo_round_robin.proofs.turns.take_turn.Given as goal

-- the steps so far, and that no goroutine was lost
abbrev pub invariant-loop-left : goal.invariant-loop-left
invariant-loop-left g l = record {
  moves : (machine : Machine g.row.R-Frame.Denot) (given : List ℕ) (s : State g.row.R-Frame.Denot)
      → IsRunAt (g.R.Running.view l.initial.run) machine given s → RunContinues l.limits s
      → TurnMovesTo (g.R.Running.view l.run) machine l.limits l.g given s l.initial.driver l.driver (1000 - l.left);
  fixed : (g.R.Running.view l.run).fixed ≡ (g.R.Running.view l.initial.run).fixed;
  within : l.left ≤ 1000;
}

abbrev pub decreases-loop-left : goal.decreases-loop-left
decreases-loop-left g l = l.left
