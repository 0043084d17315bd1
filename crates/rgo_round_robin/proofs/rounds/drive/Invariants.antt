use Rattle.std.proofs.Common.{◌≡◌, ◌-◌, ℕ, List}
use Rattle.rgo_machine.specs.Machines.{Machine, State}
use Rattle.rgo_round_robin.specs.Lines.{Writes}
use Rattle.rgo_round_robin.specs.Playing.{IsBetweenRounds, ProgressesTo}
use Rattle.rgo_round_robin.specs.Points.{point_of}
use Rattle.rgo_round_robin.specs.Running.{IsRunAt}
use Rattle.rgo_round_robin.proofs.rounds.drive.Given as goal

-- what the rounds so far gave out
abbrev pub invariant-loop-end : goal.invariant-loop-end
invariant-loop-end g l = record {
  goes : (machine : Machine g.row.R-Frame.Denot) (given : List ℕ) (s : State g.row.R-Frame.Denot)
      → IsRunAt (g.R.Running.view l.initial.run) machine given s → IsBetweenRounds machine l.limits (point_of s l.initial.driver)
      → ProgressesTo (g.R.Running.view l.run) machine l.limits given s l.driver (g.K.Sink.contents l.initial.out)
      (g.K.Sink.contents l.out);
  fixed : (g.R.Running.view l.run).fixed ≡ (g.R.Running.view l.initial.run).fixed;
  sink : Writes ⊥ (g.K.Sink.faults l.initial.out) (g.K.Sink.faults l.out) (g.K.Sink.broken l.out)
      (g.K.Sink.pieces l.initial.out)
      (g.K.Sink.pieces l.out);
}

abbrev pub decreases-loop-end : goal.decreases-loop-end
decreases-loop-end g l = l.limits.steps - l.driver.steps
