use Rattle.std.proofs.Common.{◌≡◌, ℕ, List, take, drop}
use Rattle.rgo_machine.specs.Machines.{Machine, State}
use Rattle.rgo_round_robin.specs.Lines.{Writes}
use Rattle.rgo_round_robin.specs.Playing.{PlaysAllTo}
use Rattle.rgo_round_robin.specs.Running.{IsRunAt}
use Rattle.rgo_round_robin.specs.Runs.{IsReadyForTurn}
use Rattle.rgo_round_robin.proofs.rounds.round.Given as goal

-- the turns so far, and that every goroutine has one later, is ready, or sleeps
abbrev pub invariant-loop-i : goal.invariant-loop-i
invariant-loop-i g l = record {
  plays : (machine : Machine g.row.R-Frame.Denot) (given : List ℕ) (s : State g.row.R-Frame.Denot)
      → IsRunAt (g.R.Running.view l.initial.run) machine given s → IsReadyForTurn l.limits s
      → PlaysAllTo (g.R.Running.view l.run) machine l.limits given s l.fn.driver l.driver (take l.i l.order.items)
      (drop l.i l.order.items) (g.K.Sink.contents l.initial.out) (g.K.Sink.contents l.out);
  fixed : (g.R.Running.view l.run).fixed ≡ (g.R.Running.view l.initial.run).fixed;
  sink : Writes ⊥ (g.K.Sink.faults l.initial.out) (g.K.Sink.faults l.out) (g.K.Sink.broken l.out)
      (g.K.Sink.pieces l.initial.out)
      (g.K.Sink.pieces l.out);
}
