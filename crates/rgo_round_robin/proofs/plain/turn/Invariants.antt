use Rattle.rgo_interpreter.specs.declared.turns.TurnEnd.TheVariants.{Spent}
use Rattle.rgo_interpreter.specs.Turns.{Turns}
use Rattle.rgo_round_robin.proofs.plain.turn.Given as goal

abbrev pub invariant-loop-taken : goal.invariant-loop-taken
invariant-loop-taken g l =
    Turns (g.M.Machine.machine l.machine) l.limits l.initial.state l.state l.g l.taken
    (record { steps = l.taken; stop = Spent })
