use Rattle.std.proofs.Common.{◌≡◌, map, take}
use Rattle.rgo_body.specs.Bodies.{frames_of_body}
use Rattle.rgo_acts.specs.Prints.{value_in}
use Rattle.rgo_acts.proofs.prints.operands.Given as goal

abbrev pub invariant-loop-i : goal.invariant-loop-i
invariant-loop-i l = l.values.items ≡ map (value_in l.next.function (frames_of_body l.actor.body)) (take l.i l.from)
