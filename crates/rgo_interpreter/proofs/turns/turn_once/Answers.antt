use Rattle.std.proofs.Common.{◌∙◌, sym}
use Rattle.rgo_interpreter.proofs.Advancing.{at_limit, stepped_so}
use Rattle.rgo_interpreter.proofs.turns.turn_once.Goals as goal

pub returns-in-Some-limit_at : goal.returns-in-Some-limit_at
returns-in-Some-limit_at g c =
    at_limit (g.M.Machine.machine c.args.machine.now) c.args.limits c.args.state.now c.args.g c.requires.within
    c.requires.running c.in-Some.stand c.in-Some-limit_at.stop (sym c.standing.ensures ∙ c.in-Some.is)
    (sym c.limit_at.ensures ∙ c.in-Some-limit_at.is)

pub returns-in-Ok : goal.returns-in-Ok
returns-in-Ok g c =
    rw c.turn_of.ensures
    (stepped_so (g.M.Machine.machine c.args.machine.now) c.args.limits c.args.state.now c.args.g c.requires.within
    c.requires.running c.in-Ok.happened c.step_alone.new.state c.in-Some.stand (sym c.standing.ensures ∙ c.in-Some.is)
    (sym c.limit_at.ensures ∙ c.in_default-limit_at.is) c.in-Ok.ensures.steps c.in-Ok.ensures.channels
    c.in-Ok.ensures.print)
