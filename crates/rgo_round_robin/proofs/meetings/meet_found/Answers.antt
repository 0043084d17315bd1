use Rattle.rgo_round_robin.proofs.Found.{found_meets}
use Rattle.rgo_round_robin.proofs.meetings.meet_found.Goals as goal

pub returns-in-Ok-clause-meets : goal.returns-in-Ok-clause-meets
returns-in-Ok-clause-meets g c = λ machine given s at running can.
    found_meets (g.R.Running.view c.meet.new.run) machine given s c.args.found c.args.steps.now c.meet.new.steps
    c.in-Ok.field-0 can (c.in-Ok.ensures.tries machine given s at running)
