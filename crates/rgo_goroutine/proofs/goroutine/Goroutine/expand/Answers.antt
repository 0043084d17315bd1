use Rattle.std.proofs.Common.{subst}
use Rattle.rgo_acts.specs.Body.Bodies.{frames_of_body}
use Rattle.rgo_acts.specs.Body.Nexts.{FrameHasNoNext}
use Rattle.rgo_acts.specs.Body.Programs.{CompactProgram}
use Rattle.rgo_goroutine.proofs.Executing.{told_on, told_over, told_stops}
use Rattle.rgo_goroutine.proofs.goroutine.Goroutine.expand.Goals as goal

pub returns-in_default-clause-acts : goal.returns-in_default-clause-acts
returns-in_default-clause-acts c =
    told_over c.args.run.now c.args.self.now c.args.turning.now c.move_on.new.self c.move_on.ensures c.requires.goes c.requires.noted
    (subst (λ (p : CompactProgram). FrameHasNoNext p.code (frames_of_body c.args.self.now.actor.body)) c.program.ensures c.in_default.ensures)
    c.requires.still.empty

pub returns-in-Ok-clause-acts : goal.returns-in-Ok-clause-acts
returns-in-Ok-clause-acts c =
    told_on c.args.run.now c.args.self.now c.args.turning.now c.move_on.new.self c.move_on.ensures c.requires.goes c.requires.noted
    c.expand.new.actor c.expand.ensures.acted

pub returns-in-Err-clause-acts : goal.returns-in-Err-clause-acts
returns-in-Err-clause-acts c =
    told_stops c.args.run.now c.args.self.now c.args.turning.now c.move_on.new.self c.move_on.ensures c.requires.goes c.requires.noted
    c.expand.new.actor c.expand.ensures.acted
