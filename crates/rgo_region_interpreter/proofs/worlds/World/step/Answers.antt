use Rattle.std.proofs.Common.{sym, subst}
use Rattle.rgo_region_interpreter.specs.Works.{WorldTakesSteps}
use Rattle.rgo_region_interpreter.proofs.stepping.Stepping.{next_then, ready_then, step_then, takes_halt, takes_wait}
use Rattle.rgo_region_interpreter.proofs.worlds.World.step.Goals as goal

pub returns-in_default : goal.returns-in_default
returns-in_default c = record { takes = takes_wait c.args.self.now c.args.limits c.args.g c.in_default.ensures }

pub returns-in-Err : goal.returns-in-Err
returns-in-Err c = record {
  takes = subst (WorldTakesSteps c.args.self.now c.prepare.new.self c.args.limits c.args.g 1) (sym c.turned.ensures)
      (takes_halt c.args.self.now c.prepare.new.self c.args.limits c.args.g c.in-Err.halt c.in-Err.ensures.readied);
}

pub perform-requires : goal.perform-requires
perform-requires c = record {
  next = next_then c.args.self.now c.prepare.new.self c.args.limits c.args.g c.in-Ok.ensures.readied c.in-Some.next
      c.requires.on c.in-Some.ensures;
  ready = ready_then c.args.self.now c.prepare.new.self c.args.limits c.args.g c.in-Ok.ensures.readied c.requires.on;
}

pub returns-in-Ok : goal.returns-in-Ok
returns-in-Ok c = record {
  takes = step_then c.args.self.now c.prepare.new.self c.args.limits c.args.g c.in-Ok.ensures.readied
      c.perform.new.self c.perform.result c.perform.ensures.takes;
}
