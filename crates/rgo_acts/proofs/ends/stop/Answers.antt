use Rattle.std.proofs.Common.{refl, subst, sym}
use Rattle.rgo_core.specs.Rule.Views.{number_of}
use Rattle.rgo_core_steps.specs.Ends.{GoroutineEndsRun}
use Rattle.rgo_sound.specs.RegionMachine.States.{Stopped}
use Rattle.rgo_acts.specs.Actors.{now}
use Rattle.rgo_acts.specs.Runs.{Run}
use Rattle.rgo_acts.proofs.clock.Ends.{stopped}
use Rattle.rgo_acts.proofs.ends.stop.Goals as goal

pub finish-ends-requires-clause-cause : goal.finish-ends-requires-clause-cause
finish-ends-requires-clause-cause c =
    subst (λ (x : Run). GoroutineEndsRun x.setup (number_of c.args.actor.now.seat.me) (now x.setup c.args.actor.now) (Stopped c.args.limit))
    (sym c.run.view_is) c.requires.cause

pub returns-clause-ended : goal.returns-clause-ended
returns-clause-ended c =
    let a = c.args in
    let b = record a.actor.now { seat = c.finish-ends.new.seat; behind = 0 } in
    stopped _ a.run.now c.run.view_is a.actor.now b c.requires.stands c.finish-ends.ensures.own.0 refl c.finish-ends.ensures.possible
    c.finish-ends.result a.limit refl c.finish-ends.ensures.ended
