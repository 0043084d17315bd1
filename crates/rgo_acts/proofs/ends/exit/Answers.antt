use Rattle.std.proofs.Common.{refl, subst, sym}
use Rattle.rgo_core.specs.Rule.Views.{number_of}
use Rattle.rgo_core_steps.specs.Ends.{GoroutineEndsRun}
use Rattle.rgo_sound.specs.Machine.declared.picks.End.TheVariants.{Exit}
use Rattle.rgo_sound.specs.RegionMachine.States.{Ended}
use Rattle.rgo_acts.specs.Actors.{IsActorOf, now}
use Rattle.rgo_acts.specs.Runs.{Run}
use Rattle.rgo_acts.proofs.clock.Ends.{ended, exit_ends}
use Rattle.rgo_acts.proofs.ends.exit.Goals as goal

pub finish-ends-requires-clause-cause : goal.finish-ends-requires-clause-cause
finish-ends-requires-clause-cause c =
    subst (λ (x : Run). GoroutineEndsRun x.setup (number_of c.args.actor.now.seat.me) (now x.setup c.args.actor.now) (Ended Exit))
    (sym c.run.view_is)
    (exit_ends c.args.run.now c.args.actor.now c.args.next.now c.requires.before c.args.value c.requires.returns c.requires.main
    c.requires.last)

pub returns : goal.returns
returns c =
    let a = c.args in
    let b = record a.actor.now { seat = c.finish-ends.new.seat; behind = 0; body = c.come_back.new.self } in
    let stands = subst (λ (x : Run). IsActorOf x a.actor.now) (sym c.run.view_is) c.requires.before.stands in
    ended _ a.run.now c.run.view_is a.actor.now b c.requires.before.stands c.finish-ends.ensures.own.0 refl
    c.finish-ends.ensures.possible c.finish-ends.result Exit
    (λ n. c.come_back.ensures.exit n _ (number_of a.actor.now.seat.me) _ stands.possible stands.shows) c.finish-ends.ensures.ended
