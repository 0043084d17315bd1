use Rattle.std.proofs.Common.{◌∙◌, ap, refl, subst, sym, slice_get}
use Rattle.rgo_core.specs.Rule.Views.{number_of}
use Rattle.rgo_core_steps.specs.Ends.{GoroutineEndsRun}
use Rattle.rgo_sound.specs.Machine.declared.picks.End.TheVariants.{Trap}
use Rattle.rgo_sound.specs.RegionMachine.States.{Ended}
use Rattle.rgo_sound.specs.Tac.Code.{TacFn}
use Rattle.rgo_sound.specs.Tac.Ops.{place_in}
use Rattle.rgo_acts.specs.Actors.{IsActorOf, now}
use Rattle.rgo_acts.specs.Endings.{ActorHasEnded}
use Rattle.rgo_acts.specs.Runs.{Run}
use Rattle.rgo_acts.proofs.clock.Ends.{ended, trap_ends}
use Rattle.rgo_acts.proofs.ends.trap.Goals as goal

pub finish-ends-requires-clause-cause : goal.finish-ends-requires-clause-cause
finish-ends-requires-clause-cause c =
    let a = c.args in
    let place = c.place-place.ensures
    ∙ ap (λ (f : TacFn). place_in (slice_get f.body a.next.now.at)) c.tac.ensures in
    subst (λ (x : Run). GoroutineEndsRun x.setup (number_of a.actor.now.seat.me) (now x.setup a.actor.now) (Ended (Trap a.trap c.place-place.result)))
    (sym c.run.view_is)
    (subst (λ n. GoroutineEndsRun a.run.now.setup (number_of a.actor.now.seat.me) (now a.run.now.setup a.actor.now) (Ended (Trap a.trap n))) (sym place)
    (trap_ends a.run.now a.actor.now a.next.now c.requires.stands c.requires.next a.trap c.requires.traps))

pub returns : goal.returns
returns c =
    let a = c.args in
    let b = record a.actor.now { seat = c.finish-ends.new.seat; behind = 0; body = c.trapped.new.self } in
    let place = c.place-place.ensures
    ∙ ap (λ (f : TacFn). place_in (slice_get f.body a.next.now.at)) c.tac.ensures in
    let stands = subst (λ (x : Run). IsActorOf x a.actor.now) (sym c.run.view_is) c.requires.stands in
    subst (λ n. ActorHasEnded a.run.now a.actor.now b 1 (Ended (Trap a.trap n)) c.finish-ends.result) place
    (ended _ a.run.now c.run.view_is a.actor.now b c.requires.stands c.finish-ends.ensures.own.0 refl
    c.finish-ends.ensures.possible c.finish-ends.result (Trap a.trap c.place-place.result)
    (λ n. c.trapped.ensures.becomes n a.trap c.place-place.result _ _ stands.shows) c.finish-ends.ensures.ended)
