use Rattle.std.proofs.Common.{◌+◌, ◌∙◌, List, ap, arith, length, refl, subst, sym}
use Rattle.rgo_sound.specs.RegionMachine.States.{Duty}
use Rattle.rgo_body.specs.Duties.{DoesLocal}
use Rattle.rgo_body.specs.Shows.{BodyIsPossible}
use Rattle.rgo_body.specs.Steps.{StillShows}
use Rattle.rgo_body.specs.declared.bodies.Body.{Body}
use Rattle.rgo_acts.specs.Runs.{Run}
use Rattle.rgo_acts.proofs.attending.LocalDuties.{next_owed, none_attended, one_attended}
use Rattle.rgo_acts.proofs.Standing.{its_body}
use Rattle.rgo_acts.proofs.duties.attend_local.Goals as goal

pub loop-duty-init : goal.loop-duty-init
loop-duty-init c = record {
  attended = none_attended c.args.run.now c.args.actor.now c.requires.stands;
  behind = c.requires.behind;
}

pub do_locally-requires-clause-possible : goal.do_locally-requires-clause-possible
do_locally-requires-clause-possible c =
    subst (λ (r : Run). BodyIsPossible r.program c.loop-duty.actor.body) (sym c.run.view_is)
    (its_body c.args.run.now c.loop-duty.actor c.loop-duty.invariant.attended.acted.stands)

pub do_locally-requires-clause-rests : goal.do_locally-requires-clause-rests
do_locally-requires-clause-rests c = ap (λ (b : Body). b.side) c.loop-duty.invariant.attended.rest ∙ c.requires.rests

pub returns-then-not-do_locally-clause-attended : goal.returns-then-not-do_locally-clause-attended
returns-then-not-do_locally-clause-attended c =
    let a = c.loop-duty.actor in
    let b = record a { body = c.do_locally.new.body } in
    next_owed c.args.run.now c.args.actor.now a b c.loop-duty.invariant.attended refl refl
    (subst (λ (r : Run). StillShows r.program a.body b.body) c.run.view_is (c.do_locally.ensures.stays c.if-not-do_locally.true))
    (c.do_locally.ensures.same c.if-not-do_locally.true)

pub loop-duty-preserved : goal.loop-duty-preserved
loop-duty-preserved c =
    let a = c.loop-duty.actor in
    let b = record a { behind = a.behind + 1; body = c.do_locally.new.body } in
    record {
      attended = one_attended c.args.run.now c.args.actor.now a b c.loop-duty.invariant.attended refl refl
          (subst (λ (r : Run). DoesLocal r.program a.body b.body) c.run.view_is (c.do_locally.ensures.done c.if-not-do_locally.false));
      behind = omega arith;
    }

pub loop-duty-smaller : goal.loop-duty-smaller
loop-duty-smaller c =
    let does = c.do_locally.ensures.done c.if-not-do_locally.false in
    let e = ap (λ (ds : List Duty). length ds) does.1.queue in
    omega (arith, e)
