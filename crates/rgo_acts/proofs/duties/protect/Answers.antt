use Rattle.std.proofs.Common.{◌+◌, refl, subst}
use Rattle.rgo_body.specs.Duties.{DoesLocal}
use Rattle.rgo_body.specs.Steps.{StillShows}
use Rattle.rgo_acts.specs.Runs.{Run}
use Rattle.rgo_acts.proofs.attending.Counts.{has_waited, local_done}
use Rattle.rgo_acts.proofs.duties.protect.Goals as goal

pub returns-in-Ok : goal.returns-in-Ok
returns-in-Ok c =
    let a = c.args.actor.now in
    let b = record a { behind = a.behind + 1; body = c.protect.new.self } in
    local_done c.args.run.now a b c.requires.first.stands refl refl
    (subst (λ (r : Run). DoesLocal r.program a.body b.body) c.run.view_is c.in-Ok.ensures.done)

pub returns-in-Err : goal.returns-in-Err
returns-in-Err c =
    let a = c.args.actor.now in
    let b = record a { body = c.protect.new.self } in
    has_waited c.args.run.now a b c.requires.first.stands refl refl
    (subst (λ (r : Run). StillShows r.program a.body b.body) c.run.view_is c.in-Err.ensures.stays) c.in-Err.ensures.same
