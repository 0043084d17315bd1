use Rattle.std.proofs.Common.{◌+◌, refl, subst}
use Rattle.rgo_body.specs.Duties.{DoesLocal}
use Rattle.rgo_acts.specs.Runs.{Run}
use Rattle.rgo_acts.proofs.attending.Counts.{local_done}
use Rattle.rgo_acts.proofs.duties.remove.Goals as goal

pub returns-in-None : goal.returns-in-None
returns-in-None g c =
    let a = c.args.actor.now in
    let b = record a { behind = a.behind + 1; body = c.remove.new.self } in
    local_done c.args.run.now a b c.requires.first.stands refl refl
    (subst (λ (r : Run). DoesLocal r.program a.body b.body) c.run.view_is c.in-None.ensures)
