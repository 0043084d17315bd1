use Rattle.std.proofs.Common.{refl}
use Rattle.rgo_body.proofs.Attending.{has_done}
use Rattle.rgo_body.proofs.Creating.{created_shows}
use Rattle.rgo_body.proofs.bodies.Body.created.Goals as goal

pub returns-clause-shows : goal.returns-clause-shows
returns-clause-shows c T g r here s low out = created_shows T c.args.program.now c.args.self.now _ g r c.args.name c.args.slot
    c.requires.first.0 here s c.requires.first.1 (c.pop.ensures _ _ c.requires.first.1) refl c.add_region.ensures low out c.create.ensures

pub returns-clause-done : goal.returns-clause-done
returns-clause-done c = has_done c.args.program.now c.args.self.now _ _ c.requires.first.0 c.requires.first.1
    (c.pop.ensures _ _ c.requires.first.1) refl
