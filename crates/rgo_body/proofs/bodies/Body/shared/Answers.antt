use Rattle.std.proofs.Common.{refl}
use Rattle.rgo_body.proofs.Attending.{has_done}
use Rattle.rgo_body.proofs.Sharing.{shared_shows}
use Rattle.rgo_body.proofs.bodies.Body.shared.Goals as goal

pub returns-clause-shows : goal.returns-clause-shows
returns-clause-shows c T g r here s = shared_shows T c.args.program.now c.args.self.now _ g r c.requires.first.0 c.requires.first.1.0
    c.args.key here s c.requires.first.1.1 (c.pop.ensures _ _ c.requires.first.1.1) refl refl c.requires.shares c.add_pending.ensures.adds

pub returns-clause-done : goal.returns-clause-done
returns-clause-done c = has_done c.args.program.now c.args.self.now _ _ c.requires.first.1.0 c.requires.first.1.1
    (c.pop.ensures _ _ c.requires.first.1.1) refl
