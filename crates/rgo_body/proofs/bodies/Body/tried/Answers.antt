use Rattle.rgo_body.proofs.Acting.{tried_shows}
use Rattle.rgo_body.proofs.bodies.Body.tried.Goals as goal

pub returns : goal.returns
returns c T r n known s free nowhere = tried_shows T c.args.program.now c.args.self.now r n known s c.requires.side free nowhere
