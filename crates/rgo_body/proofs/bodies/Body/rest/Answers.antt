use Rattle.rgo_body.proofs.Acting.{rest_shows}
use Rattle.rgo_body.proofs.bodies.Body.rest.Goals as goal

pub returns-clause-rests : goal.returns-clause-rests
returns-clause-rests c T r s rests = rest_shows T c.args.program.now c.args.self.now r c.requires.side s rests
