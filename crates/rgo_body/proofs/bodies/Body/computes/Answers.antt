use Rattle.rgo_body.proofs.Computing.{computes_shows}
use Rattle.rgo_body.proofs.bodies.Body.computes.Goals as goal

pub returns : goal.returns
returns c T g r here s =
    computes_shows T c.args.program.now c.args.self.now c.acted.new.self g r c.args.next.now c.args.word s c.requires.ready
    c.requires.does.0 c.requires.does.1 c.requires.does.2 c.requires.does.3 c.requires.does.4 c.requires.rests
    (c.acted.ensures T r s)
