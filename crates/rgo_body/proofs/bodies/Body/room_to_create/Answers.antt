use Rattle.rgo_body.proofs.Attending.{with_holding}
use Rattle.rgo_body.proofs.bodies.Body.room_to_create.Goals as goal

pub returns-clause-stays : goal.returns-clause-stays
returns-clause-stays c T r s = with_holding T c.args.program.now c.args.self.now r c.reserve.new.self s c.reserve.ensures.kept
