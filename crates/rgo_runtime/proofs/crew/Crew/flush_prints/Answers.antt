use Rattle.rgo_runtime.proofs.crews.Steps.{pieces_written}
use Rattle.rgo_runtime.proofs.crew.Crew.flush_prints.Goals as goal

pub returns-clause-pieces : goal.returns-clause-pieces
returns-clause-pieces g c = pieces_written _ _ _ _ c.self.view_is c.flush.ensures.pieces
