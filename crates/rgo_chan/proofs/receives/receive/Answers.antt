use Rattle.rgo_chan.proofs.Carrying.{receives_at}
use Rattle.rgo_chan.proofs.receives.receive.Goals as goal

pub receive_at-requires-clause-here : goal.receive_at-requires-clause-here
receive_at-requires-clause-here g c = receives_at c.requires.first c.if-channel-eq0.false c.requires.here
