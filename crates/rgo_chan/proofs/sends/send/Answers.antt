use Rattle.rgo_chan.proofs.Carrying.{sends_at}
use Rattle.rgo_chan.proofs.sends.send.Goals as goal

pub send_at-requires-clause-here : goal.send_at-requires-clause-here
send_at-requires-clause-here g c = sends_at c.requires.first c.if-channel-eq0.false c.requires.here
