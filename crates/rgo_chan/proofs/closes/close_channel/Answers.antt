use Rattle.rgo_chan.proofs.Carrying.{closes_at}
use Rattle.rgo_chan.proofs.closes.close_channel.Goals as goal

pub close_at-requires-clause-here : goal.close_at-requires-clause-here
close_at-requires-clause-here g c = closes_at c.requires.first c.if-channel-eq0.false c.requires.here
