use Rattle.rgo_acts.proofs.talking.Waiting.{loses_blocked, waits_blocked}
use Rattle.rgo_acts.proofs.channels.blocked_laws.Goals as goal

pub returns-clause-waits : goal.returns-clause-waits
returns-clause-waits c = waits_blocked

pub returns-clause-loses : goal.returns-clause-loses
returns-clause-loses c = loses_blocked
