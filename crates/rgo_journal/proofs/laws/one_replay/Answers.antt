use Rattle.rgo_journal.proofs.Replaying.{one_replay}
use Rattle.rgo_journal.proofs.laws.one_replay.Goals as goal

pub returns : goal.returns
returns c = one_replay
