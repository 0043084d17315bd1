use Rattle.rgo_run.proofs.RecordedReplays as replays
use Rattle.rgo_run.proofs.laws.recorded_is_replayed.Goals as goal

pub returns : goal.returns
returns c = replays.recorded_is_replayed
