use Rattle.rgo_recording.proofs.Replaying.{recorded_replays}
use Rattle.rgo_recording.proofs.laws.recorded_replays.Goals as goal

pub returns : goal.returns
returns c = recorded_replays
