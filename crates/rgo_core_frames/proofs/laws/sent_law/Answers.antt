use Rattle.rgo_core_frames.proofs.shown.Sending.{sent_law}
use Rattle.rgo_core_frames.proofs.laws.sent_law.Goals as goal

pub returns : goal.returns
returns c = sent_law
