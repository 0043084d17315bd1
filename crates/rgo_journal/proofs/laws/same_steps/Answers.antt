use Rattle.rgo_journal.proofs.Replaying.{same_steps}
use Rattle.rgo_journal.proofs.laws.same_steps.Goals as goal

pub returns : goal.returns
returns c = same_steps
