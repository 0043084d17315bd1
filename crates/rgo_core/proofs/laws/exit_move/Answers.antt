use Rattle.rgo_core.proofs.steps.Local.{exit_move as is}
use Rattle.rgo_core.proofs.laws.exit_move.Goals as goal

pub returns : goal.returns
returns c = is
