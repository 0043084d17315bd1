use Rattle.rgo_core.proofs.clock.Printing.{print_move as is}
use Rattle.rgo_core.proofs.laws.print_move.Goals as goal

pub returns : goal.returns
returns c = is
