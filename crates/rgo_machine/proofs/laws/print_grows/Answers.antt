use Rattle.rgo_machine.proofs.Printing.{print_grows}
use Rattle.rgo_machine.proofs.laws.print_grows.Goals as goal

pub returns : goal.returns
returns g c machine = print_grows machine
