use Rattle.rgo_machine.proofs.Waiting.{deadlocks_wait}
use Rattle.rgo_machine.proofs.laws.deadlocks_wait.Goals as goal

pub returns : goal.returns
returns g c machine = deadlocks_wait machine
