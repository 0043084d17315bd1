use Rattle.rgo_simulation.proofs.Lift.{following_simulates}
use Rattle.rgo_simulation.proofs.laws.following_simulates.Goals as goal

pub returns : goal.returns
returns g c high low = following_simulates high low g.F.Following.matched
