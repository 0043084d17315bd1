use Rattle.rgo_scopes.proofs.newest.look_up.Goals as goal
use Rattle.std.proofs.Common.{ap}
use Rattle.rgo_scopes.specs.Newest.{flat}

pub returns-in-Some : goal.returns-in-Some
returns-in-Some g c = ap flat c.in-Some.ensures.value

pub returns-in-None : goal.returns-in-None
returns-in-None g c = ap flat c.in-None.ensures.value
