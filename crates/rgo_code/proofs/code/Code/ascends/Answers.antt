use Rattle.std.proofs.Common.{subst}
use Rattle.rgo_code.specs.NameRules.{Ascends}
use Rattle.rgo_code.proofs.code.Code.ascends.Goals as goal

pub returns : goal.returns
returns c = subst Ascends c.self.view_is c.self.invariant.0
