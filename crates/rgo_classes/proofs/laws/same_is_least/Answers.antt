use Rattle.rgo_classes.specs.Joins.{Joins}
use Rattle.rgo_classes.proofs.Chains.{is_least}
use Rattle.rgo_classes.proofs.laws.same_is_least.Goals as goal

pub returns : goal.returns
returns c = λ summaries f. is_least (Joins summaries f)
