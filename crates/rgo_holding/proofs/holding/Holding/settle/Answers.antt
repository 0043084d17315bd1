use Rattle.rgo_holding.proofs.Moving.{settle_shows}
use Rattle.rgo_holding.proofs.holding.Holding.settle.Goals as goal

pub returns-clause-settles : goal.returns-clause-settles
returns-clause-settles c = λ slots h fills es shows settles.
    settle_shows c.args.self.now c.settle.new.self slots h fills es c.args.kept c.args.depth shows c.settle.ensures settles
