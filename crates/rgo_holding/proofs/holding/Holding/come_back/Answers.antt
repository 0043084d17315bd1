use Rattle.rgo_holding.proofs.Moving.{back_shows}
use Rattle.rgo_holding.proofs.holding.Holding.come_back.Goals as goal

pub returns-clause-returns : goal.returns-clause-returns
returns-clause-returns c = λ slots h fills shows none.
    back_shows c.args.self.now c.come_back.new.self slots h fills shows c.come_back.ensures none
