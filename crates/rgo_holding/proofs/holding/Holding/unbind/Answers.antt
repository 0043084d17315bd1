use Rattle.rgo_holding.proofs.Moving.{unbind_shows}
use Rattle.rgo_holding.proofs.holding.Holding.unbind.Goals as goal

pub returns-clause-unbinds : goal.returns-clause-unbinds
returns-clause-unbinds c = λ slots h fills shows.
    unbind_shows c.args.self.now c.set.new.self slots h fills shows c.args.name (c.set.ensures.set shows.ordered)
