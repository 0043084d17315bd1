use Rattle.rgo_holding.proofs.Forgetting.{forgotten_shows}
use Rattle.rgo_holding.proofs.holding.Holding.clear_pending.Goals as goal

pub returns-in-None-clause-clears : goal.returns-in-None-clause-clears
returns-in-None-clause-clears c = λ slots h fills shows.
    forgotten_shows c.args.self.now c.forget_rounds.new.entries c.forget_rounds.ensures slots h fills shows
