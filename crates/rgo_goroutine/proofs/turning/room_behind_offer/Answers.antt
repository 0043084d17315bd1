use Rattle.rgo_acts.proofs.computing.LocalActs.{roomier_shows}
use Rattle.rgo_goroutine.proofs.turning.room_behind_offer.Goals as goal

pub returns-in-Ok-clause-stays : goal.returns-in-Ok-clause-stays
returns-in-Ok-clause-stays c = λ T k shows.
    roomier_shows c.args.program.now c.expand.new.self c.room_behind-in-Ok.new.self c.room_behind-in-Ok.ensures.same T k
    (c.expand.ensures.stays T k shows)
