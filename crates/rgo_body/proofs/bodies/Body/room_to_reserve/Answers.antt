use Rattle.std.proofs.Common.{refl, sym, ◌∙◌}
use Rattle.rgo_body.proofs.Creating.{recounted}
use Rattle.rgo_body.proofs.bodies.Body.room_to_reserve.Goals as goal

pub returns-clause-stays : goal.returns-clause-stays
returns-clause-stays c p T r s =
    recounted T p c.args.self.now r c.args.self.now.holding c.reserve.new.self c.args.self.now.counts r.clock r.memory s s.holds
    (s.reserved ∙ sym c.reserve.ensures.same) s.calm s.share refl refl
