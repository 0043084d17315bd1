use Rattle.std.proofs.Common.{suc, refl, sym, ap, ◌∙◌, subst}
use Rattle.rgo_holding.specs.Known.{slot_or_global}
use Rattle.rgo_sound.specs.RegionMachine.Counts.{Counts}
use Rattle.rgo_body.specs.Shows.{BodyShows}
use Rattle.rgo_body.proofs.Creating.{claims_own, recounted}
use Rattle.rgo_body.proofs.bodies.Body.claimed.Goals as goal

pub returns-clause-shows : goal.returns-clause-shows
returns-clause-shows c region at T r s none =
    subst (BodyShows T c.args.program.now (record c.args.self.now { holding = c.claimed.new.self; counts = c.add_page.new.self }))
    (sym (claims_own T r c.args.page (slot_or_global T.sizes.regions region) none))
    (recounted T c.args.program.now c.args.self.now r c.claimed.new.self c.args.self.now.reserved _ _ _ s
    (c.claimed.ensures.claims T.sizes.regions r.frame.holder r.memory.fills region s.holds at) s.reserved
    record { make = s.calm.make; claim = refl; give = s.calm.give; none = s.calm.none }
    (ap (λ (n : Counts). record n { taken = suc n.taken }) s.share ∙ sym c.add_page.ensures) refl refl)
