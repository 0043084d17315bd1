use Rattle.std.proofs.Common.{◌∷◌, [], ◌++◌, suc, refl, sym, ap, ◌∙◌, subst}
use Rattle.rgo_sound.specs.RegionMachine.Counts.{Counts}
use Rattle.rgo_body.specs.Shows.{BodyShows}
use Rattle.rgo_body.proofs.Creating.{claims_apart, recounted}
use Rattle.rgo_body.proofs.bodies.Body.reserved_page.Goals as goal

pub returns-clause-shows : goal.returns-clause-shows
returns-clause-shows c T r slot s spread =
    subst (BodyShows T c.args.program.now (record c.args.self.now { reserved = c.push.new.self; counts = c.add_page.new.self }))
    (sym (claims_apart T r c.args.page slot spread))
    (recounted T c.args.program.now c.args.self.now r c.args.self.now.holding c.push.new.self _ _ _ s s.holds
    (ap (λ pages. pages ++ c.args.page ∷ []) s.reserved ∙ sym c.push.ensures.pages)
    record { make = s.calm.make; claim = refl; give = s.calm.give; none = s.calm.none }
    (ap (λ (n : Counts). record n { taken = suc n.taken }) s.share ∙ sym c.add_page.ensures) refl refl)
