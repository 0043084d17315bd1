use Rattle.std.proofs.Common.{◌+◌, suc, refl, sym, ap, ◌∙◌}
use Rattle.rgo_sound.specs.RegionMachine.Counts.{Counts}
use Rattle.rgo_body.proofs.Creating.{recounted}
use Rattle.rgo_body.proofs.bodies.Body.gave_back.Goals as goal

pub returns-clause-shows : goal.returns-clause-shows
returns-clause-shows c T r s = recounted T c.args.program.now c.args.self.now r c.args.self.now.holding c.args.self.now.reserved _ _ r.memory s s.holds s.reserved s.calm
    (ap (λ (n : Counts). record n { removed = suc n.removed; returned = n.returned + c.args.pages }) s.share ∙ sym c.remove_region.ensures)
    refl refl
