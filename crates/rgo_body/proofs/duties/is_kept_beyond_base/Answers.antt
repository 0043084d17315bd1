use Rattle.std.proofs.Common.{◌≡◌, sym, ap, ◌∙◌}
use Rattle.rgo_sound.specs.RegionMachine.Duties.{guards}
use Rattle.rgo_sound.specs.RegionMachine.declared.regions.Region.TheVariants.{Numbered}
use Rattle.rgo_body.specs.Duties.{is_kept}
use Rattle.rgo_body.proofs.duties.is_kept_beyond_base.Goals as goal

pub returns-in-Numbered : goal.returns-in-Numbered
returns-in-Numbered c slots h fills r rest holds at base =
    let is : r ≡ Numbered c.in-Numbered.field-0 = sym (c.region.ensures r at) ∙ c.in-Numbered.is in
    c.guards_beyond_base.ensures slots h fills r rest holds at base ∙ ap (guards rest h.environments) is
    ∙ ap (is_kept rest h.environments) (sym is)
