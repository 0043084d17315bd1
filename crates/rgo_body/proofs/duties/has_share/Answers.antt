use Rattle.std.proofs.Common.{◌≡◌, Some, sym, ap, ◌∙◌}
use Rattle.rgo_sound.specs.RegionMachine.declared.regions.Region.TheVariants.{Numbered}
use Rattle.rgo_body.specs.Duties.{has_share}
use Rattle.rgo_body.proofs.duties.has_share.Goals as goal

pub returns-in-Numbered : goal.returns-in-Numbered
returns-in-Numbered c slots h fills r holds at =
    let is : r ≡ Numbered c.in-Numbered.field-0 = sym (c.region.ensures r at) ∙ c.in-Numbered.is in
    c.is_pending.ensures slots h fills c.in-Numbered.field-0 holds (at ∙ ap Some is) ∙ ap (has_share h.pending) (sym is)
