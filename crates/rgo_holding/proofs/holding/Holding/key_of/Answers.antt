use Rattle.std.proofs.Common.{Some, ap, option_map, sym, ◌∙◌}
use Rattle.rgo_sound.specs.RegionMachine.Regions.{class_region}
use Rattle.rgo_sound.specs.RegionMachine.States.{top_names}
use Rattle.rgo_holding.proofs.holding.Holding.key_of.Goals as goal

pub returns-in-Name : goal.returns-in-Name
returns-in-Name c = λ slots h fills shows.
    c.key.ensures slots h fills shows ∙ ap (λ class. option_map Some (class_region (top_names h.environments) class)) (sym c.in-Name.is)
