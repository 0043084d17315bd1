use Rattle.std.proofs.Common.{◌∙◌, Some, ap}
use Rattle.std.specs.Option.{option_map}
use Rattle.rgo_sound.specs.RegionMachine.Regions.{class_region}
use Rattle.rgo_sound.specs.RegionMachine.States.{top_names}
use Rattle.rgo_sound.specs.Tac.declared.regions.Class.{Class}
use Rattle.rgo_body.proofs.bodies.Body.region_of.Goals as goal

pub returns : goal.returns
returns c = λ T p d shows.
    c.key_of.ensures T.sizes.regions d.frame.holder d.memory.fills shows.holds
    ∙ ap (λ (k : Class). option_map Some (class_region (top_names d.frame.holder.environments) k)) c.class_of.ensures
