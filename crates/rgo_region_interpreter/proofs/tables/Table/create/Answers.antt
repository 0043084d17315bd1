use Rattle.std.proofs.Common.{Some, refl, ap}
use Rattle.rgo_region_interpreter.specs.declared.tables.Row.{Row}
use Rattle.rgo_region_interpreter.proofs.regions.Counts.{replaced, created}
use Rattle.rgo_region_interpreter.proofs.tables.Table.create.Goals as goal

pub returns-in-Ok-clause-created : goal.returns-in-Ok-clause-created
returns-in-Ok-clause-created c =
    let t = c.args.self.now in
    let row : Row = record { stakes = 1; pages = 0; objects = c.new.result } in
    λ regions global_pages owners made shows.
    created t _ regions global_pages owners shows made row (replaced t _ t.made (Some row) c.in-Ok.ensures.updates)
    (ap (λ os. Some (1, 0, os)) c.new.ensures.items) c.in-Some.ensures.1 refl refl refl
