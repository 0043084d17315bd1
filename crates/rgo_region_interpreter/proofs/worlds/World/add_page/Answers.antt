use Rattle.std.proofs.Common.{◌≡◌, sym, ap, ◌∙◌, subst}
use Rattle.rgo_region_interpreter.specs.declared.tables.Table.{Table}
use Rattle.rgo_region_interpreter.specs.declared.worlds.World.{World}
use Rattle.rgo_region_interpreter.specs.Tables.{RegionTableShows, pages_with, regions_with_page}
use Rattle.rgo_region_interpreter.proofs.worlds.World.add_page.Goals as goal

pub returns-clause-added : goal.returns-clause-added
returns-clause-added c =
    let r = c.in_ok-keep_page.ensures.kept in
    let w = c.args.self.now in
    let v = c.keep_page.new.self in
    let kept : v.table ≡ c.take_page.new.self = ap (λ (x : World). x.table) r.same in
    record {
      same = r.same ∙ ap (λ (t : Table). record w { table = t; holders = v.holders }) (sym kept);
      changed = r.changed;
      taken = λ regions global_pages owners live shows.
          subst (λ (t : Table). RegionTableShows t (regions_with_page regions c.args.region)
          (pages_with global_pages c.args.region) owners) (sym kept)
          (c.in_ok-take_page.ensures.taken regions global_pages owners live shows);
    }
