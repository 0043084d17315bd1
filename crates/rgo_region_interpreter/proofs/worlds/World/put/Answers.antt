use Rattle.std.proofs.Common.{sym, ap, subst}
use Rattle.rgo_region_interpreter.specs.declared.tables.Table.{Table}
use Rattle.rgo_region_interpreter.specs.declared.worlds.World.{World}
use Rattle.rgo_region_interpreter.specs.Tables.{RegionTableShows}
use Rattle.rgo_region_interpreter.proofs.worlds.World.put.Goals as goal

pub returns-clause-placed : goal.returns-clause-placed
returns-clause-placed c =
    let r = c.in_ok-use_room.ensures.used in
    record {
      same = ap (λ (x : World). record x { table = c.own.new.self }) r.same;
      changed = r.changed;
      owned = λ regions global_pages owners live is shows.
          c.in_ok-own.ensures.owned regions global_pages owners live is
          (subst (λ (t : Table). RegionTableShows t regions global_pages owners) (sym (ap (λ (x : World). x.table) r.same))
          shows);
    }
