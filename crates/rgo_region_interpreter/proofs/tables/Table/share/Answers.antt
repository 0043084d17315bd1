use Rattle.std.proofs.Common.{◌≡◌, Some, refl, nat_eq}
use Rattle.std.specs.HashMap.{get}
use Rattle.rgo_region_interpreter.proofs.regions.Counts.{lent}
use Rattle.rgo_region_interpreter.proofs.regions.Changes.{table_shared}
use Rattle.rgo_region_interpreter.proofs.tables.Table.share.Goals as goal

pub returns-in-Some-checked_add : goal.returns-in-Some-checked_add
returns-in-Some-checked_add c =
    let t = c.args.self.now in
    let row = c.in-Some.row.now in
    let stakes = c.in-Some-checked_add.stakes in
    let found : Some row ≡ get nat_eq t.rows c.args.r = c.in-Some.ensures.value in
    let writes = c.get_mut.follows.holds (record row { stakes = stakes }) in
    record {
      shared = λ regions global_pages owners live shows.
          table_shared t _ regions global_pages owners shows c.args.r live row found stakes
          c.in-Some-checked_add.ensures.1 (lent t _ c.args.r row (record row { stakes = stakes }) found writes)
          (record { made = refl; removed = refl; taken = refl; returned = refl });
    }
