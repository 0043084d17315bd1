use Rattle.std.proofs.Common.{◌≡◌, Some, refl, sym, subst, nat_eq}
use Rattle.std.specs.HashMap.{get}
use Rattle.rgo_region_interpreter.specs.declared.tables.Table.{Table}
use Rattle.rgo_region_interpreter.specs.Tables.{RegionTableShows, regions_with_page, pages_with}
use Rattle.rgo_region_interpreter.proofs.regions.Counts.{lent}
use Rattle.rgo_region_interpreter.proofs.regions.Changes.{region_paged, global_paged, no_row}
use Rattle.rgo_region_interpreter.proofs.tables.Table.take_page.Goals as goal
use Rattle.rgo_region_interpreter.proofs.tables.Table.take_page.Goals.{in-Numbered+in-Some-get_mut+in-Some-checked_add}
use Rattle.rgo_region_interpreter.proofs.tables.Table.take_page.Goals.{in-Numbered+in_default-get_mut, in_default-region}

pub returns : goal.returns
returns c =
    let t = c.args.self.now in
    let region = c.args.region in
    let taken = c.in-Some.taken in
    elim c.match-region.branch [
      | in-Numbered+in-Some-get_mut+in-Some-checked_add w ↦
          let r = w.in-Numbered.r in
          let row = w.in-Some-get_mut.row.now in
          let found : Some row ≡ get nat_eq t.rows r = w.in-Some-get_mut.ensures.value in
          let after = record row { pages = w.in-Some-checked_add.pages } in
          record {
            taken = λ regions global_pages owners live shows.
                subst
                (λ (v : Table). RegionTableShows (record v { taken = taken }) (regions_with_page regions region)
                (pages_with global_pages region) owners) (sym w.self-is)
                (region_paged t _ regions global_pages owners shows region r w.in-Numbered.is live row found
                w.in-Some-checked_add.pages w.in-Some-checked_add.ensures.1
                (lent t _ r row after found (w.get_mut.follows.holds after))
                refl refl c.in-Some.ensures.1 refl);
          }
      | in-Numbered+in_default-get_mut w ↦
          record {
            taken = λ regions global_pages owners live shows.
                absurd (no_row t t regions global_pages owners shows region w.in-Numbered.r w.in-Numbered.is live
                w.in_default-get_mut.ensures.value);
          }
      | in_default-region w ↦
          record {
            taken = λ regions global_pages owners live shows.
                subst
                (λ (v : Table). RegionTableShows (record v { taken = taken }) (regions_with_page regions region)
                (pages_with global_pages region) owners) (sym w.self-is)
                (global_paged t _ regions global_pages owners shows region w.in_default-region.is refl
                c.in-Some.ensures.1);
          }
    ]
