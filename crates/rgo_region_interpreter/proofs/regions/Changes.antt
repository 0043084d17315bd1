-- What each change of a table shows: one more or one fewer stake, one more page, one more object. Each changes one row; the counts
-- change with it, and no count is ever recomputed.
use Rattle.std.proofs.Common.{◌≡◌, ℕ, ◌+◌, ◌-◌, ◌≤◌, ◌<◌, true, List, [], ◌∷◌, ◌++◌, length, Some, None}
use Rattle.std.proofs.Common.{refl, sym, ap, ◌∙◌, subst, arith, nat_eq, slice_get}
use Rattle.std.specs.HashMap.{get}
use Rattle.std.proofs.lemmas.List.Sums.{count_by-le-length}
use Rattle.rgo_region_machine.specs.declared.regions.Region.{Region}
use Rattle.rgo_region_machine.specs.declared.regions.Region.TheVariants.{Global as GlobalRegion, Numbered}
use Rattle.rgo_region_machine.specs.Counts.{is_removed, pages_if_removed}
use Rattle.rgo_region_machine.specs.Regions.{RegionInfo, is_live, with_info, with_added_stake, one_fewer, one_page_more}
use Rattle.rgo_sound.proofs.duties.Attends.{length_with_info}
use Rattle.rgo_region_interpreter.specs.declared.tables.Row.{Row}
use Rattle.rgo_region_interpreter.specs.declared.tables.Table.{Table}
use Rattle.rgo_region_interpreter.specs.Tables.{owned, row_view, row_if_live, RegionTableShows, regions_with_page, pages_with}
use Rattle.rgo_region_interpreter.proofs.regions.Rows.{live_info, IsRow, row_is, row_found}
use Rattle.rgo_region_interpreter.proofs.regions.Counts.{Replaces, stays_live, is_removed_now, owns, owns_global, sum_with_info}
use Rattle.rgo_region_interpreter.proofs.regions.Counts.{returned_within}
use Rattle.rgo_region_interpreter.proofs.regions.Counts.{removals_in, live_counts, removed_counts}

-- all but the rows
pub record SameCounts (t u : Table) : Type 0 where
  pub made : u.made ≡ t.made
  pub removed : u.removed ≡ t.removed
  pub taken : u.taken ≡ t.taken
  pub returned : u.returned ≡ t.returned

module _ (t u : Table) (regions : List RegionInfo) (global_pages : ℕ) (owners : List Region)
    (shows : RegionTableShows t regions global_pages owners) (r : ℕ) (live : is_live regions (Numbered r) ≡ true) where
  shown_row : (info : RegionInfo) → slice_get regions r ≡ Some info
      → row_view (get nat_eq t.rows r) ≡ row_if_live (Some info) (owned (Numbered r) owners 0)
  shown_row info at = shows.rows r ∙ ap (λ o. row_if_live o (owned (Numbered r) owners 0)) at

  -- the region has a row
  pub has_row : (row : Row) × (get nat_eq t.rows r ≡ Some row)
  has_row =
      let x = live_info regions r live in
      let found = row_found (get nat_eq t.rows r) x.0 (owned (Numbered r) owners 0) x.2 (shown_row x.0 x.1) in
      (found.0, found.1)

  module _ (row : Row) (found : Some row ≡ get nat_eq t.rows r) where
    pub is_row : (info : RegionInfo) → slice_get regions r ≡ Some info → 0 < info.stakes
        → IsRow row info (owned (Numbered r) owners 0)
    is_row info at some = row_is row info (owned (Numbered r) owners 0) some (ap row_view found ∙ shown_row info at)

    pub has_stakes : 0 < row.stakes
    has_stakes =
        let x = live_info regions r live in
        let is = is_row x.0 x.1 x.2 in
        omega (arith, is.stakes, x.2)

    pub table_shared : (stakes : ℕ) → stakes ≡ row.stakes + 1 → Replaces t u r (Some (record row { stakes = stakes }))
        → SameCounts t u → RegionTableShows u (with_info regions r with_added_stake) global_pages owners
    table_shared stakes more replaces same =
        let x = live_info regions r live in
        let is = is_row x.0 x.1 x.2 in
        stays_live t u regions global_pages owners shows r x.0 x.1 with_added_stake (record row { stakes = stakes }) replaces
        x.2 (omega arith)
        (record { stakes = more ∙ ap (λ n. n + 1) is.stakes; pages = is.pages; objects = is.objects })
        same.made same.removed (omega (arith, same.taken)) same.returned

    -- the stake is not the last
    pub table_left : 1 < row.stakes → Replaces t u r (Some (record row { stakes = row.stakes - 1 }))
        → SameCounts t u → RegionTableShows u (with_info regions r one_fewer) global_pages owners
    table_left more replaces same =
        let x = live_info regions r live in
        let is = is_row x.0 x.1 x.2 in
        let after : 0 < x.0.stakes - 1 = omega (arith, more, is.stakes) in
        stays_live t u regions global_pages owners shows r x.0 x.1 one_fewer
        (record row { stakes = row.stakes - 1 }) replaces x.2 after
        (record { stakes = ap (λ n. n - 1) is.stakes; pages = is.pages; objects = is.objects })
        same.made same.removed (omega (arith, same.taken)) same.returned

    -- the stake is the last
    pub table_removed : row.stakes ≤ 1 → Replaces t u r None
        → u.made ≡ t.made → u.removed ≡ t.removed + 1 → u.taken ≡ t.taken → u.returned ≡ t.returned + row.pages
        → RegionTableShows u (with_info regions r one_fewer) global_pages owners
    table_removed last replaces made removed taken returned =
        let x = live_info regions r live in
        let is = is_row x.0 x.1 x.2 in
        let after : x.0.stakes - 1 ≡ 0 = omega (arith, last, is.stakes) in
        is_removed_now t u regions global_pages owners shows r x.0 x.1 one_fewer replaces x.2 after refl
        made removed taken (omega (arith, returned, is.pages))

    -- the counts of what was removed do not exceed those of what was made, so the saturating sums of the code are exact
    pub removed_fits : row.stakes ≤ 1 → (t.removed + 1 ≤ t.made) × (t.returned + row.pages ≤ t.taken)
    removed_fits last =
        let x = live_info regions r live in
        let is = is_row x.0 x.1 x.2 in
        let y = live_counts x.0 x.2 in
        let z = removed_counts (one_fewer x.0) (omega (arith, last, is.stakes)) in
        let a = sum_with_info removals_in regions r x.0 one_fewer x.1 in
        let b = count_by-le-length is_removed (with_info regions r one_fewer) in
        let c = length_with_info regions r one_fewer in
        let d = sum_with_info pages_if_removed regions r x.0 one_fewer x.1 in
        let e = sum_with_info (λ info. info.pages) regions r x.0 one_fewer x.1 in
        let f = returned_within (with_info regions r one_fewer) in (
          omega (arith, a, b, c, y.0, z.0, shows.removed, shows.made),
          omega (arith, d, e, f, y.1, z.1, shows.returned, shows.taken, is.pages),
        )

    pub table_paged : (pages : ℕ) → pages ≡ row.pages + 1 → Replaces t u r (Some (record row { pages = pages }))
        → u.made ≡ t.made → u.removed ≡ t.removed → u.taken ≡ t.taken + 1 → u.returned ≡ t.returned
        → RegionTableShows u (with_info regions r one_page_more) global_pages owners
    table_paged pages more replaces made removed taken returned =
        let x = live_info regions r live in
        let is = is_row x.0 x.1 x.2 in
        stays_live t u regions global_pages owners shows r x.0 x.1 one_page_more (record row { pages = pages }) replaces
        x.2 x.2
        (record { stakes = is.stakes; pages = more ∙ ap (λ n. n + 1) is.pages; objects = is.objects })
        made removed (omega (arith, taken)) returned

    pub table_owns : (after : Row) → after.stakes ≡ row.stakes → after.pages ≡ row.pages
        → after.objects.items ≡ row.objects.items ++ length owners ∷ [] → Replaces t u r (Some after)
        → SameCounts t u → RegionTableShows u regions global_pages (owners ++ Numbered r ∷ [])
    table_owns after stakes pages objects replaces same =
        let x = live_info regions r live in
        let is = is_row x.0 x.1 x.2 in
        owns t u regions global_pages owners shows r x.0 x.1 x.2 after replaces
        (record {
          stakes = stakes ∙ is.stakes;
          pages = pages ∙ is.pages;
          objects = objects ∙ ap (λ os. os ++ length owners ∷ []) is.objects;
        })
        same.made same.removed same.taken same.returned

-- ---- in any region

module _ (t u : Table) (regions : List RegionInfo) (global_pages : ℕ) (owners : List Region)
    (shows : RegionTableShows t regions global_pages owners) (region : Region) where
  -- a new object of Global
  pub global_owns : region ≡ GlobalRegion → RegionTableShows t regions global_pages (owners ++ region ∷ [])
  global_owns is =
      subst (λ q. RegionTableShows t regions global_pages (owners ++ q ∷ [])) (sym is)
      (owns_global t u regions global_pages owners shows)

  -- one more page of Global
  pub global_paged : region ≡ GlobalRegion → u ≡ record t { taken = u.taken } → u.taken ≡ t.taken + 1
      → RegionTableShows u (regions_with_page regions region) (pages_with global_pages region) owners
  global_paged is same taken =
      subst (λ q. RegionTableShows u (regions_with_page regions q) (pages_with global_pages q) owners) (sym is)
      (record {
        rows = λ q. ap (λ (v : Table). row_view (get nat_eq v.rows q)) same ∙ shows.rows q;
        made = ap (λ (v : Table). v.made) same ∙ shows.made;
        removed = ap (λ (v : Table). v.removed) same ∙ shows.removed;
        taken = omega (arith, taken, shows.taken);
        returned = ap (λ (v : Table). v.returned) same ∙ shows.returned;
      })

  module _ (r : ℕ) (is : region ≡ Numbered r) (live : is_live regions region ≡ true) where
    numbered_live : is_live regions (Numbered r) ≡ true
    numbered_live = subst (λ q. is_live regions q ≡ true) is live

    pub no_row : None ≡ get nat_eq t.rows r → ⊥
    no_row none =
        let found = has_row t u regions global_pages owners shows r numbered_live in
        none_is_not_some found.0 (none ∙ found.1)
      where
        none_is_not_some : (row : Row) → None ≡ Some row → ⊥
        none_is_not_some row e = cc

    module _ (row : Row) (found : Some row ≡ get nat_eq t.rows r) where
      pub region_owns : (after : Row) → after.stakes ≡ row.stakes → after.pages ≡ row.pages
          → after.objects.items ≡ row.objects.items ++ length owners ∷ [] → Replaces t u r (Some after)
          → SameCounts t u → RegionTableShows u regions global_pages (owners ++ region ∷ [])
      region_owns after stakes pages objects replaces same =
          subst (λ q. RegionTableShows u regions global_pages (owners ++ q ∷ [])) (sym is)
          (table_owns t u regions global_pages owners shows r numbered_live row found after stakes pages objects
          replaces same)

      pub region_paged : (pages : ℕ) → pages ≡ row.pages + 1 → Replaces t u r (Some (record row { pages = pages }))
          → u.made ≡ t.made → u.removed ≡ t.removed → u.taken ≡ t.taken + 1 → u.returned ≡ t.returned
          → RegionTableShows u (regions_with_page regions region) (pages_with global_pages region) owners
      region_paged pages more replaces made removed taken returned =
          subst (λ q. RegionTableShows u (regions_with_page regions q) (pages_with global_pages q) owners) (sym is)
          (table_paged t u regions global_pages owners shows r numbered_live row found pages more replaces
          made removed taken returned)
