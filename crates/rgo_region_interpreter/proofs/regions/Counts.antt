-- A table shows the regions after each change of its row and its counts. The counts are sums over all regions, removed ones included,
-- of which the table has no rows; so they have to be kept by what each change adds.
use Rattle.std.proofs.Common.{◌≡◌, ℕ, zero, suc, ◌+◌, ◌≤◌, ◌<◌, ◌⊎◌, inl, inr, Bool, true, false, cond, List, [], ◌∷◌}
use Rattle.std.proofs.Common.{◌++◌}
use Rattle.std.proofs.Common.{length, Option, Some, None, refl, sym, ap, ◌∙◌, subst, arith, nat_eq, slice_get}
use Rattle.std.proofs.Common.{if◌then◌else◌}
use Rattle.std.proofs.Common.{length-append}
use Rattle.std.specs.List.{sum_by}
use Rattle.std.specs.HashMap.{get, WritesThrough, Updates}
use Rattle.std.specs.Prelude.{IsSome}
use Rattle.std.proofs.lemmas.Bool.{eq-eqb, ne_eqb, cases_eq}
use Rattle.std.proofs.lemmas.List.Sums.{sum_by-cons, sum_by_push, sum_by-le-sum_by}
use Rattle.rgo_region_machine.specs.declared.regions.Region.{Region}
use Rattle.rgo_region_machine.specs.declared.regions.Region.TheVariants.{Global as GlobalRegion, Numbered}
use Rattle.rgo_region_machine.specs.Counts.{is_removed, pages_if_removed}
use Rattle.rgo_region_machine.specs.Regions.{RegionInfo, with_info}
use Rattle.rgo_sound.proofs.duties.Attends.{length_with_info}
use Rattle.rgo_region_interpreter.specs.declared.tables.Row.{Row}
use Rattle.rgo_region_interpreter.specs.declared.tables.Table.{Table}
use Rattle.rgo_region_interpreter.specs.Tables.{owned, row_view, row_if_live, row_of, RegionTableShows, AreMade}
use Rattle.rgo_region_interpreter.proofs.regions.Rows.{is_some, row_live, row_removed, IsRow, row_view_of}
use Rattle.rgo_region_interpreter.proofs.regions.Rows.{row_changed, row_unchanged, row_created, row_not_created, row_owns}
use Rattle.rgo_region_interpreter.proofs.regions.Rows.{row_owns_no_more}

-- ---- sums over the regions

pub sum_with_info : (f : RegionInfo → ℕ) (regions : List RegionInfo) (r : ℕ) (info : RegionInfo)
    (change : RegionInfo → RegionInfo) → slice_get regions r ≡ Some info
    → sum_by f (with_info regions r change) + f info ≡ sum_by f regions + f (change info)
sum_with_info f [] r info change at = cc
sum_with_info f (x ∷ xs) zero info change at =
    let e : x ≡ info = is_some x info at in
    let p : f x ≡ f info = ap f e in
    let q : f (change x) ≡ f (change info) = ap (λ y. f (change y)) e in
    omega (arith, sum_by-cons f (change x) xs, sum_by-cons f x xs, p, q)
sum_with_info f (x ∷ xs) (suc r) info change at =
    let rest = sum_with_info f xs r info change at in
    omega (arith, sum_by-cons f x (with_info xs r change), sum_by-cons f x xs, rest)

-- 1 if the region was removed
abbrev pub removals_in : RegionInfo → ℕ
removals_in info = cond (is_removed info) 1 0

pub live_counts : (info : RegionInfo) → 0 < info.stakes → (removals_in info ≡ 0) × (pages_if_removed info ≡ 0)
live_counts info some =
    let stays : is_removed info ≡ false = ne_eqb info.stakes 0 (λ e. omega (arith, e, some)) in
    (ap (λ b. cond b 1 0) stays, ap (λ b. if b then info.pages else 0) stays)

pub removed_counts : (info : RegionInfo) → info.stakes ≡ 0
    → (removals_in info ≡ 1) × (pages_if_removed info ≡ info.pages)
removed_counts info none =
    let gone : is_removed info ≡ true = eq-eqb info.stakes 0 none in
    (ap (λ b. cond b 1 0) gone, ap (λ b. if b then info.pages else 0) gone)

-- what was returned was taken
pub returned_within : (regions : List RegionInfo)
    → sum_by pages_if_removed regions ≤ sum_by (λ info. info.pages) regions
returned_within regions = sum_by-le-sum_by pages_if_removed (λ info. info.pages) regions within
  where
    at : (b : Bool) (n : ℕ) → (if b then n else 0) ≤ n
    at true n = omega arith
    at false n = omega arith

    within : (info : RegionInfo) → pages_if_removed info ≤ info.pages
    within info = at (is_removed info) info.pages

-- ---- one row

-- table u has this for region r, and for others what t has
pub record Replaces (t u : Table) (r : ℕ) (row : Option Row) : Type 0 where
  pub here : get nat_eq u.rows r ≡ row
  pub others : (q : ℕ) → nat_eq r q ≡ false → get nat_eq u.rows q ≡ get nat_eq t.rows q

-- after a row was lent to be changed
pub lent : (t u : Table) (r : ℕ) (was row : Row) → Some was ≡ get nat_eq t.rows r
    → WritesThrough nat_eq (nat_eq r) t.rows row u.rows → Replaces t u r (Some row)
lent t u r was row found writes =
    let updates = writes.3 (subst IsSome found refl) in
    record { here = updates.1; others = updates.2 }

pub replaced : (t u : Table) (r : ℕ) (row : Option Row) → Updates nat_eq t.rows u.rows r row → Replaces t u r row
replaced t u r row updates = record { here = updates.1; others = updates.2 }

pub replaced_twice : (t v u : Table) (r : ℕ) (first second : Option Row) → Replaces t v r first
    → Replaces v u r second → Replaces t u r second
replaced_twice t v u r first second before after =
    record { here = after.here; others = λ q apart. after.others q apart ∙ before.others q apart }

-- the rows are those of these regions and owners, if that of region r is and the others are as they were
rows_after : (t u : Table) (r : ℕ) (row : Option Row) → Replaces t u r row
    → (regions qs : List RegionInfo) (owners os : List Region)
    → ((q : ℕ) → nat_eq r q ≡ false → row_of qs os q ≡ row_of regions owners q)
    → row_view row ≡ row_of qs os r
    → ((q : ℕ) → row_view (get nat_eq t.rows q) ≡ row_of regions owners q)
    → (q : ℕ) → row_view (get nat_eq u.rows q) ≡ row_of qs os q
rows_after t u r row replaces regions qs owners os apart is was q = go (cases_eq r q)
  where
    go : (r ≡ q) ⊎ (r ≡ q → ⊥) → row_view (get nat_eq u.rows q) ≡ row_of qs os q
    go (inl e) = subst (λ q. row_view (get nat_eq u.rows q) ≡ row_of qs os q) e (ap row_view replaces.here ∙ is)
    go (inr differ) =
        let n : nat_eq r q ≡ false = ne_eqb r q differ in
        ap row_view (replaces.others q n) ∙ was q ∙ sym (apart q n)

-- ---- a change of one region

module _ (t u : Table) (regions : List RegionInfo) (global_pages : ℕ) (owners : List Region)
    (shows : RegionTableShows t regions global_pages owners) (r : ℕ) (info : RegionInfo)
    (at : slice_get regions r ≡ Some info) (change : RegionInfo → RegionInfo) where
  changed : (row : Option Row) → Replaces t u r row
      → row_view row ≡ row_if_live (Some (change info)) (owned (Numbered r) owners 0)
      → u.made ≡ t.made → u.removed + removals_in info ≡ t.removed + removals_in (change info)
      → u.taken + info.pages ≡ t.taken + (change info).pages
      → u.returned + pages_if_removed info ≡ t.returned + pages_if_removed (change info)
      → RegionTableShows u (with_info regions r change) global_pages owners
  changed row replaces is made removed taken returned =
      let m = shows.made in
      let n = shows.removed in
      let k = shows.taken in
      let l = shows.returned in
      let a = sum_with_info removals_in regions r info change at in
      let b = sum_with_info (λ info. info.pages) regions r info change at in
      let c = sum_with_info pages_if_removed regions r info change at in
      record {
        rows = rows_after t u r row replaces regions (with_info regions r change) owners owners
            (row_unchanged regions owners r change)
            (is ∙ sym (row_changed regions owners r info change at)) shows.rows;
        made = made ∙ m ∙ sym (length_with_info regions r change);
        removed = omega (arith, a, n, removed);
        taken = omega (arith, b, k, taken);
        returned = omega (arith, c, l, returned);
      }

  -- the region stays live
  pub stays_live : (row : Row) → Replaces t u r (Some row) → 0 < info.stakes → 0 < (change info).stakes
      → IsRow row (change info) (owned (Numbered r) owners 0)
      → u.made ≡ t.made → u.removed ≡ t.removed → u.taken + info.pages ≡ t.taken + (change info).pages
      → u.returned ≡ t.returned → RegionTableShows u (with_info regions r change) global_pages owners
  stays_live row replaces before after is made removed taken returned =
      let x = live_counts info before in
      let y = live_counts (change info) after in
      changed (Some row) replaces (row_view_of row (change info) (owned (Numbered r) owners 0) after is) made
      (omega (arith, removed, x.0, y.0)) taken (omega (arith, returned, x.1, y.1))

  -- the region is removed
  pub is_removed_now : Replaces t u r None → 0 < info.stakes → (change info).stakes ≡ 0
      → (change info).pages ≡ info.pages
      → u.made ≡ t.made → u.removed ≡ t.removed + 1 → u.taken ≡ t.taken → u.returned ≡ t.returned + info.pages
      → RegionTableShows u (with_info regions r change) global_pages owners
  is_removed_now replaces before after pages made removed taken returned =
      let x = live_counts info before in
      let y = removed_counts (change info) after in
      changed None replaces (sym (row_removed (change info) (owned (Numbered r) owners 0) after)) made
      (omega (arith, removed, x.0, y.0)) (omega (arith, taken, pages)) (omega (arith, returned, pages, x.1, y.1))

-- ---- a new region

module _ (t u : Table) (regions : List RegionInfo) (global_pages : ℕ) (owners : List Region)
    (shows : RegionTableShows t regions global_pages owners) where
  pub created : AreMade regions owners → (row : Row) → Replaces t u t.made (Some row)
      → row_view (Some row) ≡ Some (1, 0, []) → u.made ≡ t.made + 1 → u.removed ≡ t.removed → u.taken ≡ t.taken
      → u.returned ≡ t.returned
      → RegionTableShows u (regions ++ record { stakes = 1; pages = 0 } ∷ []) global_pages owners
  created are_made row replaces is made removed taken returned =
      let fresh : RegionInfo = record { stakes = 1; pages = 0 } in
      let m = shows.made in
      let n = shows.removed in
      let k = shows.taken in
      let l = shows.returned in
      let a = sum_by_push removals_in regions fresh in
      let b = sum_by_push (λ info. info.pages) regions fresh in
      let c = sum_by_push pages_if_removed regions fresh in
      let x = live_counts fresh (omega arith) in
      let here : Replaces t u (length regions) (Some row) = subst (λ r. Replaces t u r (Some row)) m replaces in
      record {
        rows = rows_after t u (length regions) (Some row) here regions (regions ++ fresh ∷ []) owners owners
            (row_not_created regions owners fresh)
            (is ∙ sym (row_live fresh [] (omega arith)) ∙ sym (row_created regions owners fresh are_made)) shows.rows;
        made = omega (arith, made, m, length-append regions (fresh ∷ []));
        removed = omega (arith, removed, n, a, x.0);
        taken = omega (arith, taken, k, b);
        returned = omega (arith, returned, l, c, x.1);
      }

  -- ---- a new object

  pub owns_global : RegionTableShows t regions global_pages (owners ++ GlobalRegion ∷ [])
  owns_global =
      record {
        rows = λ q. shows.rows q ∙ sym (row_owns_no_more regions owners GlobalRegion q refl);
        made = shows.made;
        removed = shows.removed;
        taken = shows.taken;
        returned = shows.returned;
      }

  pub owns : (r : ℕ) (info : RegionInfo) → slice_get regions r ≡ Some info → 0 < info.stakes → (row : Row)
      → Replaces t u r (Some row) → IsRow row info (owned (Numbered r) owners 0 ++ length owners ∷ [])
      → u.made ≡ t.made → u.removed ≡ t.removed → u.taken ≡ t.taken → u.returned ≡ t.returned
      → RegionTableShows u regions global_pages (owners ++ Numbered r ∷ [])
  owns r info at some row replaces is made removed taken returned =
      record {
        rows = rows_after t u r (Some row) replaces regions regions owners (owners ++ Numbered r ∷ [])
            (λ q apart. row_owns_no_more regions owners (Numbered r) q apart)
            (row_view_of row info (owned (Numbered r) owners 0 ++ length owners ∷ []) some is
            ∙ sym (row_owns regions owners r info at)) shows.rows;
        made = made ∙ shows.made;
        removed = removed ∙ shows.removed;
        taken = taken ∙ shows.taken;
        returned = returned ∙ shows.returned;
      }
