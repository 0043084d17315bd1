-- What the code keeps of the regions of a run: the rows of those that are live, and counts; and of the memory: all but what the objects
-- of removed regions held. The machine's state has both in full; no step reads the rest.
use Rattle.std.specs.Prelude.{◌≡◌, ◌<◌, ℕ, suc, ◌+◌, ◌++◌, Bool, true, false, List, [], ◌∷◌, length, Option, Some, None}
use Rattle.std.specs.Prelude.{sum_by, count_by, slice_get, nat_eq, nat_lt, if◌then◌else◌}
use Rattle.std.specs.HashMap.{get}
use Rattle.rgo_memory.specs.Memory.{Object, StructObject, Memory, with_object}
use Rattle.rgo_region_machine.specs.declared.regions.Region.{Region}
use Rattle.rgo_region_machine.specs.declared.regions.Region.TheVariants.{Global as GlobalRegion, Numbered}
use Rattle.rgo_region_machine.specs.Counts.{is_removed, pages_if_removed}
use Rattle.rgo_region_machine.specs.Regions.{RegionInfo, is_live, same_region, with_info, one_fewer, one_page_more}
use Rattle.rgo_region_interpreter.specs.declared.tables.Row.{Row}
use Rattle.rgo_region_interpreter.specs.declared.tables.Table.{Table}

-- ---- rows

-- the objects of a region, if the first of these owners is that of object n
abbrev pub owned : Region → List Region → (n : ℕ) → List ℕ
owned r [] n = []
owned r (owner ∷ owners) n = if same_region owner r then n ∷ owned r owners (suc n) else owned r owners (suc n)

-- a live region's stakes, pages and objects
abbrev pub RowView : Type 0
RowView = ℕ × ℕ × List ℕ

abbrev pub row_view : Option Row → Option RowView
row_view None = None
row_view (Some row) = Some (row.stakes, row.pages, row.objects.items)

abbrev pub row_if_live : Option RegionInfo → List ℕ → Option RowView
row_if_live None objects = None
row_if_live (Some info) objects = if nat_lt 0 info.stakes then Some (info.stakes, info.pages, objects) else None

-- the row that region r has
abbrev pub row_of : List RegionInfo → List Region → ℕ → Option RowView
row_of regions owners r = row_if_live (slice_get regions r) (owned (Numbered r) owners 0)

-- the table is that of these regions, of this many pages of Global, and of objects with these owners
pub record RegionTableShows (t : Table) (regions : List RegionInfo) (global_pages : ℕ) (owners : List Region) : Type 0 where
  pub rows : (r : ℕ) → row_view (get nat_eq t.rows r) ≡ row_of regions owners r
  pub made : t.made ≡ length regions
  pub removed : t.removed ≡ count_by is_removed regions
  pub taken : t.taken ≡ global_pages + sum_by (λ info. info.pages) regions
  pub returned : t.returned ≡ sum_by pages_if_removed regions

-- each object's region was made
abbrev pub AreMade : List RegionInfo → List Region → Type 0
AreMade regions owners = (o r : ℕ) → slice_get owners o ≡ Some (Numbered r) → r < length regions

abbrev pub SameTable : Table → Table → Type 0
SameTable t u = (regions : List RegionInfo) (global_pages : ℕ) (owners : List Region)
    → RegionTableShows u regions global_pages owners → RegionTableShows t regions global_pages owners

-- ---- what the functions on a table do to it

-- Each of these is said for any regions, pages and owners that the table shows: the code has only the table, and the proof that calls
-- it knows for which state that is.

-- a new region with one stake
abbrev pub TableCreates : Table → Table → Type 0
TableCreates t u = (regions : List RegionInfo) (global_pages : ℕ) (owners : List Region) → AreMade regions owners
    → RegionTableShows t regions global_pages owners
    → RegionTableShows u (regions ++ record { stakes = 1; pages = 0 } ∷ []) global_pages owners

-- the entry of a live region changes like this, and nothing else changes
abbrev pub TableChanges : Table → Table → (r : ℕ) → (RegionInfo → RegionInfo) → Type 0
TableChanges t u r change = (regions : List RegionInfo) (global_pages : ℕ) (owners : List Region)
    → is_live regions (Numbered r) ≡ true → RegionTableShows t regions global_pages owners
    → RegionTableShows u (with_info regions r change) global_pages owners

-- a new object in a live region or in Global
abbrev pub TableOwns : Table → Table → Region → (object : ℕ) → Type 0
TableOwns t u region object = (regions : List RegionInfo) (global_pages : ℕ) (owners : List Region)
    → is_live regions region ≡ true → object ≡ length owners → RegionTableShows t regions global_pages owners
    → RegionTableShows u regions global_pages (owners ++ region ∷ [])

-- ---- pages

abbrev pub regions_with_page : List RegionInfo → Region → List RegionInfo
regions_with_page regions GlobalRegion = regions
regions_with_page regions (Numbered r) = with_info regions r one_page_more

abbrev pub pages_with : ℕ → Region → ℕ
pages_with global_pages GlobalRegion = global_pages + 1
pages_with global_pages (Numbered r) = global_pages

-- a page more in a live region or in Global
abbrev pub TableTakesPage : Table → Table → Region → Type 0
TableTakesPage t u region = (regions : List RegionInfo) (global_pages : ℕ) (owners : List Region)
    → is_live regions region ≡ true → RegionTableShows t regions global_pages owners
    → RegionTableShows u (regions_with_page regions region) (pages_with global_pages region) owners

-- ---- memory

abbrev pub is_gone_in : Option RegionInfo → Bool
is_gone_in None = false
is_gone_in (Some info) = is_removed info

-- the region was removed
abbrev pub is_gone : List RegionInfo → Region → Bool
is_gone regions GlobalRegion = false
is_gone regions (Numbered r) = is_gone_in (slice_get regions r)

abbrev pub kept_object : Bool → Object → Object
kept_object true object = StructObject []
kept_object false object = object

-- the objects, without what those of removed regions held; they keep their numbers, so pointers need no renaming
abbrev pub kept_heap : List RegionInfo → List Region → List Object → List Object
kept_heap regions [] heap = heap
kept_heap regions (owner ∷ owners) [] = []
kept_heap regions (owner ∷ owners) (object ∷ heap) =
    kept_object (is_gone regions owner) object ∷ kept_heap regions owners heap

abbrev pub kept_memory : List RegionInfo → List Region → Memory → Memory
kept_memory regions owners whole = record whole { heap = kept_heap regions owners whole.heap }

abbrev pub MemoryShows : Memory → List RegionInfo → List Region → Memory → Type 0
MemoryShows m regions owners whole = m ≡ kept_memory regions owners whole

-- the memory when a stake in a live region of this table ends: with the last one it no longer has what the region's objects held
abbrev pub MemoryLeaves : Table → (before after : Memory) → (r : ℕ) → Type 0
MemoryLeaves t before after r = (regions : List RegionInfo) (global_pages : ℕ) (owners : List Region) (whole : Memory)
    → is_live regions (Numbered r) ≡ true → RegionTableShows t regions global_pages owners → AreMade regions owners
    → length owners ≡ length whole.heap → MemoryShows before regions owners whole
    → MemoryShows after (with_info regions r one_fewer) owners whole

-- the memory after these objects are taken away
abbrev pub without_objects : List ℕ → Memory → Memory
without_objects [] m = m
without_objects (o ∷ os) m = without_objects os (with_object m o (StructObject []))
