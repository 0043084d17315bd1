-- The names of a frame in a table: at each name's number its region, or none. In a table one load finds a name. The machine's list of
-- bindings would be searched.
use Rattle.rgo_sound.specs.RegionMachine.Regions.{Bindings, bound, unbind, without_all}
use Rattle.rgo_sound.specs.RegionMachine.declared.regions.Region.{Region}
use Rattle.std.specs.Prelude.{List, None, Option, Some, [], get_or, length, slice_set, ℕ, ◌<◌, ◌∷◌, ◌≡◌}

abbrev pub NameTable : Type 0
NameTable = List (Option Region)

abbrev pub TableShows : Bindings → NameTable → Type 0
TableShows names table = (k : ℕ) → bound names k ≡ get_or table k None

-- the table without these names
abbrev pub cleared : NameTable → List ℕ → NameTable
cleared table [] = table
cleared table (k ∷ ks) = cleared (slice_set table k None) ks

-- What duties and calls do to it: a name ends, names are left to a callee, a name is made. These are all the changes there are.
pub record TableLaws : Type 0 where
  pub unbinds : (names : Bindings) (table : NameTable) (k : ℕ) → TableShows names table
      → TableShows (unbind names k) (slice_set table k None)
  pub leaves : (ks : List ℕ) (names : Bindings) (table : NameTable) → TableShows names table
      → TableShows (without_all names ks) (cleared table ks)
  pub creates : (names : Bindings) (table : NameTable) (k : ℕ) (r : Region) → k < length table
      → TableShows names table → TableShows ((k, r) ∷ unbind names k) (slice_set table k (Some r))
