-- Regions, and the names by which the frames of goroutines know them.
use Rattle.std.specs.Prelude.{ℕ, zero, suc, ◌+◌, ◌-◌, Bool, true, false, List, [], ◌∷◌, Option, Some, None}
use Rattle.std.specs.Prelude.{slice_get, nat_eq, nat_lt, if◌then◌else◌}
use Rattle.rgo_tac.specs.declared.regions.Class.{Class}
use Rattle.rgo_tac.specs.declared.regions.Class.TheVariants.{NoClass, Global, Name}
use Rattle.rgo_region_machine.specs.declared.regions.Region.{Region}
use Rattle.rgo_region_machine.specs.declared.regions.Region.TheVariants.{Global as GlobalRegion, Numbered}

-- How many stakes exist in a region, and how many pages it has. It is live while a stake exists. There is no other sign of
-- life: the end of the last stake is the removal, and no step in between could fail or be forgotten.
pub record RegionInfo : Type 0 where
  pub stakes : ℕ
  pub pages : ℕ

-- whether both are Global, or have the same number
abbrev pub same_region : Region → Region → Bool
same_region GlobalRegion GlobalRegion = true
same_region GlobalRegion (Numbered r) = false
same_region (Numbered r) GlobalRegion = false
same_region (Numbered r) (Numbered s) = nat_eq r s

-- whether a region that was looked up exists and has a stake
abbrev pub has_stakes : Option RegionInfo → Bool
has_stakes None = false
has_stakes (Some info) = nat_lt 0 info.stakes

-- Global, or one of these with a stake; a number that was not created yet is not live
abbrev pub is_live : List RegionInfo → Region → Bool
is_live regions GlobalRegion = true
is_live regions (Numbered r) = has_stakes (slice_get regions r)

-- the regions, after `change` of the one with number r; as they were if there is none
abbrev pub with_info : List RegionInfo → ℕ → (RegionInfo → RegionInfo) → List RegionInfo
with_info [] r change = []
with_info (info ∷ infos) zero change = change info ∷ infos
with_info (info ∷ infos) (suc r) change = info ∷ with_info infos r change

-- one stake more, for a goroutine that is about to start
abbrev pub with_added_stake : RegionInfo → RegionInfo
with_added_stake info = record info { stakes = info.stakes + 1 }

-- one stake less; a region that has none left is removed
abbrev pub one_fewer : RegionInfo → RegionInfo
one_fewer info = record info { stakes = info.stakes - 1 }

-- one page more; a region gives back its pages only when it is removed, all together
abbrev pub one_page_more : RegionInfo → RegionInfo
one_page_more info = record info { pages = info.pages + 1 }

-- ---- names

-- which region each name denotes; a name without an entry denotes none
abbrev pub Bindings : Type 0
Bindings = List (ℕ × Region)

-- the region that name k denotes; none if it has no entry
abbrev pub bound : Bindings → ℕ → Option Region
bound [] k = None
bound (b ∷ bs) k = if nat_eq b.0 k then Some b.1 else bound bs k

-- the bindings without name k
abbrev pub unbind : Bindings → ℕ → Bindings
unbind [] k = []
unbind (b ∷ bs) k = if nat_eq b.0 k then unbind bs k else b ∷ unbind bs k

-- the bindings without these names
abbrev pub without_all : Bindings → List ℕ → Bindings
without_all names [] = names
without_all names (k ∷ ks) = without_all (unbind names k) ks

-- the region that a class denotes in a frame; none for NoClass, and for a name that denotes none
abbrev pub class_region : Bindings → Class → Option Region
class_region names NoClass = None
class_region names Global = Some GlobalRegion
class_region names (Name k) = bound names k

-- ---- lists of regions

-- the first occurrence only: the others are protections of their own
abbrev pub removed_once : Region → List Region → List Region
removed_once r [] = []
removed_once r (s ∷ ss) = if same_region r s then ss else s ∷ removed_once r ss

-- every occurrence: a goroutine has at most one stake in a region, and none after this
abbrev pub without : ℕ → List ℕ → List ℕ
without r [] = []
without r (s ∷ ss) = if nat_eq r s then without r ss else s ∷ without r ss
