-- Where the definitions hold and where they do not, on one goroutine with two frames that knows two regions.
use Rattle.std.specs.Option.{option_map}
use Rattle.std.specs.Prelude.{◌≡◌, ℕ, false, List, [], ◌∷◌, Option, Some, None}
use Rattle.rgo_core_memory.specs.Records.{Fill, page_of}
use Rattle.rgo_sound.specs.RegionMachine.States.{RegionEnvironment, Holder, NoOffer, environment_of}
use Rattle.rgo_sound.specs.RegionMachine.declared.regions.Region.{Region}
use Rattle.rgo_sound.specs.RegionMachine.declared.regions.Region.TheVariants.{Global as GlobalRegion, Numbered}
use Rattle.rgo_sound.specs.Tac.declared.regions.Class.TheVariants.{NoClass, Name}
use Rattle.rgo_holding.specs.declared.entries.Entry.{Entry}
use Rattle.rgo_holding.specs.declared.holding.Holding.{Holding}
use Rattle.rgo_holding.specs.declared.keys.Key.{Key}
use Rattle.rgo_holding.specs.Changes.{IsProtectedLast, IsUnboundRegion, EnvironmentsSettle}
use Rattle.rgo_holding.specs.Entries.{new_entry}
use Rattle.rgo_holding.specs.Holds.{HoldingShows}
use Rattle.rgo_holding.specs.Known.{AreCounted, AreStakesPending, AreKeysStaked, HavePages, KeySlotsDiffer, entry_of, entry_region, global_key, protections_of, region_of, slot_or_global}
use Rattle.rgo_holding.specs.Naming.{keys_changed_at, cleared_keys, cut, with_named}
use Rattle.rgo_holding.specs.Passing.{AreRegionsPassed, key_for}
use Rattle.rgo_holding.specs.Tables.{Named, NamesStand, StandFor, StartWithin, key_in, keys_at, named_in}

-- ---- a table of four slots: Global is known, and a region in slot 2, of which it has a page and which it protects once

abbrev pub second : Key
second = record { 0 = 1 }

abbrev pub third : Key
third = record { 0 = 2 }

abbrev pub page_two : Entry
page_two = record (new_entry 2) { page = Some (record { page = 7; fill = 5 }); protections = 1 }

abbrev pub three_entries : List Entry
three_entries = new_entry 4 ∷ page_two ∷ record (new_entry 3) { used = false } ∷ []

-- one slot has two keys
abbrev pub doubled : List Entry
doubled = new_entry 4 ∷ new_entry 2 ∷ new_entry 2 ∷ []

abbrev pub pages : List Fill
pages = record { slot = 2; page = 7; fill = 5 } ∷ []

-- ---- frames: the first names the region in slot 2 by 1, and protects it; the second knows none

abbrev pub naming : RegionEnvironment
naming = record { lent = NoClass; names = (1, Numbered 2) ∷ []; protections = Numbered 2 ∷ [] }

abbrev pub bare_environment : RegionEnvironment
bare_environment = environment_of NoClass []

abbrev pub holder_of : List RegionEnvironment → Holder
holder_of es = record { stakes = 2 ∷ []; pending = []; environments = es; base = []; fills = []; reserved = 0; duties = []; offer = NoOffer }

abbrev pub frame : (height : ℕ) → Named
frame n = record { height = n; keys = None ∷ Some second ∷ [] }

abbrev pub region_of_three : Key → Option Region
region_of_three key = option_map (entry_region 4) (entry_of three_entries key)

pub record HoldingExamples : Type 0 where
  -- keys
  pub used : entry_of three_entries second ≡ Some page_two
  pub given_up : entry_of three_entries third ≡ None
  pub by_slot : region_of 4 2 ≡ Numbered 2
  pub behind_all : region_of 4 4 ≡ GlobalRegion
  pub slot_of_global : slot_or_global 4 GlobalRegion ≡ 4
  -- names
  pub name : key_in (None ∷ Some second ∷ []) 1 ≡ Some second
  pub no_name : key_in (None ∷ Some second ∷ []) 2 ≡ None
  pub tables : named_in (Some global_key ∷ None ∷ Some second ∷ []) (record { height = 3; start = 1 } ∷ record { height = 1; start = 0 } ∷ [])
      ≡ frame 3 ∷ record { height = 1; keys = Some global_key ∷ [] } ∷ []
  pub start_behind : StartWithin (None ∷ []) (record { height = 1; start = 2 } ∷ []) → ⊥
  pub newest : keys_at (frame 2 ∷ []) 2 ≡ None ∷ Some second ∷ []
  pub newest_has_none : keys_at (frame 1 ∷ []) 2 ≡ []
  pub stand : StandFor region_of_three (None ∷ Some second ∷ []) ((1, Numbered 2) ∷ [])
  pub unbound : StandFor region_of_three (None ∷ Some second ∷ []) [] → ⊥
  pub another : StandFor region_of_three (None ∷ Some second ∷ []) ((1, Numbered 3) ∷ []) → ⊥
  pub not_in_use : StandFor region_of_three (None ∷ Some third ∷ []) ((1, Numbered 3) ∷ []) → ⊥
  pub frames : NamesStand region_of_three (frame 1 ∷ []) (bare_environment ∷ naming ∷ [])
  pub wrong_height : NamesStand region_of_three (frame 2 ∷ []) (bare_environment ∷ naming ∷ []) → ⊥
  pub too_many : NamesStand region_of_three (frame 1 ∷ []) [] → ⊥
  -- entries
  pub differ : KeySlotsDiffer (entry_of three_entries) 4
  pub same_slot : KeySlotsDiffer (entry_of doubled) 4 → ⊥
  pub no_global : KeySlotsDiffer (entry_of three_entries) 5 → ⊥
  pub protections : protections_of (Numbered 2) (bare_environment ∷ naming ∷ []) (Numbered 2 ∷ []) ≡ 2
  pub counted : AreCounted (entry_of three_entries) 4 (bare_environment ∷ naming ∷ []) []
  pub one_more : AreCounted (entry_of three_entries) 4 (naming ∷ naming ∷ []) [] → ⊥
  pub own : HavePages (entry_of three_entries) pages
  pub own_none : HavePages (entry_of three_entries) [] → ⊥
  pub first_page : page_of 2 (record { slot = 3; page = 1; fill = 0 } ∷ pages) ≡ Some (record { slot = 2; page = 7; fill = 5 })
  pub none_pending : AreStakesPending (entry_of three_entries) 4 1 []
  pub pending : AreStakesPending (entry_of three_entries) 4 1 (2 ∷ []) → ⊥
  pub staked : AreKeysStaked (entry_of three_entries) 4 (2 ∷ [])
  pub no_stake : AreKeysStaked (entry_of three_entries) 4 (3 ∷ []) → ⊥
  -- a holding determines the number of frames
  pub as_many : (k : Holding) → HoldingShows 4 k (bare_environment ∷ []) [] [] [] [] → HoldingShows 4 k (bare_environment ∷ bare_environment ∷ []) [] [] [] [] → ⊥
  -- changes
  pub last : IsProtectedLast (holder_of (naming ∷ bare_environment ∷ [])) (Numbered 2)
  pub not_last : IsProtectedLast (holder_of (bare_environment ∷ naming ∷ [])) (Numbered 2) → ⊥
  pub named : IsUnboundRegion (Numbered 2) (bare_environment ∷ naming ∷ []) → ⊥
  pub unnamed : IsUnboundRegion (Numbered 3) (bare_environment ∷ naming ∷ [])
  pub settles : EnvironmentsSettle 1 3 (bare_environment ∷ naming ∷ []) (bare_environment ∷ bare_environment ∷ naming ∷ [])
  pub guarded_above : EnvironmentsSettle 0 1 (naming ∷ []) (bare_environment ∷ []) → ⊥
  pub fewer : EnvironmentsSettle 1 2 (bare_environment ∷ naming ∷ []) (naming ∷ []) → ⊥
  pub cuts : cut 1 (frame 3 ∷ frame 2 ∷ frame 1 ∷ []) ≡ frame 1 ∷ []
  pub clears : keys_changed_at 2 (λ keys. cleared_keys keys (1 ∷ [])) (frame 2 ∷ []) ≡ record { height = 2; keys = None ∷ None ∷ [] } ∷ []
  pub clears_below : keys_changed_at 3 (λ keys. cleared_keys keys (1 ∷ [])) (frame 2 ∷ []) ≡ frame 2 ∷ []
  pub enters : with_named 2 [] (frame 1 ∷ []) ≡ frame 1 ∷ []
  -- what is passed
  pub passes : key_for (NoClass ∷ Name 5 ∷ Name 5 ∷ []) (Some third ∷ Some second ∷ Some global_key ∷ []) 5 ≡ Some second
  pub passes_none : key_for (Name 5 ∷ []) (None ∷ []) 5 ≡ None
  pub shared : AreRegionsPassed (2 ∷ []) (Some (Numbered 2) ∷ Some GlobalRegion ∷ None ∷ [])
  pub not_shared : AreRegionsPassed (3 ∷ []) (Some (Numbered 2) ∷ []) → ⊥
