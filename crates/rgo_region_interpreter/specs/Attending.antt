-- What the functions that do a goroutine's steps with regions make of a world: the facts that their contracts are written in.
use Rattle.std.specs.Prelude.{◌≡◌, ◌≤◌, ◌<◌, ◌+◌, ◌-◌, ◌++◌, ℕ, max, Bool, true, false, List, [], ◌∷◌, drop, length, map, Option, Some, None}
use Rattle.std.specs.Prelude.{is_some, nat_eq, nat_lt, slice_get, slice_set}
use Rattle.std.specs.HashMap.{HashMap, get}
use Rattle.std.specs.List.{list_any}
use Rattle.rgo_machine.specs.declared.limits.Shortage.TheVariants as shortage
use Rattle.rgo_region_machine.specs.declared.regions.Region.{Region}
use Rattle.rgo_region_machine.specs.declared.regions.Region.TheVariants.{Global as GlobalRegion, Numbered}
use Rattle.rgo_region_machine.specs.Regions.{one_fewer}
use Rattle.rgo_region_machine.specs.Room.{live_regions}
use Rattle.rgo_region_machine.specs.States.{Duty, Create, Protect, Share, RegionState}
use Rattle.rgo_region_machine.specs.States as spec
use Rattle.rgo_region_interpreter.specs.declared.holders.Holder.{Holder}
use Rattle.rgo_region_interpreter.specs.declared.worlds.Halt.{Halt}
use Rattle.rgo_region_interpreter.specs.declared.worlds.Halt.TheVariants as halt
use Rattle.rgo_region_interpreter.specs.declared.worlds.World.{World}
use Rattle.rgo_region_interpreter.specs.Holders.{HolderLeaves, protections_in}
use Rattle.rgo_region_interpreter.specs.Tables.{TableChanges, MemoryLeaves}
use Rattle.rgo_region_interpreter.specs.Works.{Attended, SameRun, Works, done_of}

-- another memory, another table and other holders; nothing else
abbrev pub IsMoved : World → World → Type 0
IsMoved w v = v ≡ record w { state = record w.state { memory = v.state.memory }; table = v.table; holders = v.holders }

-- everything by which a state is shown is the same
pub record WorldStays (w v : World) : Type 0 where
  pub moved : IsMoved w v
  pub table : v.table ≡ w.table
  pub memory : v.state.memory ≡ w.state.memory
  pub holders : v.holders.items ≡ w.holders.items

-- ---- the end of a stake

-- a goroutine's stake in a region has ended
pub record LeavesRegion (w v : World) (g : ℕ) (c : Holder) (r : ℕ) : Type 0 where
  pub moved : IsMoved w v
  pub holder : Holder
  pub leaves : HolderLeaves c holder r
  pub holders : v.holders.items ≡ slice_set w.holders.items g holder
  pub table : TableChanges w.table v.table r one_fewer
  pub memory : MemoryLeaves w.table w.state.memory v.state.memory r

-- everything stays if it protects the region
abbrev pub LeavesUnless : Bool → World → World → ℕ → Holder → ℕ → Type 0
LeavesUnless true w v g c r = WorldStays w v
LeavesUnless false w v g c r = LeavesRegion w v g c r

abbrev pub EndsStake : World → World → ℕ → Region → Type 0
EndsStake w v g GlobalRegion = WorldStays w v
EndsStake w v g (Numbered r) = (c : Holder) → slice_get w.holders.items g ≡ Some c
    → LeavesUnless (nat_lt 0 (protections_in c r)) w v g c r

-- the regions that a goroutine was passed at two positions and that have not ended
abbrev pub base_in : Option Holder → List ℕ
base_in None = []
base_in (Some c) = c.base.items

abbrev pub base_regions_of : World → ℕ → List ℕ
base_regions_of w g = base_in (slice_get w.holders.items g)

-- ---- stakes for a goroutine that is about to start

-- whether it is a key of the map
abbrev pub has_key : {X S : Type 0} → HashMap ℕ X S → ℕ → Bool
has_key m r = is_some (get nat_eq m r)

-- these are the regions that are pending
abbrev pub PendsBy : (ℕ → Bool) → spec.Holder → Type 0
PendsBy has h = (r : ℕ) → has r ≡ list_any (nat_eq r) h.pending

pub record SharesTo (w v : World) (s : RegionState) (g : ℕ) (duties : List Duty) (has : ℕ → Bool) : Type 0 where
  pub attended : Attended w v s g duties
  pub pends : PendsBy has attended.works.holder

-- one step that shares
abbrev pub SharesOne : World → World → ℕ → (name : ℕ) → (before after : ℕ → Bool) → Type 0
SharesOne w v g name before after = (s : RegionState) (rest : List Duty) (works : Works w s g (Share name ∷ rest))
    → PendsBy before works.holder → SharesTo w v s g rest after

-- ---- what is owed before an instruction

-- these steps are done, and counted
pub record DoesAll (w v : World) (s : RegionState) (g : ℕ) (rest : List Duty) (done : ℕ) : Type 0 where
  pub attended : Attended w v s g rest
  pub counted : done_of v g ≡ done

abbrev pub CreatesAll : World → World → ℕ → (names : List ℕ) → Type 0
CreatesAll w v g names = (s : RegionState) (rest : List Duty)
    → Works w s g (drop (done_of w g) (map Create names) ++ rest)
    → DoesAll w v s g rest (max (done_of w g) (length names))

abbrev pub ProtectsAll : World → World → ℕ → (created : ℕ) → (names : List ℕ) → Type 0
ProtectsAll w v g created names = (s : RegionState) → created ≤ done_of w g
    → Works w s g (drop (done_of w g - created) (map Protect names))
    → DoesAll w v s g [] (max (done_of w g) (created + length names))

-- none is done, or all are: only a creation can lack room, so a turn never ends between two shares
pub record SharesAll (w v : World) (g created : ℕ) (names : List ℕ) : Type 0 where
  pub shares : (s : RegionState) (works : Works w s g (map Share names)) → works.holder.pending ≡ []
      → done_of w g ≤ created → DoesAll w v s g [] (done_of w g + length names)
  pub done : created < done_of w g → v ≡ w

-- some are created, and there was no room for the next one
pub record CreationStopsAt (w v : World) (s : RegionState) (g : ℕ) (names : List ℕ) (rest : List Duty) : Type 0 where
  pub name : ℕ
  pub left : List Duty
  pub attended : Attended w v s g (Create name ∷ left)
  pub is_left : Create name ∷ left ≡ drop (done_of v g) (map Create names) ++ rest
  pub from : done_of w g ≤ done_of v g
  pub within : done_of v g < length names
  pub full : w.sizes.regions ≤ live_regions attended.state

abbrev pub FailsToCreate : Halt → World → World → ℕ → (names : List ℕ) → Type 0
FailsToCreate halt.NoMemory w v g names = SameRun w v
FailsToCreate (halt.NoRoom why) w v g names = (why ≡ shortage.Regions)
    × ((s : RegionState) (rest : List Duty) → Works w s g (drop (done_of w g) (map Create names) ++ rest)
    → CreationStopsAt w v s g names rest)
