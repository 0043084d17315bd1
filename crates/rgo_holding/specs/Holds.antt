-- What a `Holding` shows of a goroutine's record: its names, protections, base, pending stakes and own pages. Its stakes are stored
-- nowhere: each region that it knows, except Global, is one in which it has a stake, and a goroutine only ever removes what it names.
use Rattle.std.specs.Option.{option_map}
use Rattle.std.specs.Prelude.{◌≡◌, ℕ, List, Option, Some, length, map, reverse}
use Rattle.rgo_core_memory.specs.Records.{Fill}
use Rattle.rgo_sound.specs.RegionMachine.States.{RegionEnvironment, Holder}
use Rattle.rgo_sound.specs.RegionMachine.declared.regions.Region.{Region}
use Rattle.rgo_holding.specs.declared.entries.Entry.{Entry}
use Rattle.rgo_holding.specs.declared.holding.Holding.{Holding}
use Rattle.rgo_holding.specs.declared.keys.Key.{Key}
use Rattle.rgo_holding.specs.Known.{AreCounted, AreStakesPending, AreKeysStaked, HavePages, KeySlotsDiffer, entry_of, entry_region}
use Rattle.rgo_holding.specs.Tables.{IsOrdered, NamesStand, named_frames}

abbrev pub entry_at : Holding → Key → Option Entry
entry_at k key = entry_of k.entries.items key

-- the region of a key that is in use
abbrev pub region_of_key : Holding → Key → Option Region
region_of_key k key = option_map (entry_region k.slots) (entry_at k key)

pub record HoldingShows
    (slots : ℕ) (k : Holding) (es : List RegionEnvironment) (base : List Region) (pending stakes : List ℕ) (fills : List Fill)
    : Type 0 where
  pub slots_are : k.slots ≡ slots
  pub depth : k.frames.depth ≡ length es
  -- tables begin in ascending order, so a return cuts off those of the newest frame
  pub ordered : IsOrdered k.frames
  -- what is wanted: a name of a frame leads to the region that the machine has for it
  pub names : NamesStand (region_of_key k) (named_frames k.frames) es
  -- the first one is the last in the list, where it can be taken off
  pub base_is : map (region_of_key k) (reverse k.base.items) ≡ map Some base
  -- one entry for each region: otherwise a protection would be counted in one of two
  pub differ : KeySlotsDiffer (entry_at k) k.slots
  -- the machine's test whether a region is guarded is a comparison with 0
  pub counted : AreCounted (entry_at k) k.slots es base
  pub pages : HavePages (entry_at k) fills
  pub pending_are : AreStakesPending (entry_at k) k.slots k.round pending
  -- a key in use is of a region with a stake, so its slot cannot have become another region's
  pub staked : AreKeysStaked (entry_at k) k.slots stakes

-- The goroutine has this holder and these own pages. `slots` is the slot of Global. Operations are clauses of the form: whatever the
-- holding showed before, it now shows the holder after. So no operation has to know the record.
abbrev pub IsHoldingOf : (slots : ℕ) → Holding → Holder → List Fill → Type 0
IsHoldingOf slots k h fills = HoldingShows slots k h.environments h.base h.pending h.stakes fills
