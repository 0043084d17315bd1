-- The regions that a goroutine knows, each by its key: its slot, the goroutine's own page there, and how often it is protected. The
-- definitions are about any function from keys to entries, since an entry that is not in use counts as none.
use Rattle.std.specs.List.{list_any}
use Rattle.std.specs.Option.{option_map}
use Rattle.std.specs.Prelude.{◌≡◌, ◌≢◌, ◌<◌, ◌≤◌, ◌+◌, ℕ, true, List, [], ◌∷◌, Option, Some, None, if◌then◌else◌, nat_eq, slice_get}
use Rattle.rgo_core_memory.specs.Records.{Fill, page_of}
use Rattle.rgo_sound.specs.RegionMachine.States.{RegionEnvironment}
use Rattle.rgo_sound.specs.RegionMachine.declared.regions.Region.{Region}
use Rattle.rgo_sound.specs.RegionMachine.declared.regions.Region.TheVariants.{Global as GlobalRegion, Numbered}
use Rattle.rgo_sound.specs.Invariant.{times}
use Rattle.rgo_sound.specs.Stakes.{is_in}
use Rattle.rgo_holding.specs.declared.entries.Entry.{Entry}
use Rattle.rgo_holding.specs.declared.entries.Page.{Page}
use Rattle.rgo_holding.specs.declared.keys.Key.{Key}

-- ---- entries

abbrev pub if_used : Option Entry → Option Entry
if_used None = None
if_used (Some e) = if e.used then Some e else None

-- the entry of a key that is in use
abbrev pub entry_of : List Entry → Key → Option Entry
entry_of entries key = if_used (slice_get entries key.0)

-- the key of Global
abbrev pub global_key : Key
global_key = record { 0 = 0 }

-- ---- slots

-- Global has the slot after those of the others
abbrev pub region_of : (slots slot : ℕ) → Region
region_of slots s = if nat_eq s slots then GlobalRegion else Numbered s

abbrev pub slot_or_global : (slots : ℕ) → Region → ℕ
slot_or_global slots GlobalRegion = slots
slot_or_global slots (Numbered p) = p

abbrev pub entry_region : (slots : ℕ) → Entry → Region
entry_region slots e = region_of slots e.slot

-- ---- what the machine counts

-- the protections that it has in all frames and since the start
abbrev pub protections_of : Region → List RegionEnvironment → List Region → ℕ
protections_of r [] base = times r base
protections_of r (e ∷ es) base = times r e.protections + protections_of r es base

abbrev pub own_page : (slot : ℕ) → Page → Fill
own_page s p = record { slot = s; page = p.page; fill = p.fill }

-- ---- entries have what the machine knows

module _ (entry : Key → Option Entry) where
  abbrev pub slot_in : Key → Option ℕ
  slot_in key = option_map (λ (e : Entry). e.slot) (entry key)

  -- No two keys have the same slot, and Global has its own key. So a change of one entry is a change of one region.
  pub record KeySlotsDiffer (slots : ℕ) : Type 0 where
    pub unique : (a b : Key) (s : ℕ) → slot_in a ≡ Some s → slot_in b ≡ Some s → a ≡ b
    pub global : slot_in global_key ≡ Some slots

  abbrev pub AreCounted : (slots : ℕ) → List RegionEnvironment → (base : List Region) → Type 0
  AreCounted slots es base =
      (a : Key) (e : Entry) → entry a ≡ Some e → e.protections ≡ protections_of (region_of slots e.slot) es base

  abbrev pub HavePages : List Fill → Type 0
  HavePages fills = (a : Key) (e : Entry) → entry a ≡ Some e → option_map (own_page e.slot) e.page ≡ page_of e.slot fills

  -- A stake is pending if it was taken in this round. A round ends when a goroutine is started. `rounds` excludes that an entry has a
  -- number of a later round, which would become pending by itself.
  pub record AreStakesPending (slots round : ℕ) (pending : List ℕ) : Type 0 where
    pub shared : (a : Key) (e : Entry) → entry a ≡ Some e → e.slot ≢ slots
        → nat_eq e.shared round ≡ list_any (nat_eq e.slot) pending
    pub rounds : (a : Key) (e : Entry) → entry a ≡ Some e → e.shared ≤ round
    pub positive : 0 < round

  abbrev pub AreKeysStaked : (slots : ℕ) → (stakes : List ℕ) → Type 0
  AreKeysStaked slots stakes =
      (a : Key) (e : Entry) → entry a ≡ Some e → e.slot ≢ slots → is_in e.slot stakes ≡ true
