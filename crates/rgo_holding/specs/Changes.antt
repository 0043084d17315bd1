-- What calls do to a goroutine's holder and own pages, and what they require of them. The holder is the record's, with slots in
-- place of region numbers, so these are the functions of the region machine.
use Rattle.std.specs.List.{AllByRecursion, list_any}
use Rattle.std.specs.Prelude.{◌≡◌, ◌≢◌, ◌<◌, ◌++◌, ℕ, true, false, List, [], ◌∷◌, Option, Some, None, length, nat_eq, slice_get}
use Rattle.rgo_core_memory.specs.Records.{Fill, page_of}
use Rattle.rgo_sound.specs.RegionMachine.Duties.{guards, with_protection}
use Rattle.rgo_sound.specs.RegionMachine.Regions.{Bindings, bound, same_region, unbind, without}
use Rattle.rgo_sound.specs.RegionMachine.States.{RegionEnvironment, Holder, top_names, with_top}
use Rattle.rgo_sound.specs.RegionMachine.declared.regions.Region.{Region}
use Rattle.rgo_sound.specs.RegionMachine.declared.regions.Region.TheVariants.{Numbered}
use Rattle.rgo_sound.specs.Stakes.{is_in}
use Rattle.rgo_holding.specs.declared.entries.Entry.{Entry}
use Rattle.rgo_holding.specs.declared.holding.Holding.{Holding}
use Rattle.rgo_holding.specs.declared.keys.Key.{Key}
use Rattle.rgo_holding.specs.Holds.{IsHoldingOf, region_of_key}
use Rattle.rgo_holding.specs.Tables.{newest_keys}

-- ---- calls that change neither

abbrev pub KeepsHolding : Holding → Holding → Type 0
KeepsHolding k l = (slots : ℕ) (h : Holder) (fills : List Fill) → IsHoldingOf slots k h fills → IsHoldingOf slots l h fills

-- Each key is that of the same region, or of none. So a caller may keep keys across such a call.
abbrev pub SameRegions : Holding → Holding → Type 0
SameRegions k l = (key : Key) → region_of_key l key ≡ region_of_key k key

-- ---- names

abbrev pub renamed : Holder → (Bindings → Bindings) → Holder
renamed h change = record h { environments = with_top h.environments (change (top_names h.environments)) }

abbrev pub without_name : Holder → (name : ℕ) → Holder
without_name h k = renamed h (λ names. unbind names k)

-- ---- protections

abbrev pub protecting : Holder → Region → Holder
protecting h r = record h { environments = with_protection h.environments r }

abbrev pub top_protections : List RegionEnvironment → List Region
top_protections [] = []
top_protections (e ∷ es) = e.protections

abbrev pub IsProtectedLast : Holder → Region → Type 0
IsProtectedLast h r = list_any (same_region r) (top_protections h.environments) ≡ true

-- ---- stakes

abbrev pub creating : Holder → (name slot : ℕ) → Holder
creating h k p = record h {
  stakes = p ∷ h.stakes;
  environments = with_top h.environments ((k, Numbered p) ∷ unbind (top_names h.environments) k);
}

-- Nothing is known of the slot. Without this a stale page or protection would be taken for the new region's.
pub record IsNewSlot (slots : ℕ) (h : Holder) (fills : List Fill) (slot : ℕ) : Type 0 where
  pub other : slot ≢ slots
  pub unstaked : is_in slot h.stakes ≡ false
  pub unguarded : guards h.base h.environments (Numbered slot) ≡ false
  pub unshared : list_any (nat_eq slot) h.pending ≡ false
  pub no_page : page_of slot fills ≡ None

abbrev pub ending_stake : Holder → (slot : ℕ) → Holder
ending_stake h p = record h { stakes = without p h.stakes }

-- no environment binds a name to it
abbrev pub IsUnboundRegion : Region → List RegionEnvironment → Type 0
IsUnboundRegion r es = AllByRecursion (λ (e : RegionEnvironment). (k : ℕ) → bound e.names k ≢ Some r) es

-- It is neither named nor protected: otherwise a key in a frame would lead to the entry of another region later.
pub record IsUnknown (h : Holder) (slot : ℕ) : Type 0 where
  pub unnamed : IsUnboundRegion (Numbered slot) h.environments
  pub unguarded : guards h.base h.environments (Numbered slot) ≡ false

abbrev pub sharing_stake : Holder → (slot : ℕ) → Holder
sharing_stake h p = record h { pending = p ∷ h.pending }

-- ---- the next region that is created

-- a key that is not in use
abbrev pub IsSpareKey : List Entry → Key → Type 0
IsSpareKey entries key = (e : Entry) × (slice_get entries key.0 ≡ Some e) × (e.used ≡ false)

-- There is a key for it, and a place for its name: so a creation needs no memory.
pub record HoldingHasRoom (k : Holding) (name : ℕ) : Type 0 where
  pub key : Key
  pub next : k.next ≡ Some key
  pub spare : IsSpareKey k.entries.items key
  pub named : name < length (newest_keys k.frames)

-- ---- the base

-- The first region that is protected since the start, and the holder without it. The first one, in the order in which the machine's
-- duties end them.
abbrev pub HoldingEndsBase : Holding → Holding → Option Key → Type 0
HoldingEndsBase k l None = (slots : ℕ) (h : Holder) (fills : List Fill) → IsHoldingOf slots k h fills
    → (h.base ≡ []) × IsHoldingOf slots l h fills
HoldingEndsBase k l (Some key) = (slots : ℕ) (h : Holder) (fills : List Fill) → IsHoldingOf slots k h fills
    → (r : Region) × (rest : List Region) × (region_of_key k key ≡ Some r) × (h.base ≡ r ∷ rest)
    × IsHoldingOf slots l (record h { base = rest }) fills

abbrev pub FirstBase : Holding → Option Key → Type 0
FirstBase k None = (slots : ℕ) (h : Holder) (fills : List Fill) → IsHoldingOf slots k h fills → h.base ≡ []
FirstBase k (Some key) = (slots : ℕ) (h : Holder) (fills : List Fill) → IsHoldingOf slots k h fills
    → (r : Region) × (rest : List Region) × (region_of_key k key ≡ Some r) × (h.base ≡ r ∷ rest)

-- ---- after local steps in a row

-- an environment of a frame that knows no region
pub record KnowsNone (e : RegionEnvironment) : Type 0 where
  pub names : e.names ≡ []
  pub protections : e.protections ≡ []

-- The oldest `kept` environments are as they were. Those that were above them protected nothing; those above them now know no region. This
-- is what the loop guarantees: it stops before any call that passes regions, and before any return with duties that are not local.
pub record EnvironmentsSettle (kept depth : ℕ) (before after : List RegionEnvironment) : Type 0 where
  pub above : List RegionEnvironment
  pub fresh : List RegionEnvironment
  pub stayed : List RegionEnvironment
  pub before_is : before ≡ above ++ stayed
  pub after_is : after ≡ fresh ++ stayed
  pub kept_are : length stayed ≡ kept
  pub depth_is : length after ≡ depth
  pub unguarded : AllByRecursion (λ (e : RegionEnvironment). e.protections ≡ []) above
  pub bare : AllByRecursion KnowsNone fresh
