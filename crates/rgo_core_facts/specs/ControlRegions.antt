-- Which regions a goroutine knows, by its record. Each is Global, or has a slot of the table in which the goroutine has a stake. Only the
-- goroutine itself ends its stakes, so what it knows stays right whatever others do.
use Rattle.std.specs.List.{list_any}
use Rattle.std.specs.Prelude.{◌≡◌, ◌≢◌, ◌⊎◌, ◌<◌, ℕ, true, false, List, [], ◌∷◌, length, Some, slice_get}
use Rattle.rgo_sound.specs.Code.Code.{Call, CodeOp, Go}
use Rattle.rgo_sound.specs.Code.NameRules.{protected_names}
use Rattle.rgo_core.specs.Memory.Records.{Fill, Within}
use Rattle.rgo_sound.specs.RegionMachine.Regions.{bound, class_region, same_region}
use Rattle.rgo_sound.specs.RegionMachine.States.{RegionEnvironment, Holder, top_names}
use Rattle.rgo_sound.specs.RegionMachine.declared.regions.Region.{Region}
use Rattle.rgo_sound.specs.RegionMachine.declared.regions.Region.TheVariants.{Global as GlobalRegion, Numbered}
use Rattle.rgo_sound.specs.Core.{AreUniqueIn}
use Rattle.rgo_sound.specs.Stakes.{is_in, times_in}
use Rattle.rgo_sound.specs.Tac.declared.regions.Class.{Class}
use Rattle.rgo_core.specs.Core.{Setup}
use Rattle.rgo_core.specs.Next.{IsAtOp}
use Rattle.rgo_core.specs.Records.{Record}
use Rattle.rgo_core_steps.specs.Counts.{ending}
use Rattle.rgo_core_facts.specs.ControlFrames.{OfRecords}

-- ---- what a goroutine knows

-- the region is Global, or that of a slot in which the goroutine has a stake
abbrev pub IsStaked : Setup → Record → Region → Type 0
IsStaked T c GlobalRegion = Unit {0}
IsStaked T c (Numbered p) = (is_in p c.frame.holder.stakes ≡ true) × (p < T.sizes.regions)

-- this is the environment of one of its frames
abbrev pub HasEnvironment : Record → RegionEnvironment → Type 0
HasEnvironment c e = (i : ℕ) × (slice_get c.frame.holder.environments i ≡ Some e)

pub record KnowsRegions (T : Setup) (c : Record) : Type 0 where
  -- Global's slot comes after these, so no stake can be taken for Global's
  pub slots : (p : ℕ) → is_in p c.frame.holder.stakes ≡ true → p < T.sizes.regions
  -- an environment for each frame; each binds a name once
  pub as_many : length c.frame.holder.environments ≡ length c.frame.frames
  pub unique : AreUniqueIn c.frame.holder.environments
  -- What it knows of any region, it knows of one in which it has a stake. This is what lets code keep keys in place of slots.
  pub names : (e : RegionEnvironment) (k : ℕ) (r : Region) → HasEnvironment c e → bound e.names k ≡ Some r → IsStaked T c r
  pub protections : (e : RegionEnvironment) (r : Region) → HasEnvironment c e → list_any (same_region r) e.protections ≡ true
      → IsStaked T c r
  pub base : (r : Region) → list_any (same_region r) c.frame.holder.base ≡ true → IsStaked T c r
  pub pending : (p : ℕ) → 0 < times_in p c.frame.holder.pending → IsStaked T c (Numbered p)
  -- an own page is given up with the stake: after that the page may be returned and claimed by others
  pub pages : (f : Fill) → Within f c.memory.fills → (f.slot ≡ T.sizes.regions) ⊎ IsStaked T c (Numbered f.slot)

abbrev pub RegionsKnown : Type 0
RegionsKnown = OfRecords KnowsRegions

-- the same of the names of the newest frame
abbrev pub NewestNames : Type 0
NewestNames = OfRecords (λ T c. (k : ℕ) (r : Region) → bound (top_names c.frame.holder.environments) k ≡ Some r → IsStaked T c r)

-- ---- after the end of a stake

-- Nothing is left of the slot: no name, no protection, no stake for a child and no own page. The slot may be used again for another region,
-- of which anything left over would be wrong.
pub record HasNothingOf (c : Record) (slot : ℕ) : Type 0 where
  pub names : (e : RegionEnvironment) (k : ℕ) → HasEnvironment c e → bound e.names k ≢ Some (Numbered slot)
  pub protections : (e : RegionEnvironment) → HasEnvironment c e → list_any (same_region (Numbered slot)) e.protections ≡ false
  pub base : list_any (same_region (Numbered slot)) c.frame.holder.base ≡ false
  pub pending : times_in slot c.frame.holder.pending ≡ 0
  pub pages : (f : Fill) → Within f c.memory.fills → f.slot ≢ slot

abbrev pub NothingKept : Type 0
NothingKept = OfRecords (λ T c. (slot : ℕ) → slot < T.sizes.regions → is_in slot c.frame.holder.stakes ≡ false → HasNothingOf c slot)

-- the duty that ends a stake leaves none in that slot
abbrev pub StakeEnds : Type 0
StakeEnds = (c : Record) (slot : ℕ) (k : Holder) → ending c ≡ Some (slot, k) → is_in slot k.stakes ≡ false

-- a goroutine that has returned and has no duty has no stake: it has ended all of them itself
abbrev pub NoStakeAtEnd : Type 0
NoStakeAtEnd = OfRecords (λ T c. c.frame.frames ≡ [] → c.frame.holder.duties ≡ []
    → (c.frame.holder.stakes ≡ []) × (c.frame.holder.environments ≡ []) × (c.frame.holder.base ≡ []))

-- ---- what a call or a start passes

-- each of these classes has a region
abbrev pub HaveRegions : Setup → Record → List Class → Type 0
HaveRegions T c passes = (i : ℕ) (class : Class) → slice_get passes i ≡ Some class
    → (r : Region) × (class_region (top_names c.frame.holder.environments) class ≡ Some r) × IsStaked T c r

abbrev pub CallPassesRegions : Type 0
CallPassesRegions = OfRecords (λ T c. (to : _) (n : ℕ) (from : List ℕ) (passes : List Class) (protects removes : List ℕ)
    → IsAtOp T.code c (Call to n from passes protects removes) → HaveRegions T c passes)

abbrev pub StartPassesRegions : Type 0
StartPassesRegions = OfRecords (λ T c. (n : ℕ) (from : List ℕ) (passes : List Class) (removes : List ℕ)
    → IsAtOp T.code c (Go n from passes removes) → HaveRegions T c passes)

-- At a start each region that it passes is Global, or one in which a stake was taken for the child.
abbrev pub StartSharesRegions : Type 0
StartSharesRegions = OfRecords (λ T c. (n : ℕ) (from : List ℕ) (passes : List Class) (removes : List ℕ)
    → IsAtOp T.code c (Go n from passes removes) → (i : ℕ) (class : Class) (p : ℕ) → slice_get passes i ≡ Some class
    → class_region (top_names c.frame.holder.environments) class ≡ Some (Numbered p) → is_in p c.frame.holder.pending ≡ true)

-- At an instruction that protects nothing the newest frame has no protections.
abbrev pub NewestUnprotected : Type 0
NewestUnprotected = OfRecords (λ T c. (op : CodeOp) → IsAtOp T.code c op → protected_names op ≡ [] → (e : RegionEnvironment) (es : List RegionEnvironment)
    → c.frame.holder.environments ≡ e ∷ es → e.protections ≡ [])
