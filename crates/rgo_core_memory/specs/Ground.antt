-- What the memory of a table shows of a state of the region machine, and what steps do to it. The image is about this part alone, so a
-- step that changes only frames, names or prints leaves it by an equation.
use Rattle.std.specs.Prelude.{◌≡◌, ℕ, ◌+◌, ◌<◌, true, List, [], ◌∷◌, ◌++◌, length, map, Some, slice_get, slice_set}
use Rattle.std.specs.Prelude.{sum_by}
use Rattle.rgo_sound.specs.Memory.declared.values.Value.{Value}
use Rattle.rgo_sound.specs.Memory.declared.values.Value.TheVariants as value
use Rattle.rgo_sound.specs.Memory.Memory.{Object}
use Rattle.rgo_sound.specs.RegionMachine.Objects.{with_fill}
use Rattle.rgo_sound.specs.RegionMachine.Regions.{RegionInfo, is_live, with_info, with_added_stake, one_fewer, one_page_more, without}
use Rattle.rgo_sound.specs.RegionMachine.States.{Holder, RegionState}
use Rattle.rgo_sound.specs.RegionMachine.declared.regions.Region.{Region}
use Rattle.rgo_sound.specs.RegionMachine.declared.regions.Region.TheVariants.{Global as GlobalRegion, Numbered}
use Rattle.rgo_sound.specs.Stakes.{is_in}
use Rattle.rgo_core_memory.specs.Encoding.{content}

-- a goroutine's stakes, how much of its own pages it has filled, and how many pages it has for a spread object that it makes
pub record Held : Type 0 where
  pub stakes : List ℕ
  pub fills : List (Region × ℕ)
  pub reserved : ℕ

pub record Ground : Type 0 where
  pub heap : List Object
  pub variables : List Value
  -- the region of each object
  pub owners : List Region
  pub regions : List RegionInfo
  pub global_pages : ℕ
  pub held : List Held

abbrev pub held_of : Holder → Held
held_of h = record { stakes = h.stakes; fills = h.fills; reserved = h.reserved }

abbrev pub ground_of : RegionState → Ground
ground_of s = record {
  heap = s.plain.memory.heap;
  variables = s.plain.memory.variables;
  owners = s.owners;
  regions = s.regions;
  global_pages = s.global_pages;
  held = map held_of s.holders;
}

-- object o is this one, and its region is live
pub record IsLiveObject (heap : List Object) (owners : List Region) (regions : List RegionInfo) (o : ℕ) (object : Object)
    (r : Region) : Type 0 where
  pub there : slice_get heap o ≡ Some object
  pub owner : slice_get owners o ≡ Some r
  pub live : is_live regions r ≡ true

-- the pages that were taken
abbrev pub taken_of : Ground → ℕ
taken_of x = x.global_pages + sum_by (λ info. info.pages) x.regions

-- a region that a goroutine may use: Global, or one in which it has a stake
abbrev pub MayUseRegion : Held → Region → Type 0
MayUseRegion h GlobalRegion = Unit {0}
MayUseRegion h (Numbered k) = is_in k h.stakes ≡ true

-- ---- what steps do

abbrev pub with_held : Ground → ℕ → Held → Ground
with_held x g h = record x { held = slice_set x.held g h }

abbrev pub stored : Ground → ℕ → Object → Ground
stored x o object = record x { heap = slice_set x.heap o object }

abbrev pub assigned : Ground → ℕ → Value → Ground
assigned x n v = record x { variables = slice_set x.variables n v }

-- an object is made in a region; n words of the own page are then filled
abbrev pub made_in_page : Ground → ℕ → Held → Region → Object → ℕ → Ground
made_in_page x g h r object n = record x {
  heap = x.heap ++ object ∷ [];
  owners = x.owners ++ r ∷ [];
  held = slice_set x.held g (record h { fills = with_fill h.fills r n });
}

-- the same of a spread object, in the pages that were taken for it
abbrev pub made_apart : Ground → ℕ → Held → Region → Object → Ground
made_apart x g h r object = record x {
  heap = x.heap ++ object ∷ [];
  owners = x.owners ++ r ∷ [];
  held = slice_set x.held g (record h { reserved = 0 });
}

-- a page is taken, after which the goroutine holds this
abbrev pub one_page : Ground → ℕ → Held → Region → Ground
one_page x g h GlobalRegion = record x { global_pages = x.global_pages + 1; held = slice_set x.held g h }
one_page x g h (Numbered k) = record x {
  regions = with_info x.regions k one_page_more;
  held = slice_set x.held g h;
}

-- the page is filled from its beginning
abbrev pub own_page_taken : Ground → ℕ → Held → Region → Ground
own_page_taken x g h r = one_page x g (record h { fills = with_fill h.fills r 0 }) r

-- it is for a spread object
abbrev pub page_reserved : Ground → ℕ → Held → Region → Ground
page_reserved x g h r = one_page x g (record h { reserved = h.reserved + 1 }) r

abbrev pub with_new_region : Ground → ℕ → Held → Ground
with_new_region x g h = record x {
  regions = x.regions ++ record { stakes = 1; pages = 0 } ∷ [];
  held = slice_set x.held g (record h { stakes = length x.regions ∷ h.stakes });
}

abbrev pub region_shared : Ground → ℕ → Ground
region_shared x k = record x { regions = with_info x.regions k with_added_stake }

abbrev pub left : Ground → ℕ → Held → ℕ → Ground
left x g h k = record x {
  regions = with_info x.regions k one_fewer;
  held = slice_set x.held g (record h { stakes = without k h.stakes });
}

-- ---- what region safety guarantees of it

pub record Steady (x : Ground) : Type 0 where
  -- each object has a region
  pub owned : length x.owners ≡ length x.heap
  -- Where a goroutine has a stake, the region is live: by this a goroutine may use its own page without asking anybody.
  pub staked : (g k : ℕ) (h : Held) → slice_get x.held g ≡ Some h → is_in k h.stakes ≡ true
      → is_live x.regions (Numbered k) ≡ true
  -- pointers lead to objects that were made
  pub cells : (o i p : ℕ) (object : Object) → slice_get x.heap o ≡ Some object → content object i ≡ Some (value.Object p)
      → p < length x.heap
  pub variables : (n p : ℕ) → slice_get x.variables n ≡ Some (value.Object p) → p < length x.heap
