-- What the code keeps of a goroutine's regions. Holders are compared by what can be asked of them (`bound_in`, `protections_in`,
-- `fill_in`), and not by their vectors and maps, of which several show the same.
use Rattle.std.specs.Prelude.{◌≡◌, ℕ, ◌+◌, ◌-◌, Bool, true, false, List, [], ◌∷◌, map, reverse, Option, Some, None}
use Rattle.std.specs.Prelude.{nat_eq, slice_get, if◌then◌else◌, Vec}
use Rattle.std.specs.HashMap.{get}
use Rattle.rgo_region_machine.specs.declared.regions.Region.{Region}
use Rattle.rgo_region_machine.specs.declared.regions.Region.TheVariants.{Global as GlobalRegion, Numbered}
use Rattle.rgo_region_machine.specs.Objects.{fill_of}
use Rattle.rgo_region_machine.specs.Regions.{same_region, bound}
use Rattle.rgo_region_machine.specs.States as spec
use Rattle.rgo_region_machine.specs.States.{RegionEnvironment, NoOffer}
use Rattle.rgo_sound.specs.Stakes.{one_when, is_in}
use Rattle.rgo_region_interpreter.specs.declared.holders.Holder.{Holder}

-- ---- names

-- the regions that the names of a frame are bound to, by the numbers of the names
abbrev pub FrameNames : Type 0
FrameNames = List (Option Region)

abbrev pub or_unbound : Option (Option Region) → Option Region
or_unbound None = None
or_unbound (Some region) = region

-- what a name is bound to
abbrev pub bound_in : FrameNames → ℕ → Option Region
bound_in names k = or_unbound (slice_get names k)

-- the same without this name
abbrev pub bound_without : FrameNames → (name k : ℕ) → Option Region
bound_without names name k = if nat_eq name k then None else bound_in names k

-- the same with this name bound to a region
abbrev pub bound_with : FrameNames → (name : ℕ) → Region → (k : ℕ) → Option Region
bound_with names name region k = if nat_eq name k then Some region else bound_in names k

-- the names of each frame, the newest first
abbrev pub frame_names_of : Holder → List FrameNames
frame_names_of c = reverse (map (λ (v : Vec (Option Region) _). v.items) c.frames.items)

abbrev pub newest_frame_names : List FrameNames → FrameNames
newest_frame_names [] = []
newest_frame_names (names ∷ frames) = names

abbrev pub region_in : Holder → ℕ → Option Region
region_in c k = bound_in (newest_frame_names (frame_names_of c)) k

-- ---- protections and fills

abbrev pub count_in : Option ℕ → ℕ
count_in None = 0
count_in (Some n) = n

abbrev pub protections_in : Holder → ℕ → ℕ
protections_in c r = count_in (get nat_eq c.protections r)

abbrev pub fill_in : Holder → Region → Option ℕ
fill_in c GlobalRegion = c.global_fill
fill_in c (Numbered r) = get nat_eq c.fills r

-- ---- what changes, and what stays

abbrev pub SameProtections : Holder → Holder → Type 0
SameProtections c d = (r : ℕ) → protections_in d r ≡ protections_in c r

abbrev pub SameFills : Holder → Holder → Type 0
SameFills c d = (region : Region) → fill_in d region ≡ fill_in c region

-- all but the names stays
pub record SameElse (c d : Holder) : Type 0 where
  pub protections : SameProtections c d
  pub fills : SameFills c d
  pub base : d.base.items ≡ c.base.items
  pub reserved : d.reserved ≡ c.reserved
  pub done : d.done ≡ c.done

abbrev pub Same : Holder → Holder → Type 0
Same c d = (frame_names_of d ≡ frame_names_of c) × SameElse c d

-- all but the protections stays
pub record SameButProtections (c d : Holder) : Type 0 where
  pub names : frame_names_of d ≡ frame_names_of c
  pub fills : SameFills c d
  pub base : d.base.items ≡ c.base.items
  pub reserved : d.reserved ≡ c.reserved
  pub done : d.done ≡ c.done

-- the newest frame has other names; with no frame nothing changed
pub record Renames (c d : Holder) (change : FrameNames → ℕ → Option Region) : Type 0 where
  pub renamed : (names : FrameNames) (frames : List FrameNames) → frame_names_of c ≡ names ∷ frames
      → (others : FrameNames) × (frame_names_of d ≡ others ∷ frames) × ((k : ℕ) → bound_in others k ≡ change names k)
  pub kept : SameElse c d

abbrev pub Binds : Holder → Holder → ℕ → Region → Type 0
Binds c d name region = Renames c d (λ names k. bound_with names name region k)

abbrev pub Unbinds : Holder → Holder → ℕ → Type 0
Unbinds c d name = Renames c d (λ names k. bound_without names name k)

abbrev pub HolderEnters : Holder → Holder → FrameNames → Type 0
HolderEnters c d names = (frame_names_of d ≡ names ∷ frame_names_of c) × SameElse c d

abbrev pub HolderReturns : Holder → Holder → Type 0
HolderReturns c d = ((names : FrameNames) (frames : List FrameNames) → frame_names_of c ≡ names ∷ frames → frame_names_of d ≡ frames)
    × SameElse c d

abbrev pub is_region_number : Region → ℕ → Bool
is_region_number GlobalRegion r = false
is_region_number (Numbered q) r = nat_eq q r

abbrev pub HolderProtects : Holder → Holder → Region → Type 0
HolderProtects c d region = ((r : ℕ) → protections_in d r ≡ protections_in c r + one_when (is_region_number region r)) × SameButProtections c d

abbrev pub Unprotects : Holder → Holder → Region → Type 0
Unprotects c d region = ((r : ℕ) → protections_in d r ≡ protections_in c r - one_when (is_region_number region r)) × SameButProtections c d

-- all but the fills stays
pub record SameGuards (c d : Holder) : Type 0 where
  pub names : frame_names_of d ≡ frame_names_of c
  pub protections : SameProtections c d
  pub base : d.base.items ≡ c.base.items
  pub reserved : d.reserved ≡ c.reserved
  pub done : d.done ≡ c.done

abbrev pub Fills : Holder → Holder → Region → ℕ → Type 0
Fills c d region used =
    ((r : Region) → fill_in d r ≡ (if same_region region r then Some used else fill_in c r)) × SameGuards c d

-- this many pages are reserved, and nothing else is changed
abbrev pub Reserves : Holder → Holder → ℕ → Type 0
Reserves c d n = d ≡ record c { reserved = n }

abbrev pub HolderLeaves : Holder → Holder → ℕ → Type 0
HolderLeaves c d q =
    ((r : Region) → fill_in d r ≡ (if same_region (Numbered q) r then None else fill_in c r)) × SameGuards c d

-- how often r is in a list
abbrev pub times_among : ℕ → List ℕ → ℕ
times_among r [] = 0
times_among r (q ∷ qs) = one_when (nat_eq q r) + times_among r qs

pub record HolderBegins (c : Holder) (names : FrameNames) (base : List ℕ) : Type 0 where
  pub frames : frame_names_of c ≡ names ∷ []
  -- each region is once in the base of a goroutine
  pub protections : (r : ℕ) → protections_in c r ≡ (if nat_eq (times_among r base) 0 then 0 else 1)
  pub base_is : c.base.items ≡ base
  pub fills : (region : Region) → fill_in c region ≡ None
  pub reserved : c.reserved ≡ 0
  pub done : c.done ≡ 0

-- ---- what it shows of the machine's holder

abbrev pub times_region : Region → List Region → ℕ
times_region r [] = 0
times_region r (s ∷ ss) = one_when (same_region r s) + times_region r ss

abbrev pub protection_count : Region → List RegionEnvironment → List Region → ℕ
protection_count r [] base = times_region r base
protection_count r (e ∷ es) base = times_region r e.protections + protection_count r es base

-- the names of the code's frames are bound to what those of the machine's environments are bound to
abbrev pub SameBindings : List FrameNames → List RegionEnvironment → Type 0
SameBindings [] [] = Unit {0}
SameBindings (names ∷ frames) (e ∷ es) = ((k : ℕ) → bound_in names k ≡ bound e.names k) × SameBindings frames es
SameBindings _ _ = ⊥

-- At each moment between calls: a goroutine has no offer, since an offer is made, taken and acknowledged within one call. Fills are
-- compared only in regions with a stake; in others the machine keeps what the code forgets.
pub record HolderShows (c : Holder) (h : spec.Holder) : Type 0 where
  pub names : SameBindings (frame_names_of c) h.environments
  pub protections : (r : ℕ) → protections_in c r ≡ protection_count (Numbered r) h.environments h.base
  pub base : map Numbered c.base.items ≡ h.base
  pub fills : (r : ℕ) → is_in r h.stakes ≡ true → fill_in c (Numbered r) ≡ fill_of h.fills (Numbered r)
  pub global_fill : c.global_fill ≡ fill_of h.fills GlobalRegion
  pub reserved : c.reserved ≡ h.reserved
  pub no_offer : h.offer ≡ NoOffer

abbrev pub HolderEndsBase : Holder → Holder → Option ℕ → Type 0
HolderEndsBase c d None = (c.base.items ≡ []) × (d ≡ c)
HolderEndsBase c d (Some q) =
    (c.base.items ≡ q ∷ d.base.items)
    × ((r : ℕ) → protections_in d r ≡ protections_in c r - one_when (nat_eq q r))
    × (frame_names_of d ≡ frame_names_of c) × SameFills c d × (d.reserved ≡ c.reserved) × (d.done ≡ c.done)
