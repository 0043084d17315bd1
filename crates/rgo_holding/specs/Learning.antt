-- How a goroutine that is about to start comes to know the regions that it is given. The loop over them keeps `Tracks`, from which it
-- follows that a region given twice gets one key.
use Rattle.std.specs.List.{AllByRecursion}
use Rattle.std.specs.Option.{option_map}
use Rattle.std.specs.Prelude.{◌≡◌, ◌≢◌, ◌⊎◌, ℕ, true, List, [], ◌∷◌, Option, Some, None, map}
use Rattle.rgo_sound.specs.RegionMachine.States.{RegionEnvironment}
use Rattle.rgo_sound.specs.RegionMachine.declared.regions.Region.{Region}
use Rattle.rgo_sound.specs.RegionMachine.declared.regions.Region.TheVariants.{Global as GlobalRegion, Numbered}
use Rattle.rgo_sound.specs.Stakes.{is_in}
use Rattle.rgo_holding.specs.declared.entries.Entry.{Entry}
use Rattle.rgo_holding.specs.declared.holding.Holding.{Holding}
use Rattle.rgo_holding.specs.declared.keys.Key.{Key}
use Rattle.rgo_holding.specs.Holds.{HoldingShows, entry_at, region_of_key}
use Rattle.rgo_holding.specs.Known.{slot_in}

-- `known` has the keys of all its regions but Global, by their slots
pub record Tracks (k : Holding) (known : ℕ → Option Key) : Type 0 where
  pub keys : (s : ℕ) (a : Key) → known s ≡ Some a → slot_in (entry_at k) a ≡ Some s
  pub entries : (a : Key) (x : Entry) → entry_at k a ≡ Some x → (x.slot ≡ k.slots) ⊎ (known x.slot ≡ Some a)

-- each key that was in use is still that of the same region
abbrev pub StillOf : Holding → Holding → Type 0
StillOf k l = (key : Key) (r : Region) → region_of_key k key ≡ Some r → region_of_key l key ≡ Some r

-- each of these slots is known, and is not that of Global
abbrev pub SlotsKnown : (slots : ℕ) → (known : ℕ → Option Key) → List ℕ → Type 0
SlotsKnown slots known ps = AllByRecursion (λ p. (p ≢ slots) × (known p ≢ None)) ps

-- Before it has run, a goroutine has one frame without names. Its class of result does not matter, so this holds for any such frame.
abbrev pub ShowsFresh : (slots : ℕ) → Holding → (base : List Region) → (stakes : List ℕ) → Type 0
ShowsFresh slots k base stakes = (e : RegionEnvironment) → e.names ≡ [] → e.protections ≡ [] → HoldingShows slots k (e ∷ []) base [] stakes []

-- the goroutine may be given this: it has a stake in it, or it is Global, or no region at all
abbrev pub MayBeGiven : (slots : ℕ) → (stakes : List ℕ) → Option Region → Type 0
MayBeGiven slots stakes None = Unit {0}
MayBeGiven slots stakes (Some GlobalRegion) = Unit {0}
MayBeGiven slots stakes (Some (Numbered p)) = (p ≢ slots) × (is_in p stakes ≡ true)

abbrev pub AreGiven : (slots : ℕ) → (stakes : List ℕ) → List (Option Region) → Type 0
AreGiven slots stakes given = AllByRecursion (MayBeGiven slots stakes) given

-- it knows all that it is given, by these keys
pub record Learned
    (slots : ℕ) (stakes : List ℕ) (k : Holding) (known : ℕ → Option Key) (keys : List (Option Key)) (given : List (Option Region))
    : Type 0 where
  pub tracks : Tracks k known
  pub shows : ShowsFresh slots k [] stakes
  pub keys_are : map (option_map (region_of_key k)) keys ≡ map (option_map Some) given
