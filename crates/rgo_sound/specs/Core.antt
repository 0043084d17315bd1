-- What a goroutine has of the regions, whatever its code: the part of the invariant that counts names. Its steps are few (a name is
-- bound or unbound, a frame comes or goes, a protection begins or ends), so it is kept for each of them once, in
-- proofs/names/Core.antt, and not for each kind of instruction.
use Rattle.std.specs.List.{list_any}
use Rattle.std.specs.Prelude.{List, None, Some, [], false, true, ℕ, ◌∷◌, ◌≡◌, ◌≤◌}
use Rattle.rgo_region_machine.specs.Duties.{guards}
use Rattle.rgo_region_machine.specs.Regions.{Bindings, bound, same_region}
use Rattle.rgo_region_machine.specs.States.{RegionEnvironment}
use Rattle.rgo_region_machine.specs.declared.regions.Region.{Region}
use Rattle.rgo_region_machine.specs.declared.regions.Region.TheVariants.{Numbered}
use Rattle.rgo_sound.specs.Holding.{held}
use Rattle.rgo_sound.specs.Stakes.{is_in}
use Rattle.rgo_tac.specs.declared.regions.Class.TheVariants.{Name}

-- each name has at most one entry, so that to unbind it and to count it agree
abbrev pub AreUnique : Bindings → Type 0
AreUnique [] = Unit {0}
AreUnique (b ∷ bs) = (bound bs b.0 ≡ None) × AreUnique bs

abbrev pub AreUniqueIn : List RegionEnvironment → Type 0
AreUniqueIn [] = Unit {0}
AreUniqueIn (f ∷ fs) = AreUnique f.names × AreUniqueIn fs

-- the goroutine has a stake in each region that a name denotes, and in each that is protected
abbrev pub NamesStaked : List ℕ → Bindings → Type 0
NamesStaked stakes names = (k r : ℕ) → bound names k ≡ Some (Numbered r) → is_in r stakes ≡ true

abbrev pub RegionsStaked : List ℕ → List Region → Type 0
RegionsStaked stakes regions = (r : ℕ) → list_any (same_region (Numbered r)) regions ≡ true → is_in r stakes ≡ true

abbrev pub AreStaked : List ℕ → List RegionEnvironment → Type 0
AreStaked stakes [] = Unit {0}
AreStaked stakes (f ∷ fs) = NamesStaked stakes f.names × RegionsStaked stakes f.protections × AreStaked stakes fs

-- Up to the lowest frame that protects r, or up to the newest frame if none does, there is one holding name for it. The frames above
-- a protection are not counted: their removals of r do nothing, and they have all returned when the protection ends. So the count
-- that matters then is that of the frames below. If the base protects r, nothing is counted.
abbrev pub IsHeldOnce : ℕ → List Region → List RegionEnvironment → Type 0
IsHeldOnce r base [] = list_any (same_region (Numbered r)) base ≡ true
IsHeldOnce r base (f ∷ fs) = (guards base fs (Numbered r) ≡ false → held r (f ∷ fs) ≡ 1)
    × (guards base fs (Numbered r) ≡ true → IsHeldOnce r base fs)

-- What is lent for a result is held below, or protected there. The name of the result is not a holding name, so without this a callee
-- could remove the region that it is to put its result into.
abbrev pub IsLentBelow : List Region → RegionEnvironment → List RegionEnvironment → Type 0
IsLentBelow base f fs = (k r : ℕ) → f.lent ≡ Name k → bound f.names k ≡ Some (Numbered r) → guards base fs (Numbered r)
    ≡ false → 1 ≤ held r fs

abbrev pub AreLentBelow : List Region → List RegionEnvironment → Type 0
AreLentBelow base [] = Unit {0}
AreLentBelow base (f ∷ fs) = IsLentBelow base f fs × AreLentBelow base fs

-- the part of the invariant that counts names; `lent` gives each name of a result a holding name in a frame below
pub record NameInvariant (stakes : List ℕ) (base : List Region) (environments : List RegionEnvironment) : Type 0 where
  pub unique : AreUniqueIn environments
  pub staked : AreStaked stakes environments
  pub based : RegionsStaked stakes base
  pub once : (r : ℕ) → is_in r stakes ≡ true → IsHeldOnce r base environments
  pub lent : AreLentBelow base environments
