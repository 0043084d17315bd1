-- What the first duty of a goroutine refers to, by its record. Names and protections that a duty needs are there, because the code is
-- checked and nobody but the goroutine changes them.
use Rattle.std.specs.List.{list_any}
use Rattle.std.specs.Prelude.{◌≡◌, ℕ, true, List, [], ◌∷◌, map, Some, None}
use Rattle.rgo_core.specs.Frames.shown.WordFrames.{WordFrame}
use Rattle.rgo_sound.specs.RegionMachine.Regions.{bound, same_region}
use Rattle.rgo_sound.specs.RegionMachine.States.{Create, Duty, EndBase, RegionEnvironment, Protect, Remove, Share, Unprotect}
use Rattle.rgo_sound.specs.RegionMachine.declared.regions.Region.{Region}
use Rattle.rgo_core.specs.Core.{Setup}
use Rattle.rgo_core.specs.Records.{Record}
use Rattle.rgo_core_facts.specs.ControlFrames.{OfRecords}
use Rattle.rgo_core_facts.specs.ControlRegions.{IsStaked}

-- the goroutine has a newest frame, with this environment
pub record HasNewest (c : Record) (e : RegionEnvironment) : Type 0 where
  pub w : WordFrame
  pub ws : List WordFrame
  pub frames : c.frame.frames ≡ w ∷ ws
  pub es : List RegionEnvironment
  pub environments : c.frame.holder.environments ≡ e ∷ es

-- in the newest frame the name is bound to a region
pub record NameIsBound (T : Setup) (c : Record) (k : ℕ) : Type 0 where
  pub e : RegionEnvironment
  pub newest : HasNewest c e
  pub region : Region
  pub bound : bound e.names k ≡ Some region
  pub staked : IsStaked T c region

-- In the newest frame the name is not bound: a creation would otherwise lose the region that it names.
pub record IsUnnamed (c : Record) (k : ℕ) : Type 0 where
  pub e : RegionEnvironment
  pub newest : HasNewest c e
  pub unbound : bound e.names k ≡ None

-- the name is bound, and the frame's call protects the region
pub record IsProtected (T : Setup) (c : Record) (k : ℕ) : Type 0 where
  pub named : NameIsBound T c k
  pub protected : list_any (same_region named.region) named.e.protections ≡ true

-- The name is bound, and no protection of the frame is left: removals come after the ends of protections.
pub record IsUnprotected (T : Setup) (c : Record) (k : ℕ) : Type 0 where
  pub named : NameIsBound T c k
  pub none : named.e.protections ≡ []

-- the goroutine has returned, and has protected the region since its start
pub record IsOfBase (T : Setup) (c : Record) (r : Region) : Type 0 where
  pub frames : c.frame.frames ≡ []
  pub environments : c.frame.holder.environments ≡ []
  pub base : list_any (same_region r) c.frame.holder.base ≡ true
  pub staked : IsStaked T c r

-- the premise under which each duty can be done
abbrev pub CanAttend : Setup → Record → Duty → Type 0
CanAttend T c (Create k) = IsUnnamed c k
CanAttend T c (Share k) = NameIsBound T c k
CanAttend T c (Protect k) = NameIsBound T c k
CanAttend T c (Unprotect k) = IsProtected T c k
CanAttend T c (Remove k) = IsUnprotected T c k
CanAttend T c (EndBase r) = IsOfBase T c r

abbrev pub DutiesKnown : Type 0
DutiesKnown = OfRecords (λ T c. (d : Duty) (ds : List Duty) → c.frame.holder.duties ≡ d ∷ ds → CanAttend T c d)

-- A goroutine that has returned owes the ends of its base, and nothing else. So when its duties are done, it has no stake.
abbrev pub DutiesAtEnd : Type 0
DutiesAtEnd = OfRecords (λ T c. c.frame.frames ≡ [] → c.frame.holder.duties ≡ map EndBase c.frame.holder.base)
