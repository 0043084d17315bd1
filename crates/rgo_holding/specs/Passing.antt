-- What a call or a start passes: first by keys, as the code goes over its lists, then by regions, as the machine does.
use Rattle.std.specs.Prelude.{◌≡◌, ℕ, true, List, [], ◌∷◌, Option, Some, None, if◌then◌else◌, length, map, nat_eq}
use Rattle.rgo_sound.specs.RegionMachine.Owed.{given_names, passed, passed_regions, twice}
use Rattle.rgo_sound.specs.RegionMachine.Regions.{without_all}
use Rattle.rgo_sound.specs.RegionMachine.States.{Holder, environment_of, top_names, with_top}
use Rattle.rgo_sound.specs.RegionMachine.declared.regions.Region.{Region}
use Rattle.rgo_sound.specs.RegionMachine.declared.regions.Region.TheVariants.{Global as GlobalRegion, Numbered}
use Rattle.rgo_sound.specs.Stakes.{is_in}
use Rattle.rgo_sound.specs.Tac.declared.regions.Class.{Class}
use Rattle.rgo_sound.specs.Tac.declared.regions.Class.TheVariants.{NoClass, Global, Name}
use Rattle.rgo_holding.specs.declared.holding.Holding.{Holding}
use Rattle.rgo_holding.specs.declared.keys.Key.{Key}
use Rattle.rgo_holding.specs.Known.{global_key}
use Rattle.rgo_holding.specs.Holds.{HoldingShows}
use Rattle.rgo_holding.specs.Naming.{HasFrameRoom}
use Rattle.rgo_holding.specs.Tables.{Keys, key_in, newest_keys}

-- ---- keys

-- the key of a class
abbrev pub class_key : Keys → Class → Option Key
class_key keys NoClass = None
class_key keys Global = Some global_key
class_key keys (Name k) = key_in keys k

-- the first if there is one, otherwise the second
abbrev pub or_else : {A : Type 0} → Option A → Option A → Option A
or_else (Some a) other = Some a
or_else None other = other

-- the key of a name after this one got the key that is passed for it, unless it had one
abbrev pub first_key : Keys → (name : ℕ) → (passed : Option Key) → (k : ℕ) → Option Key
first_key keys name passed k = or_else (key_in keys k) (if nat_eq name k then passed else None)

-- the key of a name after this one got that key
abbrev pub key_with : Keys → (name : ℕ) → Key → (k : ℕ) → Option Key
key_with keys name key k = if nat_eq name k then Some key else key_in keys k

-- the keys of a function's names when these keys are passed to it: the first of two equal names counts
abbrev pub key_for : (formals : List Class) → (passed : List (Option Key)) → (k : ℕ) → Option Key
key_for (Name n ∷ formals) (Some key ∷ keys) k = if nat_eq n k then Some key else key_for formals keys k
key_for (Name n ∷ formals) (None ∷ keys) k = key_for formals keys k
key_for (NoClass ∷ formals) (key ∷ keys) k = key_for formals keys k
key_for (Global ∷ formals) (key ∷ keys) k = key_for formals keys k
key_for (formal ∷ formals) [] k = None
key_for [] keys k = None

-- ---- a call

-- the holder after a call of a function with these region parameters and this class of result
abbrev pub calling : Holder → (result : Class) → (formals passes : List Class) → (protects : List ℕ) → Holder
calling h result formals passes protects = record h {
  environments =
      environment_of result (passed formals (passed_regions (top_names h.environments) passes))
      ∷ with_top h.environments
      (without_all (top_names h.environments) (given_names result formals passes protects));
}

-- The names of a callee are known, and there is memory for them. They are those of the newest frame at this moment, so nothing may
-- change between preparing and entering.
pub record IsPrepared (k : Holding) (formals passes : List Class) : Type 0 where
  pub keys : (n : ℕ) → key_in k.callee.items n ≡ key_for formals (map (class_key (newest_keys k.frames)) passes) n
  pub room : HasFrameRoom k.frames (length k.callee.items)

-- ---- a start

-- Each of these regions is Global or pending: the child's stakes are the pending ones, and it must have one in all that it is given.
abbrev pub AreRegionsPassed : (pending : List ℕ) → List (Option Region) → Type 0
AreRegionsPassed pending [] = Unit {0}
AreRegionsPassed pending (None ∷ given) = AreRegionsPassed pending given
AreRegionsPassed pending (Some GlobalRegion ∷ given) = AreRegionsPassed pending given
AreRegionsPassed pending (Some (Numbered p) ∷ given) = (is_in p pending ≡ true) × AreRegionsPassed pending given

-- the goroutine that a start with these regions makes: the pending stakes are its own
abbrev pub ChildHoldingBegins : (slots : ℕ) → Holding → (pending : List ℕ) → (formals : List Class) → List (Option Region) → Type 0
ChildHoldingBegins slots k pending formals given =
    (result : Class) → HoldingShows slots k (environment_of result (passed formals given) ∷ []) (twice given) [] pending []
