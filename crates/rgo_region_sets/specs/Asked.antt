-- What the rules on creations, protections and removals ask for, of the instruction of a number.
use Rattle.std.specs.Prelude.{◌≡◌, ◌⊎◌, ◌↔◌, ◌+◌, ◌||◌, ℕ, Bool, false, not, nat_eq, List, [], Option, Some, None, Contains, slice_get}
use Rattle.std.specs.BTreeSet.{BTreeSet, contains}
use Rattle.std.specs.Ordering.{nat_cmp}
use Rattle.rgo_tac.specs.declared.regions.Class.{Class}
use Rattle.rgo_tac.specs.declared.regions.Class.TheVariants.{Name}
use Rattle.rgo_flow.specs.Live.{led_to_by}
use Rattle.rgo_code.specs.Code.{CodeFn}
use Rattle.rgo_code.specs.Erasure.{erased_fn}
use Rattle.rgo_code.specs.Names.{result_class, IsOwn, IsLiveName, Holds, IsPassedForResult, IsPassedTwice, IsParameterName}
use Rattle.rgo_region_sets.specs.Sets.{IsSet}
use Rattle.rgo_region_sets.specs.Used.{name_of, UsesName}

-- it creates the own names that it uses and that are not held before it
abbrev pub Creates : CodeFn → (at k : ℕ) → Type 0
Creates f at k = IsOwn f k × UsesName f (slice_get f.body at) k × (Holds f k at → ⊥)

-- own, and not live before the instruction
abbrev pub IsMissing : CodeFn → (at k : ℕ) → Type 0
IsMissing f at k = IsOwn f k × (IsLiveName f k at → ⊥)

-- a call protects the names that it passes and that are live after it, the result's, or passed twice
abbrev pub Protects : CodeFn → (at : ℕ) → List Class → (k : ℕ) → Type 0
Protects f at passes k =
    Contains passes (Name k) × (IsLiveName f k (at + 1) ⊎ ((result_class f ≡ Name k) ⊎ IsPassedTwice passes k))

-- k is needed after the instruction, or it was passed before
abbrev pub IsNeeded : CodeFn → (at : ℕ) → (first : Bool) → (k : ℕ) → Type 0
IsNeeded f at first k = IsLiveName f k (at + 1) ⊎ ((result_class f ≡ Name k) ⊎ (first ≡ false))

-- k is passed for a class
pub record IsNamePassedFor (regions : List Class) (class : Class) (passes : List Class) (k : ℕ) : Type 0 where
  pub at : ℕ
  pub parameter : slice_get regions at ≡ Some class
  pub passed : slice_get passes at ≡ Some (Name k)

-- a call leaves it to the callee to remove k
abbrev pub IsGiven : Option CodeFn → (passes : List Class) → (protects : List ℕ) → (k : ℕ) → Type 0
IsGiven callee passes protects k =
    Contains passes (Name k) × (Contains protects k → ⊥) × (IsPassedForResult callee passes k → ⊥)

-- k is in neither list
abbrev pub IsInNeither : (protects lent : List ℕ) → ℕ → Type 0
IsInNeither protects lent k = (Contains protects k → ⊥) × (Contains lent k → ⊥)

-- ---- removals

-- where way n of the instruction leads
abbrev pub way : CodeFn → (at n : ℕ) → Option ℕ
way f at n = slice_get (led_to_by at (slice_get (erased_fn f).body at)) n

-- what may be removed after the instruction: the names that are held or created before it and not given
abbrev pub MayRemoveAfter : CodeFn → (at : ℕ) → (gives : List ℕ) → ℕ → Type 0
MayRemoveAfter f at gives k = (Holds f k at ⊎ Creates f at k) × (Contains gives k → ⊥)

-- on the way to instruction `next` those are removed that are not held there
abbrev pub Removes : CodeFn → (at : ℕ) → (gives : List ℕ) → (next k : ℕ) → Type 0
Removes f at gives next k = MayRemoveAfter f at gives k × (Holds f k next → ⊥)

-- the names that are removed on a way, if there is such a way
abbrev pub AreRemoved : CodeFn → (at : ℕ) → (gives : List ℕ) → Option ℕ → List ℕ → Type 0
AreRemoved f at gives None names = names ≡ []
AreRemoved f at gives (Some next) names = IsSet names (Removes f at gives next)

-- These have the names that may have to be removed on the way to instruction `next`, and only what is live or used. They are few and may
-- be too many: each is tested afterwards.
pub record AreCandidates (f : CodeFn) (at next : ℕ) (names : List ℕ) : Type 0 where
  pub known : (k : ℕ) → Contains names k → IsLiveName f k at ⊎ UsesName f (slice_get f.body at) k
  pub used : (k : ℕ) → UsesName f (slice_get f.body at) k → Contains names k
  pub live : (k : ℕ) → IsLiveName f k at → (IsLiveName f k next → ⊥) → Contains names k

-- own, not given, and not live into the next instruction
abbrev pub IsDead : CodeFn → (gives : List ℕ) → (next k : ℕ) → Type 0
IsDead f gives next k = IsOwn f k × (Contains gives k → ⊥) × (IsLiveName f k next → ⊥)

-- at entry, the own names of parameters that the first instruction does not hold
abbrev pub EntryRemoves : CodeFn → ℕ → Type 0
EntryRemoves f k = IsOwn f k × IsParameterName f k × (Holds f k 0 → ⊥)

-- ---- protections, one class after the other

-- k is seen, and is put among the names if it is needed
pub record AddsNeeded (f : CodeFn) (at k : ℕ) (old new : List ℕ) (seen seen' : BTreeSet ℕ) : Type 0 where
  pub names : (j : ℕ) → Contains new j
      ↔ (Contains old j ⊎ ((j ≡ k) × IsNeeded f at (not (contains nat_cmp seen k)) k))
  pub sees : (j : ℕ) → contains nat_cmp seen' j ≡ (contains nat_cmp seen j || nat_eq j k)

-- the name is put among the names if it is needed, and is seen
pub record AddsPassed (f : CodeFn) (at : ℕ) (class : Class) (old new : List ℕ) (seen seen' : BTreeSet ℕ) : Type 0 where
  pub other : name_of class ≡ None → (new ≡ old) × (seen' ≡ seen)
  pub name : (k : ℕ) → name_of class ≡ Some k → AddsNeeded f at k old new seen seen'
