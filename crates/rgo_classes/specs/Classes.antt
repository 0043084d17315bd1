-- The classes of a function under the summaries of those that it calls: the least equivalence that contains its
-- joins, with names in the order of their first members.
use Rattle.std.specs.Prelude.{◌≡◌, ℕ, zero, suc, ◌<◌, ◌↔◌, List, [], ◌∷◌, ◌++◌, length, Some, slice_get}
use Rattle.rgo_tac.specs.declared.regions.Class.{Class}
use Rattle.rgo_tac.specs.declared.regions.Class.TheVariants as class
use Rattle.rgo_tac.specs.declared.regions.Member.{Member}
use Rattle.rgo_tac.specs.declared.regions.Member.TheVariants.{Variable, Result, Global}
use Rattle.rgo_tac.specs.Code.{TacFn}
use Rattle.rgo_classes.specs.declared.classes.Classes.{Classes}
use Rattle.rgo_classes.specs.declared.classes.Summary.{Summary}
use Rattle.rgo_classes.specs.Joins.{IsPointerLike, Joins}
use Rattle.rgo_classes.specs.Same.{AreSame}

-- a chain of joins of f leads from one member to the other; a member that is not pointer-like is linked to itself only
abbrev pub InOneClass : List Summary → TacFn → Member → Member → Type 0
InOneClass summaries f = AreSame (Joins summaries f)

-- A class is named only after those of all smaller numbers: so the classes alone decide on the names.
abbrev pub AreNumbered : List Class → Type 0
AreNumbered classes =
    (i k j : ℕ) → slice_get classes i ≡ Some (class.Name k) → j < k
    → (h : ℕ) × (h < i) × (slice_get classes h ≡ Some (class.Name j))

-- `classes` are those of `members`, in order, where `Same` says which members are in one class.
pub record AreNamed (Same : Member → Member → Type 0) (f : TacFn) (members : List Member) (classes : List Class)
    : Type 0 where
  pub len : length classes ≡ length members
  -- a member without a class is not pointer-like
  pub none : (i : ℕ) (m : Member) → slice_get members i ≡ Some m
      → (slice_get classes i ≡ Some class.NoClass) ↔ (IsPointerLike f m → ⊥)
  -- the class of the package variables
  pub global : (i : ℕ) (m : Member) → slice_get members i ≡ Some m
      → (slice_get classes i ≡ Some class.Global) ↔ (IsPointerLike f m × Same m Global)
  -- pointer-like members have one class where they are the same
  pub same : (i j : ℕ) (m n : Member) → slice_get members i ≡ Some m → slice_get members j ≡ Some n
      → IsPointerLike f m → IsPointerLike f n → (slice_get classes i ≡ slice_get classes j) ↔ Same m n
  pub numbered : AreNumbered classes

-- the same, where two members of f are in one class if a chain of its joins leads from one to the other
abbrev pub Describes : List Summary → TacFn → List Member → List Class → Type 0
Describes summaries f = AreNamed (InOneClass summaries f) f

-- the variables of numbers below n, in order, followed by the members `after`
abbrev pub variables_before : ℕ → List Member → List Member
variables_before zero after = after
variables_before (suc n) after = variables_before n (Variable n ∷ after)

-- all variables, then the result
abbrev pub all_members : TacFn → List Member
all_members f = variables_before (length f.variables) (Result ∷ [])

-- the parameters, then the result
abbrev pub outer_members : TacFn → List Member
outer_members f = variables_before f.params (Result ∷ [])

-- The classes of all variables of f and of its result are these. Two have one class exactly if joins link them, and the names are
-- numbered in order, so `classes` is the only value with this property.
abbrev pub AreClasses : List Summary → TacFn → Classes → Type 0
AreClasses summaries f classes =
    Describes summaries f (all_members f) (classes.variables ++ classes.result ∷ [])
