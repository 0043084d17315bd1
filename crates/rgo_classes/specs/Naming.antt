-- Labels get classes while members are gone through in order.
use Rattle.std.specs.Prelude.{◌≡◌, ◌≢◌, ◌↔◌, ◌<◌, ◌+◌, ℕ, List, length, Some, slice_get, slice_index_or, slice_set, if◌then◌else◌}
use Rattle.rgo_tac.specs.declared.regions.Class.{Class}
use Rattle.rgo_tac.specs.declared.regions.Class.TheVariants as class
use Rattle.rgo_tac.specs.declared.regions.Member.{Member}
use Rattle.rgo_tac.specs.declared.regions.Member.TheVariants.{Global}
use Rattle.rgo_tac.specs.Code.{TacFn}
use Rattle.rgo_tac.specs.Joins.{is_pointer_like_member}
use Rattle.rgo_classes.specs.Classes.{AreNumbered}
use Rattle.rgo_classes.specs.Joins.{IsPointerLike}
use Rattle.rgo_classes.specs.Labels.{label_of}

-- members with the same label
abbrev pub AreLike : List ℕ → Member → Member → Type 0
AreLike labels a b = label_of labels a ≡ label_of labels b

-- the class that a label has; none if it has not got one yet
abbrev pub given_to : List Class → ℕ → Class
given_to given l = slice_index_or given l class.NoClass

abbrev pub class_in : List Class → List ℕ → TacFn → Member → Class
class_in given labels f m = if is_pointer_like_member f m then given_to given (label_of labels m) else class.NoClass

-- the label has a class already
pub record HasClassAlready (given : List Class) (next l : ℕ) (given' : List Class) (next' : ℕ) (c : Class) : Type 0 where
  pub some : given_to given l ≢ class.NoClass
  pub class_is : c ≡ given_to given l
  pub given_is : given' ≡ given
  pub next_is : next' ≡ next

-- the label gets the next name
pub record TakesNextName (given : List Class) (next l : ℕ) (given' : List Class) (next' : ℕ) (c : Class) : Type 0 where
  pub none : given_to given l ≡ class.NoClass
  pub class_is : c ≡ class.Name next
  pub given_is : given' ≡ slice_set given l (class.Name next)
  pub next_is : next' ≡ next + 1

-- These members have these classes, by the classes of their labels, and the next name is this.
pub record Naming (labels : List ℕ) (f : TacFn) (members : List Member) (classes given : List Class) (next : ℕ)
    : Type 0 where
  pub len : length classes ≡ length members
  pub each : (i : ℕ) (m : Member) → slice_get members i ≡ Some m
      → slice_get classes i ≡ Some (class_in given labels f m)
  pub some : (i : ℕ) (m : Member) → slice_get members i ≡ Some m → IsPointerLike f m
      → given_to given (label_of labels m) ≢ class.NoClass
  pub global : (l : ℕ) → (given_to given l ≡ class.Global) ↔ (l ≡ label_of labels Global)
  -- each name given so far belongs to one label, and to some member
  pub below : (l k : ℕ) → given_to given l ≡ class.Name k → k < next
  pub once : (l m k : ℕ) → given_to given l ≡ class.Name k → given_to given m ≡ class.Name k → l ≡ m
  pub all : (k : ℕ) → k < next → (h : ℕ) × (slice_get classes h ≡ Some (class.Name k))
  pub numbered : AreNumbered classes
