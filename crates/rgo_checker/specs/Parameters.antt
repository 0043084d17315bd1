-- The places of names among the first of some classes, while these are gone through.
use Rattle.std.specs.Prelude.{◌≡◌, ◌<◌, ℕ, List, Option, Some, slice_get, nat_eq, if◌then◌else◌, MatchOption}
use Rattle.std.specs.HashMap.{HashMap, get}
use Rattle.rgo_tac.specs.declared.regions.Class.{Class}
use Rattle.rgo_tac.specs.declared.regions.Class.TheVariants.{Name, NoClass, Global}

abbrev pub ArePlacesBelow : {S : Type 0} → List Class → ℕ → HashMap ℕ ℕ S → Type 0
ArePlacesBelow classes count places =
    (k : ℕ) → MatchOption (get nat_eq places k) ((p : ℕ) → p < count → slice_get classes p ≡ Some (Name k) → ⊥)
    (λ p. slice_get classes p ≡ Some (Name k))

-- what a map has at q once a class is at place p
abbrev pub place_with_class : Class → (p q : ℕ) → Option ℕ → Option ℕ
place_with_class (Name k) p q before = if nat_eq k q then Some p else before
place_with_class NoClass p q before = before
place_with_class Global p q before = before
