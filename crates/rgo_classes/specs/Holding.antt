-- What calls join, as the arguments and the target of a call are gone through one by one.
use Rattle.std.specs.Prelude.{◌≡◌, ◌≢◌, ◌↔◌, ◌<◌, ◌++◌, ◌∷◌, [], ℕ, List, Some, None, Contains, nat_eq, slice_get}
use Rattle.std.specs.HashMap.{HashMap, get}
use Rattle.rgo_tac.specs.declared.regions.Class.{Class}
use Rattle.rgo_tac.specs.declared.regions.Class.TheVariants as class
use Rattle.rgo_tac.specs.declared.regions.Member.{Member}
use Rattle.rgo_tac.specs.declared.regions.Member.TheVariants.{Variable, Result, Global}
use Rattle.rgo_tac.specs.Code.{TacFn}
use Rattle.rgo_classes.specs.Joins.{IsPointerLike}
use Rattle.rgo_classes.specs.Labels.{JoinsAlso}

-- those of the joins whose members are pointer-like
abbrev pub Among : TacFn → (Member → Member → Type 0) → Member → Member → Type 0
Among f Joins a b = Joins a b × IsPointerLike f a × IsPointerLike f b

-- the members of a class: those variables that are listed with it, and the package variables if it is Global
abbrev pub IsOfClass : List (Class × ℕ) → Class → Member → Type 0
IsOfClass held c (Variable v) = Contains held (c, v)
IsOfClass held c Result = ⊥
IsOfClass held c Global = c ≡ class.Global

-- two members of one class
abbrev pub HeldJoins : List (Class × ℕ) → Member → Member → Type 0
HeldJoins held a b = (c : Class) × (c ≢ class.NoClass) × IsOfClass held c a × IsOfClass held c b

-- a map from names of classes to pointer-like variables
abbrev pub AreHolders : {S : Type 0} → TacFn → HashMap ℕ ℕ S → Type 0
AreHolders f holders = (k v : ℕ) → get nat_eq holders k ≡ Some v → IsPointerLike f (Variable v)

-- The labels are the old ones, joined for what is listed, and the map has a variable of each name that is listed.
pub record Holding {S : Type 0} (f : TacFn) (old : List ℕ) (held : List (Class × ℕ)) (labels : List ℕ)
    (holders : HashMap ℕ ℕ S) : Type 0 where
  pub joined : JoinsAlso old (Among f (HeldJoins held)) labels
  pub listed : (k v : ℕ) → get nat_eq holders k ≡ Some v → Contains held (class.Name k, v)
  pub each : (k v : ℕ) → Contains held (class.Name k, v) → IsPointerLike f (Variable v)
      → get nat_eq holders k ≢ None

-- one variable more is listed
abbrev pub HoldsMore : {S : Type 0} → TacFn → (labels : List ℕ) → (holders : HashMap ℕ ℕ S) → (c : Class) → (v : ℕ)
    → (labels' : List ℕ) → (holders' : HashMap ℕ ℕ S) → Type 0
HoldsMore f labels holders c v labels' holders' =
    (old : List ℕ) (held : List (Class × ℕ)) → Holding f old held labels holders
    → Holding f old (held ++ (c, v) ∷ []) labels' holders'

-- the first arguments are listed, each with the class of its parameter
abbrev pub AreArguments : (params : List Class) → (from : List ℕ) → (i : ℕ) → (held : List (Class × ℕ)) → Type 0
AreArguments params from i held =
    (c : Class) (v : ℕ)
    → Contains held (c, v) ↔ ((j : ℕ) × (j < i) × (slice_get params j ≡ Some c) × (slice_get from j ≡ Some v))

-- They are listed, and joined.
abbrev pub HoldsArguments : {S : Type 0} → TacFn → (old : List ℕ) → (params : List Class) → (from : List ℕ)
    → (i : ℕ) → (labels : List ℕ) → HashMap ℕ ℕ S → Type 0
HoldsArguments f old params from i labels holders =
    (held : List (Class × ℕ)) × AreArguments params from i held × Holding f old held labels holders
