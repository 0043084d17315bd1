-- What the checker computes for the rules on creations, protections and removals.
use Rattle.std.specs.Prelude.{ℕ, Bool, true, false, List, Option, Some, None, slice_get, nat_eq}
use Rattle.rgo_tac.specs.declared.regions.Class.{Class}
use Rattle.rgo_tac.specs.declared.regions.Class.TheVariants.{Name, NoClass, Global}
use Rattle.rgo_tac.specs.Code.{Op, Call, Do, Go, Print, Jump, Branch, Return}
use Rattle.rgo_code.specs.Code.{Code}
use Rattle.rgo_region_sets.specs.Asked.{IsGiven}

abbrev pub has_name : Class → ℕ → Bool
has_name (Name k) q = nat_eq k q
has_name NoClass q = false
has_name Global q = false

abbrev pub is_call : Op → Bool
is_call (Call to n from) = true
is_call (Do to action from) = false
is_call (Go n from) = false
is_call (Print pieces from) = false
is_call (Jump target) = false
is_call (Branch test target other) = false
is_call (Return value) = false

-- the function that is called
abbrev pub called_function : Op → Option ℕ
called_function (Call to n from) = Some n
called_function (Do to action from) = None
called_function (Go n from) = None
called_function (Print pieces from) = None
called_function (Jump target) = None
called_function (Branch test target other) = None
called_function (Return value) = None

abbrev pub GivenTo : Code → Option ℕ → (passes : List Class) → (protects : List ℕ) → ℕ → Type 0
GivenTo code None passes protects k = ⊥
GivenTo code (Some n) passes protects k = IsGiven (slice_get code.functions n) passes protects k

-- an instruction with these lists leaves it to a callee to remove k
abbrev pub GivenBy : Code → Op → (passes : List Class) → (protects : List ℕ) → ℕ → Type 0
GivenBy code op passes protects k = GivenTo code (called_function op) passes protects k
