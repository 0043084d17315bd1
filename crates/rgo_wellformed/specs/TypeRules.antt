-- The typing rules of actions: the types of the operands that each takes, and the type of the value that it returns. Each action is
-- listed, so that a new one has to be decided here.
use Rattle.std.specs.Prelude.{◌≡◌, ℕ, ◌<◌, Bool, true, false, List, [], ◌∷◌, length, Option, Some, slice_get, ⊤}
use Rattle.rgo_ast.specs.declared.ops.BinaryOp.{BinaryOp}
use Rattle.rgo_ast.specs.declared.ops.BinaryOp.TheVariants as binary
use Rattle.rgo_typed.specs.declared.actions.Action.{Action}
use Rattle.rgo_typed.specs.declared.actions.Action.TheVariants as action
use Rattle.rgo_typed.specs.declared.types.Base.{Base}
use Rattle.rgo_typed.specs.declared.types.Base.TheVariants as base
use Rattle.rgo_typed.specs.declared.types.Layer.{Layer}
use Rattle.rgo_typed.specs.declared.types.Layer.TheVariants.{Slice, Chan}
use Rattle.rgo_typed.specs.declared.types.Type.{«Type»}
use Rattle.rgo_typed.specs.Types.{is_pointer_like}

-- ---- types

-- the types again: the rules of typed trees are apart from those of the checker, so that one can be proved against the other
abbrev pub int : «Type»
int = record { layers = []; base = base.Int }

-- the type of bools
abbrev pub bool : «Type»
bool = record { layers = []; base = base.Bool }

-- a pointer to the struct of this number
abbrev pub pointer_to : ℕ → «Type»
pointer_to n = record { layers = []; base = base.Pointer n }

-- `[]t`
abbrev pub slice_of : «Type» → «Type»
slice_of t = record { layers = Slice ∷ t.layers; base = t.base }

-- `chan t`
abbrev pub chan_of : «Type» → «Type»
chan_of t = record { layers = Chan ∷ t.layers; base = t.base }

-- the outermost of these layers is a slice
abbrev pub is_slice_in : List Layer → Bool
is_slice_in (Slice ∷ layers) = true
is_slice_in _ = false

-- a slice, whatever its elements are
abbrev pub is_slice : «Type» → Bool
is_slice t = is_slice_in t.layers

-- ---- declarations

-- the types of a function's parameters and of its result
pub record Signature : Type 0 where
  pub params : List «Type»
  pub result_type : Option «Type»

-- what a program declares, each kind by number: the types of the fields of each struct, the type of each package
-- variable, the signature of each function
pub record Declared : Type 0 where
  pub structs : List (List «Type»)
  pub variables : List «Type»
  pub functions : List Signature

-- a pointer's struct is one of the program's
abbrev pub IsBase : Declared → Base → Type 0
IsBase d (base.Pointer n) = n < length d.structs
IsBase d _ = ⊤

-- the struct that the type names exists
abbrev pub IsType : Declared → «Type» → Type 0
IsType d t = IsBase d t.base

-- struct n has a field k, of type t
abbrev pub HasField : Declared → ℕ → ℕ → «Type» → Type 0
HasField d n k t = (fields : List «Type») × (slice_get d.structs n ≡ Some fields) × (slice_get fields k ≡ Some t)

-- ---- actions

-- two values of the same type, which is not a slice
abbrev pub Compares : List «Type» → «Type» → Type 0
Compares operands t = (u : «Type») × (operands ≡ u ∷ u ∷ []) × (is_slice u ≡ false) × (t ≡ bool)

-- an operator on operands of these types returns a value of type t; `&&` and `||` are not actions
abbrev pub Computes : BinaryOp → List «Type» → «Type» → Type 0
Computes binary.Eq operands t = Compares operands t
Computes binary.Ne operands t = Compares operands t
Computes binary.Lt operands t = (operands ≡ int ∷ int ∷ []) × (t ≡ bool)
Computes binary.Le operands t = (operands ≡ int ∷ int ∷ []) × (t ≡ bool)
Computes binary.Gt operands t = (operands ≡ int ∷ int ∷ []) × (t ≡ bool)
Computes binary.Ge operands t = (operands ≡ int ∷ int ∷ []) × (t ≡ bool)
Computes binary.And operands t = ⊥
Computes binary.Or operands t = ⊥
Computes op operands t = (operands ≡ int ∷ int ∷ []) × (t ≡ int)

-- an action on operands of these types returns a value of type t; no typed tree contains `Copy`
abbrev pub Returns : Declared → Action → List «Type» → «Type» → Type 0
Returns d (action.Int n) operands t = (operands ≡ []) × (t ≡ int)
Returns d (action.Bool b) operands t = (operands ≡ []) × (t ≡ bool)
Returns d action.Nil operands t = (operands ≡ []) × (is_pointer_like t ≡ true)
Returns d (action.Binary op) operands t = Computes op operands t
Returns d action.Neg operands t = (operands ≡ int ∷ []) × (t ≡ int)
Returns d action.Not operands t = (operands ≡ bool ∷ []) × (t ≡ bool)
Returns d action.IsNil operands t = (u : «Type») × (operands ≡ u ∷ []) × (is_pointer_like u ≡ true) × (t ≡ bool)
Returns d action.Len operands t = (u : «Type») × (operands ≡ slice_of u ∷ []) × (t ≡ int)
Returns d (action.Load k) operands t = (n : ℕ) × (operands ≡ pointer_to n ∷ []) × HasField d n k t
Returns d action.At operands t = operands ≡ slice_of t ∷ int ∷ []
Returns d (action.New n) operands t = (operands ≡ []) × (t ≡ pointer_to n) × (n < length d.structs)
Returns d action.Slice operands t = (operands ≡ int ∷ []) × (u : «Type») × (t ≡ slice_of u)
Returns d action.Chan operands t = (operands ≡ int ∷ []) × (u : «Type») × (t ≡ chan_of u)
Returns d action.Recv operands t = operands ≡ chan_of t ∷ []
Returns d (action.Get n) operands t = (operands ≡ []) × (slice_get d.variables n ≡ Some t)
Returns d action.Copy operands t = ⊥
Returns d (action.Store k) operands t = ⊥
Returns d action.Put operands t = ⊥
Returns d action.Send operands t = ⊥
Returns d action.Close operands t = ⊥
Returns d (action.Set n) operands t = ⊥

-- an action without value takes operands of these types
abbrev pub Takes : Declared → Action → List «Type» → Type 0
Takes d (action.Store k) operands = (n : ℕ) × (t : «Type») × (operands ≡ pointer_to n ∷ t ∷ []) × HasField d n k t
Takes d action.Put operands = (t : «Type») × (operands ≡ slice_of t ∷ int ∷ t ∷ [])
Takes d action.Send operands = (t : «Type») × (operands ≡ chan_of t ∷ t ∷ [])
Takes d action.Close operands = (t : «Type») × (operands ≡ chan_of t ∷ [])
Takes d (action.Set n) operands = (t : «Type») × (operands ≡ t ∷ []) × (slice_get d.variables n ≡ Some t)
Takes d (action.Int k) operands = ⊥
Takes d (action.Bool b) operands = ⊥
Takes d action.Nil operands = ⊥
Takes d action.Copy operands = ⊥
Takes d (action.Binary op) operands = ⊥
Takes d action.Neg operands = ⊥
Takes d action.Not operands = ⊥
Takes d action.IsNil operands = ⊥
Takes d action.Len operands = ⊥
Takes d (action.Load k) operands = ⊥
Takes d action.At operands = ⊥
Takes d (action.New n) operands = ⊥
Takes d action.Slice operands = ⊥
Takes d action.Chan operands = ⊥
Takes d action.Recv operands = ⊥
Takes d (action.Get n) operands = ⊥
