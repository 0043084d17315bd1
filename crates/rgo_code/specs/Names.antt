-- Names of regions in a function: which are its own, live, held, used and given away, at each instruction.
use Rattle.std.specs.Prelude.{◌≡◌, ◌≢◌, ◌+◌, ℕ, zero, suc, Bool, false, List, [], ◌∷◌, ◌++◌, Option, Some, None, Contains, slice_get, nat_eq, if◌then◌else◌}
use Rattle.std.specs.List.{list_any}
use Rattle.rgo_tac.specs.declared.regions.Class.{Class}
use Rattle.rgo_tac.specs.declared.regions.Class.TheVariants.{NoClass, Global, Name}
use Rattle.rgo_tac.specs.declared.regions.Member.{Member}
use Rattle.rgo_tac.specs.declared.regions.Member.TheVariants as member
use Rattle.rgo_flow.specs.Live.{Live}
use Rattle.rgo_code.specs.Code.{Slot, CodeOp, CodeFn, Code, Do, Call, Go, Print, Jump, Branch, Return}
use Rattle.rgo_code.specs.Erasure.{erased_op, erased_fn}
use Rattle.rgo_code.specs.Exists.{UsesVariable}

-- ---- classes

-- the class of a slot, and no class where there is no slot
abbrev pub slot_class : Option Slot → Class
slot_class None = NoClass
slot_class (Some s) = s.class

-- the class of variable v of f; `NoClass` for a number that no variable has
abbrev pub class_of : CodeFn → ℕ → Class
class_of f v = slot_class (slice_get f.variables v)

-- the class of the result; `NoClass` for a function without a result
abbrev pub result_class : CodeFn → Class
result_class f = slot_class f.result

-- the class of what an instruction may join; the package variables together have the class Global in each function
abbrev pub member_class : CodeFn → Member → Class
member_class f (member.Variable v) = class_of f v
member_class f member.Result = result_class f
member_class f member.Global = Global

-- whether the class is the name k; Global and `NoClass` are not names
abbrev pub is_class_named : ℕ → Class → Bool
is_class_named k (Name j) = nat_eq k j
is_class_named k NoClass = false
is_class_named k Global = false

-- ---- region parameters

-- the names among classes, each once, at its first place: so a caller and a callee agree on the order of regions without declaring it
abbrev pub distinct_names : (seen classes : List Class) → List Class
distinct_names seen [] = []
distinct_names seen (Name k ∷ classes) =
    if list_any (is_class_named k) seen then distinct_names seen classes else Name k ∷ distinct_names (Name k ∷ seen) classes
distinct_names seen (c ∷ classes) = distinct_names seen classes

-- the classes of the first n slots in order, repeated ones and `NoClass` included; the first variables of a function are its parameters
abbrev pub parameter_classes : ℕ → List Slot → List Class
parameter_classes zero slots = []
parameter_classes (suc n) [] = []
parameter_classes (suc n) (s ∷ slots) = s.class ∷ parameter_classes n slots

-- the classes of which a caller passes the regions: those of the parameters, then that of the result
abbrev pub region_parameters : CodeFn → List Class
region_parameters f = distinct_names [] (parameter_classes f.params f.variables ++ result_class f ∷ [])

-- a parameter has the class of this name
abbrev pub IsParameterName : CodeFn → ℕ → Type 0
IsParameterName f k = Contains (parameter_classes f.params f.variables) (Name k)

-- ---- names at an instruction

-- k is the function's own: not the class of its result, whose region the caller lends
abbrev pub IsOwn : CodeFn → ℕ → Type 0
IsOwn f k = result_class f ≢ Name k

-- a variable of class k is live just before instruction i
pub record IsLiveName (f : CodeFn) (k i : ℕ) : Type 0 where
  pub variable : ℕ
  pub named : class_of f variable ≡ Name k
  pub live : Live (erased_fn f) variable i

-- k is the function's own, and live: its region has to exist just before instruction i
abbrev pub Holds : CodeFn → (k i : ℕ) → Type 0
Holds f k i = IsOwn f k × IsLiveName f k i

-- the instruction uses a variable of class k
pub record UsesRegionName (f : CodeFn) (op : CodeOp) (k : ℕ) : Type 0 where
  pub variable : ℕ
  pub used : UsesVariable (erased_op op) variable
  pub named : class_of f variable ≡ Name k

-- ---- calls

-- the class of the callee's result, in the callee's names; `NoClass` if the code has no such function
abbrev pub callee_result : Option CodeFn → Class
callee_result None = NoClass
callee_result (Some g) = result_class g

-- the region parameters of the callee, in its names; none if the code has no such function
abbrev pub callee_regions : Option CodeFn → List Class
callee_regions None = []
callee_regions (Some g) = region_parameters g

-- k is passed for the class of the callee's result
pub record IsPassedForResult (callee : Option CodeFn) (passes : List Class) (k : ℕ) : Type 0 where
  pub at : ℕ
  pub parameter : slice_get (callee_regions callee) at ≡ Some (callee_result callee)
  pub passed : slice_get passes at ≡ Some (Name k)

-- a call leaves it to the callee to remove k: it passes k, without protection, and not for the callee's result, which the callee may
-- not remove
abbrev pub LeavesToCallee : Code → CodeOp → ℕ → Type 0
LeavesToCallee code (Call to n from passes protects removes) k =
    Contains passes (Name k) × (Contains protects k → ⊥) × (IsPassedForResult (slice_get code.functions n) passes k → ⊥)
LeavesToCallee code (Do to action from removes) k = ⊥
LeavesToCallee code (Go n from passes removes) k = ⊥
LeavesToCallee code (Print pieces from removes) k = ⊥
LeavesToCallee code (Jump target removes) k = ⊥
LeavesToCallee code (Branch test target removes other otherwise) k = ⊥
LeavesToCallee code (Return value) k = ⊥

-- two region parameters are given k
pub record IsPassedTwice (passes : List Class) (k : ℕ) : Type 0 where
  pub one : ℕ
  pub other : ℕ
  pub differ : one ≢ other
  pub first : slice_get passes one ≡ Some (Name k)
  pub second : slice_get passes other ≡ Some (Name k)

-- ---- where instructions lead

-- the instructions that may be next, each with the names that are removed on the way there
abbrev pub edges : CodeOp → ℕ → List (ℕ × List ℕ)
edges (Do to action from removes) i = (i + 1, removes) ∷ []
edges (Call to n from passes protects removes) i = (i + 1, removes) ∷ []
edges (Go n from passes removes) i = (i + 1, removes) ∷ []
edges (Print pieces from removes) i = (i + 1, removes) ∷ []
edges (Jump target removes) i = (target, removes) ∷ []
edges (Branch test target removes other otherwise) i = (target, removes) ∷ (other, otherwise) ∷ []
edges (Return value) i = []
