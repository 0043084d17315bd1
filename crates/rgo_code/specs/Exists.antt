-- The first rule, on three-address code: numbers, names and targets exist, names differ within their kind, and a function
-- `main` exists.
use Rattle.std.specs.Prelude.{◌≡◌, ◌≢◌, ◌⊎◌, ◌<◌, ◌≤◌, ◌+◌, ℕ, Bool, true, false, List, [], ◌∷◌, map, take, length, Option, Some, None, Contains, slice_get, codes, is_some, ⊤}
use Rattle.rgo_typed.specs.declared.actions.Action.{Action}
use Rattle.rgo_typed.specs.declared.actions.Action.TheVariants as action
use Rattle.rgo_typed.specs.declared.programs.Struct.{Struct}
use Rattle.rgo_typed.specs.declared.programs.Variable.{Variable}
use Rattle.rgo_typed.specs.declared.types.Type.{«Type»}
use Rattle.rgo_wellformed.specs.TypeRules.{Declared, Signature, IsType, pointer_to}
use Rattle.rgo_tac.specs.Code.{Op, TacFn, Tac, Do, Call, Go, Print, Jump, Branch, Return}
use Rattle.rgo_tac.specs.Flow.{reads, writes}

-- ---- declarations

-- the types of the parameters, which are the first variables, and of the result
abbrev pub tac_signature : TacFn → Signature
tac_signature f = record { params = take f.params f.variables; result_type = f.result_type }

-- what the code declares, in the form that the rules of typed trees take, so that these rules serve here too
abbrev pub declared_in_code : Tac → Declared
declared_in_code code = record {
  structs = map (λ s. s.fields) code.structs;
  variables = map (λ v. v.ty) code.variables;
  functions = map tac_signature code.functions;
}

-- the struct that the type names is declared
abbrev pub TypeExists : Tac → «Type» → Type 0
TypeExists code ty = IsType (declared_in_code code) ty

-- none of the names before it is the name of this number
abbrev pub IsNew : List (List ℕ) → ℕ → Type 0
IsNew names n = (m : ℕ) (name : List ℕ) → m < n → slice_get names n ≡ Some name → slice_get names m ≢ Some name

-- a function `main` without parameters and result
pub record HasMain (code : Tac) : Type 0 where
  pub number : ℕ
  pub main : TacFn
  pub declared : slice_get code.functions number ≡ Some main
  pub named : main.name ≡ codes "main"
  pub no_params : main.params ≡ 0
  pub no_result : main.result_type ≡ None

-- ---- instructions

-- the instruction reads or writes a variable
abbrev pub UsesVariable : Op → ℕ → Type 0
UsesVariable op v = Contains (reads op) v ⊎ (writes op ≡ Some v)

-- The struct or package variable that the action names by its number is declared. The field of a load or a store is checked by
-- `FieldExists`, since it depends on the type of the operand.
abbrev pub ActionExists : Tac → Action → Type 0
ActionExists code (action.New n) = n < length code.structs
ActionExists code (action.Get n) = n < length code.variables
ActionExists code (action.Set n) = n < length code.variables
ActionExists code (action.Int k) = ⊤
ActionExists code (action.Bool b) = ⊤
ActionExists code action.Nil = ⊤
ActionExists code action.Copy = ⊤
ActionExists code (action.Binary op) = ⊤
ActionExists code action.Neg = ⊤
ActionExists code action.Not = ⊤
ActionExists code action.IsNil = ⊤
ActionExists code action.Len = ⊤
ActionExists code (action.Load k) = ⊤
ActionExists code (action.Store k) = ⊤
ActionExists code action.At = ⊤
ActionExists code action.Put = ⊤
ActionExists code action.Slice = ⊤
ActionExists code action.Chan = ⊤
ActionExists code action.Recv = ⊤
ActionExists code action.Send = ⊤
ActionExists code action.Close = ⊤

-- if the variable is a pointer to a declared struct, that has a field k; any other variable is refused by rule 2
abbrev pub OperandHasField : Tac → TacFn → (k : ℕ) → List ℕ → Type 0
OperandHasField code f k [] = ⊤
OperandHasField code f k (a ∷ others) =
    (n : ℕ) (s : Struct) → slice_get f.variables a ≡ Some (pointer_to n) → slice_get code.structs n ≡ Some s
    → k < length s.fields

-- the struct to which the first operand of a load or a store points has the field; other actions name no field
abbrev pub FieldExists : Tac → TacFn → Action → List ℕ → Type 0
FieldExists code f (action.Load k) from = OperandHasField code f k from
FieldExists code f (action.Store k) from = OperandHasField code f k from
FieldExists code f (action.Int k) from = ⊤
FieldExists code f (action.Bool b) from = ⊤
FieldExists code f action.Nil from = ⊤
FieldExists code f action.Copy from = ⊤
FieldExists code f (action.Binary op) from = ⊤
FieldExists code f action.Neg from = ⊤
FieldExists code f action.Not from = ⊤
FieldExists code f action.IsNil from = ⊤
FieldExists code f action.Len from = ⊤
FieldExists code f action.At from = ⊤
FieldExists code f action.Put from = ⊤
FieldExists code f (action.New n) from = ⊤
FieldExists code f action.Slice from = ⊤
FieldExists code f action.Chan from = ⊤
FieldExists code f action.Recv from = ⊤
FieldExists code f action.Send from = ⊤
FieldExists code f action.Close from = ⊤
FieldExists code f (action.Get n) from = ⊤
FieldExists code f (action.Set n) from = ⊤

-- the function is declared, has as many parameters, and a result exactly where the call has a target
pub record CallExists (code : Tac) (to : Option ℕ) (n : ℕ) (from : List ℕ) : Type 0 where
  pub callee : TacFn
  pub declared : slice_get code.functions n ≡ Some callee
  pub arguments : length from ≡ callee.params
  pub target : is_some to ≡ is_some callee.result_type

-- whether the function has a result is a matter of the rule on `go`
pub record StartExists (code : Tac) (n : ℕ) (from : List ℕ) : Type 0 where
  pub callee : TacFn
  pub declared : slice_get code.functions n ≡ Some callee
  pub arguments : length from ≡ callee.params

-- All that the operation names but its variables exists: structs, package variables and fields of actions, functions with that number
-- of arguments, targets of jumps and branches in the body of f. Its variables are checked by `InstrExists`.
abbrev pub OpExists : Tac → TacFn → Op → Type 0
OpExists code f (Do to action from) = ActionExists code action × FieldExists code f action from
OpExists code f (Call to n from) = CallExists code to n from
OpExists code f (Go n from) = StartExists code n from
OpExists code f (Print pieces from) = ⊤
OpExists code f (Jump target) = target < length f.body
OpExists code f (Branch test target other) = (target < length f.body) × (other < length f.body)
OpExists code f (Return value) = ⊤

-- whether the next instruction in order is never next
abbrev pub leaves : Op → Bool
leaves (Jump target) = true
leaves (Branch test target other) = true
leaves (Return value) = true
leaves (Do to action from) = false
leaves (Call to n from) = false
leaves (Go n from) = false
leaves (Print pieces from) = false

-- Rule 1 at instruction i of f: the variables and all else that its operation names exist, and if it is the last, it
-- does not lead to the number after it, which no instruction has.
pub record InstrExists (code : Tac) (f : TacFn) (i : ℕ) (op : Op) : Type 0 where
  pub variables : (v : ℕ) → UsesVariable op v → v < length f.variables
  pub exists : OpExists code f op
  pub last : i + 1 ≡ length f.body → leaves op ≡ true

-- ---- declarations exist

-- rule 1 at the struct of number n: no earlier struct has its name, and the types of its fields exist
pub record StructExists (code : Tac) (n : ℕ) (s : Struct) : Type 0 where
  pub is_new : IsNew (map (λ s. s.name) code.structs) n
  pub fields : (k : ℕ) (ty : «Type») → slice_get s.fields k ≡ Some ty → TypeExists code ty

-- rule 1 at the package variable of number n: no earlier one has its name, and its type exists
pub record VariableExists (code : Tac) (n : ℕ) (v : Variable) : Type 0 where
  pub is_new : IsNew (map (λ v. v.name) code.variables) n
  pub ty : TypeExists code v.ty

-- the head of a function
pub record HeadExists (code : Tac) (n : ℕ) (f : TacFn) : Type 0 where
  pub is_new : IsNew (map (λ f. f.name) code.functions) n
  pub params : f.params ≤ length f.variables
  pub result : (ty : «Type») → f.result_type ≡ Some ty → TypeExists code ty
