-- What holds of each instruction of checked code: its variables, the instructions that may follow it, and its callee exist. These need no
-- record and no run, and are used when compact code is made.
use Rattle.std.specs.Prelude.{◌≡◌, ◌<◌, ◌≤◌, ◌+◌, ℕ, List, length, Option, Some, None, is_some, slice_get, ⊤}
use Rattle.rgo_sound.specs.Code.Checked.{IsChecked}
use Rattle.rgo_sound.specs.Code.Code.{Branch, Call, Code, CodeFn, CodeInstr, CodeOp, Do, Go, Jump, Print, Return}
use Rattle.rgo_sound.specs.Code.Erasure.{erased_op}
use Rattle.rgo_sound.specs.Code.Exists.{UsesVariable}
use Rattle.rgo_sound.specs.Code.Names.{region_parameters}
use Rattle.rgo_sound.specs.RegionMachine.Owed.{code_function}
use Rattle.rgo_sound.specs.Tac.declared.regions.Class.{Class}

-- P holds of each instruction of each function of checked code; i is its number in the body
abbrev pub OfInstructions : (Code → CodeFn → (i : ℕ) → CodeOp → Type 0) → Type 0
OfInstructions P = (code : Code) (n i : ℕ) (fn : CodeFn) (instr : CodeInstr) → IsChecked code → code_function code n ≡ Some fn
    → slice_get fn.body i ≡ Some instr → P code fn i instr.op

-- ---- variables and targets

-- the instruction reads and writes variables of its function
abbrev pub UsesVariables : CodeFn → CodeOp → Type 0
UsesVariables fn op = (v : ℕ) → UsesVariable (erased_op op) v → v < length fn.variables

-- what may follow it is an instruction of the same body: by the next number, or by a jump
abbrev pub IsFollowed : CodeFn → (i : ℕ) → CodeOp → Type 0
IsFollowed fn i (Do to action from removes) = i + 1 < length fn.body
IsFollowed fn i (Call to n from passes protects removes) = i + 1 < length fn.body
IsFollowed fn i (Go n from passes removes) = i + 1 < length fn.body
IsFollowed fn i (Print pieces from removes) = i + 1 < length fn.body
IsFollowed fn i (Jump target removes) = target < length fn.body
IsFollowed fn i (Branch test target removes other otherwise) = (target < length fn.body) × (other < length fn.body)
IsFollowed fn i (Return value) = ⊤

-- a function returns a value exactly if it has a result
abbrev pub ReturnsResult : CodeFn → CodeOp → Type 0
ReturnsResult fn (Return value) = is_some value ≡ is_some fn.result
ReturnsResult fn (Do to action from removes) = ⊤
ReturnsResult fn (Call to n from passes protects removes) = ⊤
ReturnsResult fn (Go n from passes removes) = ⊤
ReturnsResult fn (Print pieces from removes) = ⊤
ReturnsResult fn (Jump target removes) = ⊤
ReturnsResult fn (Branch test target removes other otherwise) = ⊤

-- ---- callees

-- Function n exists and takes these arguments and regions. It has a result exactly if a variable waits for one. So entering it needs no
-- test.
pub record CanCall (code : Code) (to : Option ℕ) (n : ℕ) (from : List ℕ) (passes : List Class) : Type 0 where
  pub callee : CodeFn
  pub found : code_function code n ≡ Some callee
  pub arguments : length from ≡ callee.params
  pub parameters : callee.params ≤ length callee.variables
  pub regions : length passes ≡ length (region_parameters callee)
  pub result : is_some to ≡ is_some callee.result

-- a goroutine starts with a function without a result
abbrev pub HasCallee : Code → CodeOp → Type 0
HasCallee code (Call to n from passes protects removes) = CanCall code to n from passes
HasCallee code (Go n from passes removes) = CanCall code None n from passes
HasCallee code (Do to action from removes) = ⊤
HasCallee code (Print pieces from removes) = ⊤
HasCallee code (Jump target removes) = ⊤
HasCallee code (Branch test target removes other otherwise) = ⊤
HasCallee code (Return value) = ⊤

-- ---- the laws

abbrev pub VariablesExist : Type 0
VariablesExist = OfInstructions (λ code fn i op. UsesVariables fn op)

abbrev pub NextExists : Type 0
NextExists = OfInstructions (λ code fn i op. IsFollowed fn i op)

abbrev pub CalleesExist : Type 0
CalleesExist = OfInstructions (λ code fn i op. HasCallee code op)

abbrev pub ResultsReturned : Type 0
ResultsReturned = OfInstructions (λ code fn i op. ReturnsResult fn op)

-- each function has a first instruction
abbrev pub BodiesBegin : Type 0
BodiesBegin = (code : Code) (n : ℕ) (fn : CodeFn) → IsChecked code → code_function code n ≡ Some fn → 0 < length fn.body
