-- Code with regions: three-address code in which each variable has a class, and each instruction says which regions it
-- creates, passes, protects and removes. In a function a region goes by the number of its class, its name there.
use Rattle.std.specs.Prelude.{ℕ, List, Option}
use Rattle.rgo_typed.specs.declared.actions.Action.{Action}
use Rattle.rgo_typed.specs.declared.programs.Struct.{Struct}
use Rattle.rgo_typed.specs.declared.programs.Variable.{Variable}
use Rattle.rgo_typed.specs.declared.statements.Piece.{Piece}
use Rattle.rgo_typed.specs.declared.types.Type.{«Type»}
use Rattle.rgo_tac.specs.declared.regions.Class.{Class}
use Rattle.rgo_code.specs.declared.code.Undeclared.{Undeclared}

-- the type and the class of a variable or of a result
pub record Slot : Type 0 where
  pub ty : «Type»
  pub class : Class

-- What an instruction does, as in three-address code. `removes` are the names that are removed after it; after a branch,
-- `removes` if its variable is true, and `otherwise` if it is false.
pub data CodeOp : Type 0 where
  Do : (to : Option ℕ) (action : Action) (from removes : List ℕ) → CodeOp
  -- `passes` has a class for each region parameter of the callee; `protects` are kept until it has returned
  Call : (to : Option ℕ) (function : ℕ) (from : List ℕ) (passes : List Class) (protects removes : List ℕ) → CodeOp
  Go : (function : ℕ) (from : List ℕ) (passes : List Class) (removes : List ℕ) → CodeOp
  Print : (pieces : List Piece) (from removes : List ℕ) → CodeOp
  Jump : (target : ℕ) (removes : List ℕ) → CodeOp
  Branch : (test target : ℕ) (removes : List ℕ) (other : ℕ) (otherwise : List ℕ) → CodeOp
  Return : (value : Option ℕ) → CodeOp

-- `creates` are the names that are created before it
pub record CodeInstr : Type 0 where
  pub creates : List ℕ
  pub op : CodeOp
  pub place : ℕ

-- `entry` are the names that are removed before the first instruction
pub record CodeFn : Type 0 where
  pub name : List ℕ
  pub params : ℕ
  pub result : Option Slot
  pub variables : List Slot
  pub entry : List ℕ
  pub body : List CodeInstr

-- structs, package variables and functions, each kind numbered from 0
pub record Code : Type 0 where
  pub structs : List Struct
  pub variables : List Variable
  pub functions : List CodeFn
  pub undeclared : Undeclared
