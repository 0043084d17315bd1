-- Typed three-address code: it keeps the first two rules, starts only functions without a result, and writes each
-- variable before it reads it.
use Rattle.std.specs.Prelude.{◌≡◌, ◌≢◌, ◌<◌, ℕ, [], Some, None, slice_get, ⊤}
use Rattle.rgo_typed.specs.declared.programs.Struct.{Struct}
use Rattle.rgo_typed.specs.declared.programs.Variable.{Variable}
use Rattle.rgo_typed.specs.declared.types.Type.{«Type»}
use Rattle.rgo_tac.specs.Code.{Op, Instr, TacFn, Tac, Go, Do, Call, Print, Jump, Branch, Return}
use Rattle.rgo_flow.specs.Live.{Live}
use Rattle.rgo_code.specs.Exists.{TypeExists, InstrExists, StructExists, VariableExists, HeadExists, HasMain}
use Rattle.rgo_code.specs.Types.{IsWellTypedOp}

-- a function that is started has no result
abbrev pub StartFits : Tac → Op → Type 0
StartFits code (Go n from) = (callee : TacFn) → slice_get code.functions n ≡ Some callee → callee.result_type ≡ None
StartFits code (Do to action from) = ⊤
StartFits code (Call to n from) = ⊤
StartFits code (Print pieces from) = ⊤
StartFits code (Jump target) = ⊤
StartFits code (Branch test target other) = ⊤
StartFits code (Return value) = ⊤

-- instruction i of a function
pub record IsTypedInstr (code : Tac) (f : TacFn) (i : ℕ) (op : Op) : Type 0 where
  pub exists : InstrExists code f i op
  pub fits : IsWellTypedOp code f op
  pub start : StartFits code op

-- function n; no variable but a parameter is live at its first instruction
pub record IsTypedFn (code : Tac) (n : ℕ) (f : TacFn) : Type 0 where
  pub head : HeadExists code n f
  pub variables : (v : ℕ) (ty : «Type») → slice_get f.variables v ≡ Some ty → TypeExists code ty
  pub has_instr : f.body ≢ []
  pub instrs : (i : ℕ) (instr : Instr) → slice_get f.body i ≡ Some instr → IsTypedInstr code f i instr.op
  pub writes_first : (v : ℕ) → Live f v 0 → v < f.params

pub record IsTypedCode (code : Tac) : Type 0 where
  pub structs : (n : ℕ) (s : Struct) → slice_get code.structs n ≡ Some s → StructExists code n s
  pub variables : (n : ℕ) (v : Variable) → slice_get code.variables n ≡ Some v → VariableExists code n v
  pub functions : (n : ℕ) (f : TacFn) → slice_get code.functions n ≡ Some f → IsTypedFn code n f
  pub has_main : HasMain code
