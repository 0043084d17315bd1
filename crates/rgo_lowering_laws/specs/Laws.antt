-- Lowering keeps types: the code of a well-formed program is typed code, and prints what its pieces say.
use Rattle.std.specs.Prelude.{◌≡◌, ℕ, List, Some, slice_get, ⊤}
use Rattle.rgo_typed.specs.Tree.{Typed}
use Rattle.rgo_typed.specs.declared.types.Type.{«Type»}
use Rattle.rgo_wellformed.specs.WellFormed.{IsWellFormed, MatchPieces}
use Rattle.rgo_tac.specs.Code.{Op, Instr, TacFn, Tac, Do, Call, Go, Print, Jump, Branch, Return}
use Rattle.rgo_lower.specs.Lowered.{IsLowered}
use Rattle.rgo_code.specs.Types.{VariablesHaveTypes}
use Rattle.rgo_code.specs.TypedCode.{IsTypedCode}

abbrev pub LoweredIsTyped : Type 0
LoweredIsTyped = (program : Typed) (code : Tac) → IsWellFormed program → IsLowered program code → IsTypedCode code

-- a print has a variable for each piece that prints one, of a type that can be printed
abbrev pub PrintsFit : TacFn → Op → Type 0
PrintsFit f (Print pieces from) = (types : List «Type») × VariablesHaveTypes f from types × MatchPieces pieces types
PrintsFit f (Do to action from) = ⊤
PrintsFit f (Call to n from) = ⊤
PrintsFit f (Go n from) = ⊤
PrintsFit f (Jump target) = ⊤
PrintsFit f (Branch test target other) = ⊤
PrintsFit f (Return value) = ⊤

abbrev pub LoweredPrints : Type 0
LoweredPrints =
    (program : Typed) (code : Tac) → IsWellFormed program → IsLowered program code → (n : ℕ) (f : TacFn)
    → slice_get code.functions n ≡ Some f → (i : ℕ) (instr : Instr) → slice_get f.body i ≡ Some instr → PrintsFit f instr.op
