-- The constants of code: each has 64 bits. In the definitions an int may be any integer, and only this makes it fit a word.
use Rattle.std.specs.Int.{w64}
use Rattle.std.specs.Prelude.{All, FitsSigned, List, Option, Some, slice_get, ℕ, ℤ, ◌≡◌, ⊤}
use Rattle.rgo_sound.specs.Code.Code.{Code, CodeFn, CodeInstr, Do}
use Rattle.rgo_sound.specs.Tac.Code.{Instr, Op, TacFn}
use Rattle.rgo_sound.specs.Tac.Code as tac
use Rattle.rgo_sound.specs.Typed.declared.actions.Action.TheVariants as action
use Rattle.rgo_sound.specs.Typed.declared.actions.Action.{Action}

-- each constant has 64 bits
abbrev pub ConstantsFit : Code → Type 0
ConstantsFit code =
    (n i : ℕ) (fn : CodeFn) (instr : CodeInstr) (to : Option ℕ) (k : ℤ) (from removes : List ℕ)
    → slice_get code.functions n ≡ Some fn → slice_get fn.body i ≡ Some instr
    → instr.op ≡ Do to (action.Int k) from removes → FitsSigned w64 k

-- ---- the same of what three-address code is made of

abbrev pub ActionFits : Action → Type 0
ActionFits (action.Int k) = FitsSigned w64 k
ActionFits _ = ⊤

abbrev pub OpFits : Op → Type 0
OpFits (tac.Do to action from) = ActionFits action
OpFits _ = ⊤

abbrev pub InstrFits : Instr → Type 0
InstrFits instr = OpFits instr.op

abbrev pub FnFits : TacFn → Type 0
FnFits fn = All InstrFits fn.body
