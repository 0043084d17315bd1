-- `TacConstantsFit`: a code text can express the constants and places of this code, that is, integers have 64 bits, strings consist
-- of bytes, and places have 32 bits.
use Rattle.std.specs.Prelude.{All, ⊤}
use Rattle.rgo_typed.specs.declared.actions.Action.{Action}
use Rattle.rgo_typed.specs.declared.actions.Action.TheVariants as action
use Rattle.rgo_tac.specs.Code.{Op, Instr, TacFn, Tac, Do, Call, Go, Print, Jump, Branch, Return}
use Rattle.rgo_code_words.specs.Worded.{IsSmallNumber, IntFits, PieceFits}

abbrev pub TacActionFits : Action → Type 0
TacActionFits (action.Int k) = IntFits k
TacActionFits (action.Bool b) = ⊤
TacActionFits action.Nil = ⊤
TacActionFits action.Copy = ⊤
TacActionFits (action.Binary op) = ⊤
TacActionFits action.Neg = ⊤
TacActionFits action.Not = ⊤
TacActionFits action.IsNil = ⊤
TacActionFits action.Len = ⊤
TacActionFits (action.Load k) = ⊤
TacActionFits (action.Store k) = ⊤
TacActionFits action.At = ⊤
TacActionFits action.Put = ⊤
TacActionFits (action.New n) = ⊤
TacActionFits action.Slice = ⊤
TacActionFits action.Chan = ⊤
TacActionFits action.Recv = ⊤
TacActionFits action.Send = ⊤
TacActionFits action.Close = ⊤
TacActionFits (action.Get n) = ⊤
TacActionFits (action.Set n) = ⊤

abbrev pub TacOpFits : Op → Type 0
TacOpFits (Do to action from) = TacActionFits action
TacOpFits (Print pieces from) = All PieceFits pieces
TacOpFits (Call to n from) = ⊤
TacOpFits (Go n from) = ⊤
TacOpFits (Jump target) = ⊤
TacOpFits (Branch test target other) = ⊤
TacOpFits (Return value) = ⊤

abbrev pub TacInstrFits : Instr → Type 0
TacInstrFits instr = IsSmallNumber instr.place × TacOpFits instr.op

abbrev pub TacFnFits : TacFn → Type 0
TacFnFits f = All TacInstrFits f.body

abbrev pub TacConstantsFit : Tac → Type 0
TacConstantsFit code = All TacFnFits code.functions
