-- What a text needs of the parts of code, and the rules do not say: names are words, numbers have 32 bits, integers 64, strings are bytes,
-- and a print has a variable for each piece that prints one.
use Rattle.std.specs.Prelude.{◌≡◌, ◌≤◌, ◌^◌, map, length, IfSome, All, ⊤}
use Rattle.rgo_typed.specs.declared.actions.Action.{Action}
use Rattle.rgo_typed.specs.declared.actions.Action.TheVariants as action
use Rattle.rgo_code.specs.Code.{CodeOp, CodeInstr, CodeFn, Code, Do, Call, Go, Print, Jump, Branch, Return}
use Rattle.rgo_code_text.specs.Written.{SlotFits}
use Rattle.rgo_code_words.specs.Worded.{AreNames, IsSmallNumber, AreSmall, ClassFits, IntFits, PieceFits, ValueFits, printed_value_count}

abbrev pub ActionPrints : Action → Type 0
ActionPrints (action.Int k) = IntFits k
ActionPrints (action.Load k) = IsSmallNumber k
ActionPrints (action.Store k) = IsSmallNumber k
ActionPrints (action.Bool b) = ⊤
ActionPrints action.Nil = ⊤
ActionPrints action.Copy = ⊤
ActionPrints (action.Binary op) = ⊤
ActionPrints action.Neg = ⊤
ActionPrints action.Not = ⊤
ActionPrints action.IsNil = ⊤
ActionPrints action.Len = ⊤
ActionPrints action.At = ⊤
ActionPrints action.Put = ⊤
ActionPrints (action.New n) = ⊤
ActionPrints action.Slice = ⊤
ActionPrints action.Chan = ⊤
ActionPrints action.Recv = ⊤
ActionPrints action.Send = ⊤
ActionPrints action.Close = ⊤
ActionPrints (action.Get n) = ⊤
ActionPrints (action.Set n) = ⊤

abbrev pub OpPrints : CodeOp → Type 0
OpPrints (Do to action from removes) = ActionPrints action × ValueFits to × AreSmall from × AreSmall removes
OpPrints (Call to f from passes protects removes) =
    ValueFits to × AreSmall from × All ClassFits passes × AreSmall protects × AreSmall removes
OpPrints (Go f from passes removes) = AreSmall from × All ClassFits passes × AreSmall removes
OpPrints (Print pieces from removes) =
    All PieceFits pieces × (length from ≡ printed_value_count pieces) × AreSmall from × AreSmall removes
OpPrints (Jump target removes) = IsSmallNumber target × AreSmall removes
OpPrints (Branch test target removes other otherwise) =
    IsSmallNumber test × IsSmallNumber target × AreSmall removes × IsSmallNumber other × AreSmall otherwise
OpPrints (Return value) = ValueFits value

abbrev pub InstrPrints : CodeInstr → Type 0
InstrPrints instr = IsSmallNumber instr.place × AreSmall instr.creates × OpPrints instr.op

pub record FnPrints (f : CodeFn) : Type 0 where
  pub params : IsSmallNumber f.params
  pub result : IfSome f.result SlotFits
  pub variables : All SlotFits f.variables
  pub entry : AreSmall f.entry
  pub indexes : length f.body ≤ 2 ^ 32
  pub body : All InstrPrints f.body

pub record IsPrintable (code : Code) : Type 0 where
  pub structs : AreNames (map (λ s. s.name) code.structs)
  pub variables : AreNames (map (λ v. v.name) code.variables)
  pub functions : AreNames (map (λ f. f.name) code.functions)
  pub fits : All FnPrints code.functions
