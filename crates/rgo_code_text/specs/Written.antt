-- Code that has a text: its names are words, its numbers small, and each name that it uses has one number.
use Rattle.std.specs.Prelude.{◌≡◌, ◌≢◌, ◌<◌, ◌≤◌, ◌^◌, ℕ, List, [], ◌∷◌, ◌++◌, map, length, Option, Some, None, All, IfSome, if◌then◌else◌, ⊤}
use Rattle.std.specs.List.{flat_map, position_or_len}
use Rattle.std.specs.Str.{bytes_eq}
use Rattle.rgo_typed.specs.declared.actions.Action.{Action}
use Rattle.rgo_typed.specs.declared.actions.Action.TheVariants as action
use Rattle.rgo_typed.specs.declared.types.Base.{Base}
use Rattle.rgo_typed.specs.declared.types.Base.TheVariants as base
use Rattle.rgo_typed.specs.declared.types.Type.{«Type»}
use Rattle.rgo_code.specs.Code.{Slot, CodeOp, CodeInstr, CodeFn, Code, Do, Call, Go, Print, Jump, Branch, Return}
use Rattle.rgo_code_printing.specs.Words.{name_at}
use Rattle.rgo_code_printing.specs.Text.{Names, action_words}
use Rattle.rgo_code_words.specs.Worded.{is_among, AreNames, IsSmallNumber, AreSmall, AreRegions, ClassFits, OperatorFits, IntFits, PieceFits, ValueFits, printed_value_count}

-- ---- instructions

-- The integer, the operator or the field of the action has a word. The number of a struct or a package variable is not limited here: it
-- is printed as a name, which is a matter of `KindIsWritten`.
abbrev pub ActionHasText : Action → Type 0
ActionHasText (action.Int k) = IntFits k
ActionHasText (action.Binary op) = OperatorFits op
ActionHasText (action.Load k) = IsSmallNumber k
ActionHasText (action.Store k) = IsSmallNumber k
ActionHasText (action.Bool b) = ⊤
ActionHasText action.Nil = ⊤
ActionHasText action.Copy = ⊤
ActionHasText action.Neg = ⊤
ActionHasText action.Not = ⊤
ActionHasText action.IsNil = ⊤
ActionHasText action.Len = ⊤
ActionHasText action.At = ⊤
ActionHasText action.Put = ⊤
ActionHasText (action.New n) = ⊤
ActionHasText action.Slice = ⊤
ActionHasText action.Chan = ⊤
ActionHasText action.Recv = ⊤
ActionHasText action.Send = ⊤
ActionHasText action.Close = ⊤
ActionHasText (action.Get n) = ⊤
ActionHasText (action.Set n) = ⊤

-- without names; whether an action has words does not depend on what its numbers name
abbrev pub empty_names : Names
empty_names = record { structs = []; variables = []; functions = [] }

-- the action with these operands is an instruction
abbrev pub IsInstruction : Action → Option ℕ → List ℕ → Type 0
IsInstruction action to from = action_words empty_names action to from ≢ []

-- the parts of the operation have words, and a print has as many variables as values among its pieces
abbrev pub OpHasText : CodeOp → Type 0
OpHasText (Do to action from removes) =
    IsInstruction action to from × ActionHasText action × ValueFits to × AreSmall from × AreRegions removes
OpHasText (Call to f from passes protects removes) =
    ValueFits to × AreSmall from × All ClassFits passes × AreRegions protects × AreRegions removes
OpHasText (Go f from passes removes) = AreSmall from × All ClassFits passes × AreRegions removes
OpHasText (Print pieces from removes) =
    All PieceFits pieces × (length from ≡ printed_value_count pieces) × AreSmall from × AreRegions removes
OpHasText (Jump target removes) = IsSmallNumber target × AreRegions removes
OpHasText (Branch test target removes other otherwise) =
    IsSmallNumber test × IsSmallNumber target × AreRegions removes × IsSmallNumber other × AreRegions otherwise
OpHasText (Return value) = ValueFits value

-- the place of the instruction, the names that it creates and its operation have words
abbrev pub InstrHasText : CodeInstr → Type 0
InstrHasText instr = IsSmallNumber instr.place × AreRegions instr.creates × OpHasText instr.op

-- the class of the variable or of the result has a word; its type has one if the struct in it has a name
abbrev pub SlotFits : Slot → Type 0
SlotFits s = ClassFits s.class

-- The parts of the function have words, except names, which are a matter of `KindIsWritten`. Each instruction has its number in its
-- line, so there are at most 2^32 of them.
pub record FnHasText (f : CodeFn) : Type 0 where
  pub params : IsSmallNumber f.params
  pub result : IfSome f.result SlotFits
  pub variables : All SlotFits f.variables
  pub entry : AreRegions f.entry
  pub indexes : length f.body ≤ 2 ^ 32
  pub body : All InstrHasText f.body

-- ---- uses of names

-- the number of the struct to which the type points; none for `int` and `bool`
abbrev pub base_uses : Base → List ℕ
base_uses (base.Pointer n) = n ∷ []
base_uses b = []

-- the struct that the type contains, below its layers
abbrev pub type_uses : «Type» → List ℕ
type_uses ty = base_uses ty.base

-- that of the type of a result, if there is one
abbrev pub result_uses : Option Slot → List ℕ
result_uses None = []
result_uses (Some s) = type_uses s.ty

-- what an action names, and its number
pub data ActionNaming : Type 0 where
  NamesNothing : ActionNaming
  NamesStruct : ℕ → ActionNaming
  NamesVariable : ℕ → ActionNaming

-- The struct of a `New` and the package variable of a `Get` or a `Set`. The field of a load or a store is printed as its number, so it
-- is not among them.
abbrev pub naming_of : Action → ActionNaming
naming_of (action.Int k) = NamesNothing
naming_of (action.Bool b) = NamesNothing
naming_of action.Nil = NamesNothing
naming_of action.Copy = NamesNothing
naming_of (action.Binary op) = NamesNothing
naming_of action.Neg = NamesNothing
naming_of action.Not = NamesNothing
naming_of action.IsNil = NamesNothing
naming_of action.Len = NamesNothing
naming_of (action.Load k) = NamesNothing
naming_of (action.Store k) = NamesNothing
naming_of action.At = NamesNothing
naming_of action.Put = NamesNothing
naming_of (action.New n) = NamesStruct n
naming_of action.Slice = NamesNothing
naming_of action.Chan = NamesNothing
naming_of action.Recv = NamesNothing
naming_of action.Send = NamesNothing
naming_of action.Close = NamesNothing
naming_of (action.Get n) = NamesVariable n
naming_of (action.Set n) = NamesVariable n

-- the struct, if one is named
abbrev pub struct_named : ActionNaming → List ℕ
struct_named NamesNothing = []
struct_named (NamesStruct n) = n ∷ []
struct_named (NamesVariable n) = []

-- the package variable, if one is named
abbrev pub variable_named : ActionNaming → List ℕ
variable_named NamesNothing = []
variable_named (NamesStruct n) = []
variable_named (NamesVariable n) = n ∷ []

-- the struct that the operation names, if any
abbrev pub struct_of_op : CodeOp → List ℕ
struct_of_op (Do to action from removes) = struct_named (naming_of action)
struct_of_op (Call to f from passes protects removes) = []
struct_of_op (Go f from passes removes) = []
struct_of_op (Print pieces from removes) = []
struct_of_op (Jump target removes) = []
struct_of_op (Branch test target removes other otherwise) = []
struct_of_op (Return value) = []

-- the package variable that it names, if any
abbrev pub variable_in : CodeOp → List ℕ
variable_in (Do to action from removes) = variable_named (naming_of action)
variable_in (Call to f from passes protects removes) = []
variable_in (Go f from passes removes) = []
variable_in (Print pieces from removes) = []
variable_in (Jump target removes) = []
variable_in (Branch test target removes other otherwise) = []
variable_in (Return value) = []

-- the function that it calls or starts, if any
abbrev pub function_in : CodeOp → List ℕ
function_in (Call to f from passes protects removes) = f ∷ []
function_in (Go f from passes removes) = f ∷ []
function_in (Do to action from removes) = []
function_in (Print pieces from removes) = []
function_in (Jump target removes) = []
function_in (Branch test target removes other otherwise) = []
function_in (Return value) = []

-- the structs that the function uses, in the order of its text and with repetitions: in its result, its variables and its instructions
abbrev pub fn_structs : CodeFn → List ℕ
fn_structs f =
    result_uses f.result ++ (flat_map (λ s. type_uses s.ty) f.variables ++ flat_map (λ i. struct_of_op i.op) f.body)

-- the package variables that its instructions use, in order
abbrev pub fn_variables : CodeFn → List ℕ
fn_variables f = flat_map (λ i. variable_in i.op) f.body

-- the functions that its instructions call or start, in order
abbrev pub fn_functions : CodeFn → List ℕ
fn_functions f = flat_map (λ i. function_in i.op) f.body

-- the numbers that the code uses, in the order of its text
pub record UsedNumbers : Type 0 where
  pub structs : List ℕ
  pub variables : List ℕ
  pub functions : List ℕ

-- Fields and package variables use structs, and functions use all three kinds. The first line of a function is not a use of it.
abbrev pub uses_of : Code → UsedNumbers
uses_of code = record {
  structs = flat_map (λ s. flat_map type_uses s.fields) code.structs
      ++ (flat_map (λ v. type_uses v.ty) code.variables ++ flat_map fn_structs code.functions);
  variables = flat_map fn_variables code.functions;
  functions = flat_map fn_functions code.functions;
}

-- the number of the first of these names
abbrev pub number_of_name : List (List ℕ) → List ℕ → ℕ
number_of_name names name = position_or_len (λ known. bytes_eq known name) names

-- Each is the number of the first one of its name. Code with another number would have the same text, which shows names only.
abbrev pub AreFirst : List (List ℕ) → List ℕ → Type 0
AreFirst names ns = All (λ n. (n < length names) × (number_of_name names (name_at names n) ≡ n)) ns

-- the names that are not known, in the order of their first use, each once: the order in which a reader of the text meets them
abbrev pub unknown : (known names : List (List ℕ)) → List (List ℕ)
unknown known [] = []
unknown known (name ∷ names) =
    if is_among known name then unknown known names else name ∷ unknown (name ∷ known) names

-- ---- code

-- one kind: what is declared, what else is used, and the numbers that are used
pub record KindIsWritten (declared undeclared : List (List ℕ)) (uses : List ℕ) : Type 0 where
  pub names : AreNames (declared ++ undeclared)
  pub first : AreFirst (declared ++ undeclared) uses
  pub unknown : undeclared ≡ unknown declared (map (name_at (declared ++ undeclared)) uses)

-- the code has a text
pub record HasCodeText (code : Code) : Type 0 where
  pub structs : KindIsWritten (map (λ s. s.name) code.structs) code.undeclared.structs (uses_of code).structs
  pub variables : KindIsWritten (map (λ v. v.name) code.variables) code.undeclared.variables (uses_of code).variables
  pub functions : KindIsWritten (map (λ f. f.name) code.functions) code.undeclared.functions (uses_of code).functions
  pub fits : All FnHasText code.functions
