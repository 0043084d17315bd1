-- Code, line by line, with the numbers of what its lines name.
use Rattle.std.specs.Prelude.{ℕ, ◌+◌, List, [], ◌∷◌, ◌++◌, map, Option, None, codes, decimal, ⊤, IfSome}
use Rattle.std.specs.List.{flat_map}
use Rattle.rgo_typed.specs.declared.programs.Struct.{Struct as StructType}
use Rattle.rgo_typed.specs.declared.programs.Variable.{Variable}
use Rattle.rgo_code.specs.Code.{Slot, CodeInstr, CodeFn, Code}
use Rattle.rgo_code_text.specs.Order.{Kind, OfHead, OfStruct, OfGlobal, OfFunction, OfSlot, OfEntry, OfInstr, OfEnd}
use Rattle.rgo_code_printing.specs.Text.{Names, struct_line_words, global_words, result_words, slot_words, entry_words, instr_words}
use Rattle.rgo_code_text.specs.Written.{type_uses, result_uses, struct_of_op, variable_in, function_in, SlotFits, InstrHasText}
use Rattle.rgo_code_words.specs.Worded.{IsSmallNumber, AreRegions}

pub data Line : Type 0 where
  Head : Line
  Struct : (s : StructType) → Line
  Global : (v : Variable) → Line
  Function : (name : List ℕ) (params : ℕ) (result : Option Slot) → Line
  Var : (slot : Slot) → Line
  Entry : (names : List ℕ) → Line
  Instr : (i : ℕ) (instr : CodeInstr) → Line
  End : Line

-- ---- the lines of code

abbrev pub instrs_from : (i : ℕ) → List CodeInstr → List Line
instrs_from i [] = []
instrs_from i (instr ∷ body) = Instr i instr ∷ instrs_from (i + 1) body

abbrev pub code_lines_of_fn : CodeFn → List Line
code_lines_of_fn f =
    Function f.name f.params f.result
    ∷ (map Var f.variables ++ (Entry f.entry ∷ (instrs_from 0 f.body ++ End ∷ [])))

abbrev pub code_lines_of : Code → List Line
code_lines_of code = Head ∷ (map Struct code.structs ++ (map Global code.variables ++ flat_map code_lines_of_fn code.functions))

-- ---- what is said of a line

abbrev pub line_kind : Line → Kind
line_kind Head = OfHead
line_kind (Struct s) = OfStruct
line_kind (Global v) = OfGlobal
line_kind (Function name params result) = OfFunction
line_kind (Var slot) = OfSlot
line_kind (Entry names) = OfEntry
line_kind (Instr i instr) = OfInstr i
line_kind End = OfEnd

abbrev pub line_words : Names → Line → List (List ℕ)
line_words n Head = codes "rgo" ∷ codes "code" ∷ codes "1" ∷ []
line_words n (Struct s) = struct_line_words n s
line_words n (Global v) = global_words n v
line_words n (Function name params result) = codes "func" ∷ name ∷ decimal params ∷ result_words n result
line_words n (Var slot) = slot_words n slot
line_words n (Entry names) = entry_words names
line_words n (Instr i instr) = instr_words n i instr
line_words n End = codes "end" ∷ []

abbrev pub LineFits : Line → Type 0
LineFits (Function name params result) = IsSmallNumber params × IfSome result SlotFits
LineFits (Var slot) = SlotFits slot
LineFits (Entry names) = AreRegions names
LineFits (Instr i instr) = IsSmallNumber i × InstrHasText instr
LineFits line = ⊤

-- the names that it declares, and the numbers that it uses
abbrev pub line_struct : Line → List (List ℕ)
line_struct (Struct s) = s.name ∷ []
line_struct line = []

abbrev pub line_variable : Line → List (List ℕ)
line_variable (Global v) = v.name ∷ []
line_variable line = []

abbrev pub line_function : Line → List (List ℕ)
line_function (Function name params result) = name ∷ []
line_function line = []

abbrev pub uses_structs : Line → List ℕ
uses_structs (Struct s) = flat_map type_uses s.fields
uses_structs (Global v) = type_uses v.ty
uses_structs (Function name params result) = result_uses result
uses_structs (Var slot) = type_uses slot.ty
uses_structs (Instr i instr) = struct_of_op instr.op
uses_structs line = []

abbrev pub uses_variables : Line → List ℕ
uses_variables (Instr i instr) = variable_in instr.op
uses_variables line = []

abbrev pub uses_functions : Line → List ℕ
uses_functions (Instr i instr) = function_in instr.op
uses_functions line = []

-- ---- code that is made of lines

-- `current` is the function whose end was not read yet
pub record Building : Type 0 where
  pub structs : List StructType
  pub variables : List Variable
  pub functions : List CodeFn
  pub current : CodeFn

abbrev pub no_function : CodeFn
no_function = record { name = []; params = 0; result = None; variables = []; entry = []; body = [] }

abbrev pub empty_building : Building
empty_building = record { structs = []; variables = []; functions = []; current = no_function }

abbrev pub with_line : Building → Line → Building
with_line b Head = b
with_line b (Struct s) = record b { structs = b.structs ++ s ∷ [] }
with_line b (Global v) = record b { variables = b.variables ++ v ∷ [] }
with_line b (Function name params result) =
    record b { current = record no_function { name = name; params = params; result = result } }
with_line b (Var slot) = record b { current = record b.current { variables = b.current.variables ++ slot ∷ [] } }
with_line b (Entry names) = record b { current = record b.current { entry = names } }
with_line b (Instr i instr) = record b { current = record b.current { body = b.current.body ++ instr ∷ [] } }
with_line b End = record b { functions = b.functions ++ b.current ∷ []; current = no_function }

abbrev pub with_lines : Building → List Line → Building
with_lines b [] = b
with_lines b (line ∷ lines) = with_lines (with_line b line) lines
