-- The text of code: its lines, each by its words.
use Rattle.std.specs.Fmt.{signed_decimal}
use Rattle.std.specs.Prelude.{ℕ, ◌+◌, List, [], ◌∷◌, ◌++◌, map, Option, Some, None, codes, decimal}
use Rattle.std.specs.List.{join_with_byte, flat_map}
use Rattle.rgo_typed.specs.declared.actions.Action.{Action}
use Rattle.rgo_typed.specs.declared.actions.Action.TheVariants as action
use Rattle.rgo_typed.specs.declared.programs.Struct.{Struct}
use Rattle.rgo_typed.specs.declared.programs.Variable.{Variable}
use Rattle.rgo_code.specs.Code.{Slot, CodeOp, CodeInstr, CodeFn, Code, Do, Call, Go, Print, Jump, Branch, Return}
use Rattle.rgo_code_printing.specs.Words.{variable_word, place_word, bool_word, class_word, name_at, operator_word}
use Rattle.rgo_code_printing.specs.Words.{creates_word, removes_word, passes_word, protects_word}
use Rattle.rgo_code_printing.specs.Words.{callee_word, type_word}
use Rattle.rgo_code_printing.specs.Words.{piece_words, in_one}

-- the names of structs, package variables and functions, each kind by number
pub record Names : Type 0 where
  pub structs : List (List ℕ)
  pub variables : List (List ℕ)
  pub functions : List (List ℕ)

-- those of what is declared, and then of what is used but not declared: code that breaks the first rule has a text, too
abbrev pub names_of : Code → Names
names_of code = record {
  structs = map (λ s. s.name) code.structs ++ code.undeclared.structs;
  variables = map (λ v. v.name) code.variables ++ code.undeclared.variables;
  functions = map (λ f. f.name) code.functions ++ code.undeclared.functions;
}

-- ---- instructions

-- Actions with other operands have no words: they are not instructions, and whether there are words is how readers ask for that.
abbrev pub action_words : Names → Action → Option ℕ → List ℕ → List (List ℕ)
action_words n (action.Int k) (Some d) [] = codes "int" ∷ variable_word d ∷ signed_decimal k ∷ []
action_words n (action.Bool b) (Some d) [] = codes "bool" ∷ variable_word d ∷ bool_word b ∷ []
action_words n action.Nil (Some d) [] = codes "nil" ∷ variable_word d ∷ []
action_words n action.Copy (Some d) (a ∷ []) = codes "copy" ∷ variable_word d ∷ variable_word a ∷ []
action_words n (action.Binary op) (Some d) (a ∷ b ∷ []) =
    codes "bin" ∷ variable_word d ∷ operator_word op ∷ variable_word a ∷ variable_word b ∷ []
action_words n action.Neg (Some d) (a ∷ []) = codes "neg" ∷ variable_word d ∷ variable_word a ∷ []
action_words n action.Not (Some d) (a ∷ []) = codes "not" ∷ variable_word d ∷ variable_word a ∷ []
action_words n action.IsNil (Some d) (a ∷ []) = codes "isnil" ∷ variable_word d ∷ variable_word a ∷ []
action_words n action.Len (Some d) (a ∷ []) = codes "len" ∷ variable_word d ∷ variable_word a ∷ []
action_words n (action.Load k) (Some d) (a ∷ []) = codes "load" ∷ variable_word d ∷ variable_word a ∷ decimal k ∷ []
action_words n (action.Store k) None (a ∷ b ∷ []) = codes "store" ∷ variable_word a ∷ decimal k ∷ variable_word b ∷ []
action_words n action.At (Some d) (a ∷ i ∷ []) = codes "at" ∷ variable_word d ∷ variable_word a ∷ variable_word i ∷ []
action_words n action.Put None (a ∷ i ∷ b ∷ []) = codes "put" ∷ variable_word a ∷ variable_word i ∷ variable_word b ∷ []
action_words n (action.New s) (Some d) [] = codes "new" ∷ variable_word d ∷ name_at n.structs s ∷ []
action_words n action.Slice (Some d) (a ∷ []) = codes "slice" ∷ variable_word d ∷ variable_word a ∷ []
action_words n action.Chan (Some d) (a ∷ []) = codes "chan" ∷ variable_word d ∷ variable_word a ∷ []
action_words n action.Recv (Some d) (a ∷ []) = codes "recv" ∷ variable_word d ∷ variable_word a ∷ []
action_words n action.Send None (a ∷ b ∷ []) = codes "send" ∷ variable_word a ∷ variable_word b ∷ []
action_words n action.Close None (a ∷ []) = codes "close" ∷ variable_word a ∷ []
action_words n (action.Get g) (Some d) [] = codes "get" ∷ variable_word d ∷ name_at n.variables g ∷ []
action_words n (action.Set g) None (a ∷ []) = codes "set" ∷ name_at n.variables g ∷ variable_word a ∷ []
action_words n (action.Int k) to from = []
action_words n (action.Bool b) to from = []
action_words n action.Nil to from = []
action_words n action.Copy to from = []
action_words n (action.Binary op) to from = []
action_words n action.Neg to from = []
action_words n action.Not to from = []
action_words n action.IsNil to from = []
action_words n action.Len to from = []
action_words n (action.Load k) to from = []
action_words n (action.Store k) to from = []
action_words n action.At to from = []
action_words n action.Put to from = []
action_words n (action.New s) to from = []
action_words n action.Slice to from = []
action_words n action.Chan to from = []
action_words n action.Recv to from = []
action_words n action.Send to from = []
action_words n action.Close to from = []
action_words n (action.Get g) to from = []
action_words n (action.Set g) to from = []

-- the variable of a call's result, or of a returned value
abbrev pub value_word : Option ℕ → List ℕ
value_word (Some v) = variable_word v
value_word None = codes "-"

-- The words of an operation, the last part of its line. A struct, a package variable or a function is printed by its name in n, all
-- else by its number.
abbrev pub op_words : Names → CodeOp → List (List ℕ)
op_words n (Do to action from removes) = action_words n action to from ++ removes_word removes ∷ []
op_words n (Call to f from passes protects removes) =
    codes "call" ∷ value_word to ∷ callee_word (name_at n.functions f) from ∷ passes_word passes
    ∷ protects_word protects ∷ removes_word removes ∷ []
op_words n (Go f from passes removes) =
    codes "go" ∷ callee_word (name_at n.functions f) from ∷ passes_word passes ∷ removes_word removes ∷ []
op_words n (Print pieces from removes) =
    codes "print" ∷ (in_one (piece_words pieces from 0) ++ removes_word removes ∷ [])
op_words n (Jump target removes) = codes "jump" ∷ decimal target ∷ removes_word removes ∷ []
op_words n (Branch test target removes other otherwise) =
    codes "branch" ∷ variable_word test ∷ decimal target ∷ removes_word removes ∷ decimal other
    ∷ removes_word otherwise ∷ []
op_words n (Return value) = codes "return" ∷ value_word value ∷ []

-- the instruction of number i
abbrev pub instr_words : Names → (i : ℕ) → CodeInstr → List (List ℕ)
instr_words n i instr = decimal i ∷ place_word instr.place ∷ creates_word instr.creates ∷ op_words n instr.op

-- ---- lines

-- the line of a struct: its name and the types of its fields
abbrev pub struct_line_words : Names → Struct → List (List ℕ)
struct_line_words n s = codes "struct" ∷ s.name ∷ map (type_word n.structs) s.fields

-- the line of a package variable: its name and its type
abbrev pub global_words : Names → Variable → List (List ℕ)
global_words n v = codes "global" ∷ v.name ∷ type_word n.structs v.ty ∷ []

-- the type and the class of a result, or `- -` for a function without one
abbrev pub result_words : Names → Option Slot → List (List ℕ)
result_words n None = codes "-" ∷ codes "-" ∷ []
result_words n (Some s) = type_word n.structs s.ty ∷ class_word s.class ∷ []

-- the line `func`: the name, the number of parameters, and the result
abbrev pub head_words : Names → CodeFn → List (List ℕ)
head_words n f = codes "func" ∷ f.name ∷ decimal f.params ∷ result_words n f.result

-- the line of a variable: its type and its class
abbrev pub slot_words : Names → Slot → List (List ℕ)
slot_words n s = codes "var" ∷ type_word n.structs s.ty ∷ class_word s.class ∷ []

-- the line `entry`: the names that are removed before the first instruction
abbrev pub entry_words : List ℕ → List (List ℕ)
entry_words names = codes "entry" ∷ removes_word names ∷ []

-- the instructions from number i on
abbrev pub body_lines : Names → (i : ℕ) → List CodeInstr → List (List (List ℕ))
body_lines n i [] = []
body_lines n i (instr ∷ body) = instr_words n i instr ∷ body_lines n (i + 1) body

-- the lines of a function, each a list of words: its head, its variables, the removals at entry, its instructions, and `end`
abbrev pub fn_lines : Names → CodeFn → List (List (List ℕ))
fn_lines n f =
    head_words n f ∷ (map (slot_words n) f.variables
    ++ (entry_words f.entry ∷ (body_lines n 0 f.body ++ (codes "end" ∷ []) ∷ [])))

-- all lines of the code, in which n has the names of what it numbers; the first line is `rgo code 1`
abbrev pub lines_with : Names → Code → List (List (List ℕ))
lines_with n code =
    (codes "rgo" ∷ codes "code" ∷ codes "1" ∷ [])
    ∷ (map (struct_line_words n) code.structs
    ++ (map (global_words n) code.variables ++ flat_map (fn_lines n) code.functions))

-- ---- texts

-- words with a space between them, and a newline
abbrev pub line : List (List ℕ) → List ℕ
line words = join_with_byte 32 words ++ 10 ∷ []

-- The text of code. Code whose parts have no proper words gets a text as well, from which it cannot be read back. Written.antt of
-- rgo_code_text excludes such code.
unfoldable pub text_of : Code → List ℕ
text_of code = flat_map line (lines_with (names_of code) code)
