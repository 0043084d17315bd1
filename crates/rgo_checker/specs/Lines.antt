-- The lines of a code text after its first, in order.
use Rattle.std.specs.Prelude.{ℕ, zero, suc, ◌+◌, List, [], ◌∷◌, ◌++◌, length}
use Rattle.rgo_typed.specs.declared.programs.Struct.{Struct}
use Rattle.rgo_typed.specs.declared.programs.Variable.{Variable}
use Rattle.rgo_code.specs.declared.rules.Line.{Line}
use Rattle.rgo_code.specs.declared.rules.Line.TheVariants as line
use Rattle.rgo_code.specs.Code.{Slot, CodeInstr, CodeFn, Code}

-- the lines of the numbers below n
abbrev pub first_lines : (ℕ → Line) → ℕ → List Line
first_lines line zero = []
first_lines line (suc n) = first_lines line n ++ line n ∷ []

abbrev pub struct_lines : List Struct → List Line
struct_lines ss = first_lines line.Struct (length ss)

abbrev pub variable_lines : List Variable → List Line
variable_lines vs = first_lines line.Variable (length vs)

abbrev pub lines_of_slots : ℕ → List Slot → List Line
lines_of_slots n ss = first_lines (line.Slot n) (length ss)

abbrev pub lines_of_instrs : ℕ → List CodeInstr → List Line
lines_of_instrs n xs = first_lines (line.Instr n) (length xs)

-- of a function: its head, its variables, the removals at entry, its instructions, its end
abbrev pub lines_of_function : ℕ → CodeFn → List Line
lines_of_function n f =
    line.Function n ∷ (lines_of_slots n f.variables ++ (line.Entry n ∷ (lines_of_instrs n f.body ++ line.End n ∷ [])))

-- of the functions from number n on
abbrev pub functions_lines : ℕ → List CodeFn → List Line
functions_lines n [] = []
functions_lines n (f ∷ fs) = lines_of_function n f ++ functions_lines (n + 1) fs

abbrev pub lines_of : Code → List Line
lines_of code =
    struct_lines code.structs
    ++ (variable_lines code.variables ++ (functions_lines 0 code.functions ++ line.AfterLast ∷ []))
