-- The lines of a code text, by number. Line 1 is the head of the text. The numbers are defined on code and not on its text, so a checker
-- can name a line without printing.
use Rattle.std.specs.Prelude.{ℕ, zero, suc, ◌+◌, ◌-◌, List, [], ◌∷◌, Option, Some, None, length, slice_get}
use Rattle.rgo_code.specs.declared.rules.Line.{Line}
use Rattle.rgo_code.specs.declared.rules.Line.TheVariants as line
use Rattle.rgo_code.specs.Code.{CodeFn, Code}

-- its head, a line for each variable, the removals at entry, a line for each instruction, and its end
abbrev pub function_lines : CodeFn → ℕ
function_lines f = length f.variables + length f.body + 3

-- the number of lines of the first n of the functions; of all functions, if there are fewer
abbrev pub lines_before : List CodeFn → ℕ → ℕ
lines_before [] n = 0
lines_before (f ∷ fs) zero = 0
lines_before (f ∷ fs) (suc n) = function_lines f + lines_before fs n

-- The number of the line `func` of function n. If n is the number of functions, it is that of the line after the last.
abbrev pub function_line : Code → ℕ → ℕ
function_line code n = 2 + length code.structs + length code.variables + lines_before code.functions n

-- the number of variables, each of which has a line; 0 for a function that the code does not have
abbrev pub variable_count : Option CodeFn → ℕ
variable_count None = 0
variable_count (Some f) = length f.variables

-- The number of a line, counted from 1. A line that the code does not have also gets a number. This does no harm, since `KeptAt`
-- requires nothing there.
abbrev pub line_number : Code → Line → ℕ
line_number code (line.Struct n) = 2 + n
line_number code (line.Variable n) = 2 + length code.structs + n
line_number code (line.Function n) = function_line code n
line_number code (line.Slot n v) = function_line code n + 1 + v
line_number code (line.Entry n) = function_line code n + 1 + variable_count (slice_get code.functions n)
line_number code (line.Instr n i) = function_line code n + 2 + variable_count (slice_get code.functions n) + i
line_number code (line.End n) = function_line code (n + 1) - 1
line_number code line.AfterLast = function_line code (length code.functions)
