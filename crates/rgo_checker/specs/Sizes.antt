-- How many lines code has, and which code has too many.
use Rattle.std.specs.Prelude.{ℕ, ◌+◌, ◌<◌, ◌≤◌, ◌^◌, List, [], ◌∷◌, length}
use Rattle.rgo_tac.specs.Code.{TacFn}
use Rattle.rgo_code.specs.declared.rules.Line.TheVariants.{AfterLast}
use Rattle.rgo_code.specs.Code.{Code}
use Rattle.rgo_code.specs.Lines.{line_number}

-- the lines of a function, and of several, by their three-address code
abbrev pub function_line_count : TacFn → ℕ
function_line_count f = length f.variables + length f.body + 3

abbrev pub functions_lines : List TacFn → ℕ
functions_lines [] = 0
functions_lines (f ∷ fs) = function_line_count f + functions_lines fs

-- The greatest number of a line, that of the end of the text, does not have 32 bits. The end counts as a line, since a missing `main` is
-- refused there.
abbrev pub IsTooLargeToCheck : Code → Type 0
IsTooLargeToCheck code = 2 ^ 32 ≤ line_number code AfterLast

-- it has, and so have those of all lines before it
abbrev pub HasNumbers : Code → Type 0
HasNumbers code = line_number code AfterLast < 2 ^ 32
