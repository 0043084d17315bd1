-- How large the code of a program is at most, counted over its tree, so that it is known before there is any code. What is
-- counted are the instructions, variables, lists of variables, texts and labels of a function, all together: each of them
-- has a number of 32 bits below this count. The program of a text of n bytes counts at most 12 n + 12, by the law of
-- rgo_size_laws, so the program of a text of at most 1,048,576 bytes is never too large.
use Rattle.std.specs.Prelude.{ℕ, ◌+◌, ◌*◌, ◌^◌, ◌≤◌, max, List, [], ◌∷◌, length, Option, Some, None}
use Rattle.rgo_typed.specs.declared.programs.Struct.{Struct}
use Rattle.rgo_typed.specs.Tree as tree
use Rattle.rgo_typed.specs.Tree.{Term, Terms, Stmt, Stmts, stmts_of, Function, Typed}

-- an instruction counts 3: it has at most two of a variable, a list and a text of its own
abbrev mutual
  pub term_size : Term → ℕ
  term_size (tree.Local n) = 0
  term_size (tree.Apply action parts ty place) = terms_size parts + 3
  -- three instructions and two labels
  term_size (tree.Logic logic left right place) = term_size left + term_size right + 11
  -- one store for each field
  term_size (tree.Build n parts fields place) = terms_size parts + length fields * 3 + 3
  term_size (tree.Call n arguments ty place) = terms_size arguments + 3

  pub terms_size : Terms → ℕ
  terms_size tree.no_terms = 0
  terms_size (tree.a_term t ts) = term_size t + terms_size ts

abbrev pub value_size : Option Term → ℕ
value_size None = 0
value_size (Some t) = term_size t

-- a branch counts 4, with its label; `if` has one label of its own, with `else` two, and a loop three
abbrev mutual
  pub stmt_size : Stmt → ℕ
  stmt_size (tree.Block all) = stmts_size all
  stmt_size (tree.Declare n ty value place) = term_size value + 3
  stmt_size (tree.Zero n ty place) = 3
  stmt_size (tree.Assign n value place) = term_size value + 3
  stmt_size (tree.Perform action operands place) = terms_size operands + 3
  -- the read, the operation, the write
  stmt_size (tree.Update change) = terms_size change.operands + term_size change.value + 9
  stmt_size (tree.Discard value) = term_size value
  stmt_size (tree.Invoke n arguments place) = terms_size arguments + 3
  stmt_size (tree.Go n arguments place) = terms_size arguments + 3
  stmt_size (tree.Print pieces values place) = terms_size values + 3
  stmt_size (tree.If test body place) = term_size test + stmts_size body + 5
  stmt_size (tree.IfElse test body other place) = term_size test + stmts_size body + stmts_size other + 9
  stmt_size (tree.Loop test body post place) = value_size test + stmts_size body + stmts_size post + 10
  stmt_size (tree.Break place) = 3
  stmt_size (tree.Continue place) = 3
  stmt_size (tree.Return value place) = value_size value + 3

  pub stmts_size : Stmts → ℕ
  stmts_size tree.no_stmts = 0
  stmts_size (tree.a_stmt s all) = stmt_size s + stmts_size all

-- with its local variables, and at its end an instruction and a label
abbrev pub function_size : Function → ℕ
function_size f = stmts_size (stmts_of f.body) + length f.locals + f.params + 4

abbrev pub largest_of : List Function → ℕ
largest_of [] = 0
largest_of (f ∷ functions) = max (function_size f) (largest_of functions)

abbrev pub most_struct_fields : List Struct → ℕ
most_struct_fields [] = 0
most_struct_fields (s ∷ structs) = max (length s.fields) (most_struct_fields structs)

-- the largest of the counts: of structs, of the fields of one, of package variables, of functions, and of a function's code
abbrev pub program_size : Typed → ℕ
program_size p =
    max (max (length p.structs) (most_struct_fields p.structs))
    (max (length p.variables) (max (length p.functions) (largest_of p.functions)))

-- a count is too large for numbers of 32 bits, the two largest of which are not used as numbers of variables
abbrev pub IsTooLargeToLower : Typed → Type 0
IsTooLargeToLower p = 2 ^ 32 ≤ program_size p + 2
