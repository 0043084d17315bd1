-- The size of a program's code is linear in the length of its text: first lexemes by bytes, then code by lexemes. Lowering refuses a
-- program that is too large; a text has at most 1 MiB, so by this law that never happens, and no command has an ending for it.
use Rattle.std.specs.Prelude.{ℕ, ◌+◌, ◌*◌, ◌^◌, ◌≤◌, List, length}
use Rattle.rgo_ast.specs.Tree.{Program}
use Rattle.rgo_lexer.specs.Lexemes.{Lexeme}
use Rattle.rgo_lexer.specs.Lexing.{LexesAs}
use Rattle.rgo_grammar.specs.Grammar.{IsProgram}
use Rattle.rgo_types.specs.Programs.{typed_program}
use Rattle.rgo_lower.specs.Sizes.{program_size, IsTooLargeToLower}

-- a text has at most one lexeme per byte, plus one
abbrev pub LexemesAreFew : Type 0
LexemesAreFew = (text : List ℕ) (lexemes : List Lexeme) → LexesAs text lexemes → length lexemes ≤ length text + 1

-- the code has size at most 12 per lexeme, whether or not the program is valid
abbrev pub SizeIsLinear : Type 0
SizeIsLinear =
    (lexemes : List Lexeme) (program : Program) → IsProgram lexemes program.imports program.decls
    → program_size (typed_program program) ≤ 12 * length lexemes

-- so no text of at most 256 MiB has a program that is too large
abbrev pub NeverTooLarge : Type 0
NeverTooLarge =
    (text : List ℕ) (lexemes : List Lexeme) (program : Program) → LexesAs text lexemes
    → IsProgram lexemes program.imports program.decls → length text ≤ 2 ^ 28
    → IsTooLargeToLower (typed_program program) → ⊥
