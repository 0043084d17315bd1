-- Type soundness: the typed tree of a program in which no node breaks a rule is well-formed.
use Rattle.std.specs.Prelude.{◌≡◌, List, None}
use Rattle.std.specs.List.{AllByRecursion}
use Rattle.rgo_ast.specs.Tree.{Program, Import, Decl}
use Rattle.rgo_lexer.specs.Lexemes.{Lexeme}
use Rattle.rgo_grammar.specs.Grammar.{IsProgram}
use Rattle.rgo_typing_rules.specs.Sites.{first_refusal}
use Rattle.rgo_types.specs.Programs.{sites_of, typed_program}
use Rattle.rgo_typing_laws.specs.Headers.{DeclHasHeaders, ProgramHasHeaders}
use Rattle.rgo_wellformed.specs.Endings.{Ends}
use Rattle.rgo_wellformed.specs.WellFormed.{IsWellFormed}

abbrev pub TypedIsWellFormed : Type 0
TypedIsWellFormed =
    (program : Program) → ProgramHasHeaders program → first_refusal (sites_of program) ≡ None
    → IsWellFormed (typed_program program)

-- a function with a result never reaches the end of its body
abbrev pub TypedEnds : Type 0
TypedEnds =
    (program : Program) → ProgramHasHeaders program → first_refusal (sites_of program) ≡ None
    → AllByRecursion Ends (typed_program program).functions

-- every tree that the grammar derives has headers as in Headers.antt
abbrev pub GrammarHasHeaders : Type 0
GrammarHasHeaders =
    (l : List Lexeme) (imports : List Import) (decls : List Decl) → IsProgram l imports decls
    → AllByRecursion DeclHasHeaders decls

-- hence both hold for every tree that the grammar derives
abbrev pub ParsedIsWellFormed : Type 0
ParsedIsWellFormed =
    (l : List Lexeme) (program : Program) → IsProgram l program.imports program.decls
    → first_refusal (sites_of program) ≡ None
    → IsWellFormed (typed_program program) × AllByRecursion Ends (typed_program program).functions

-- Other trees may not be well-formed: if the post statement of a `for` declares a variable, the rules allow its body to
-- use the variable, but the typed body would use it before its declaration.
abbrev pub HeadersAreNeeded : Type 0
HeadersAreNeeded =
    (program : Program) × (first_refusal (sites_of program) ≡ None) × (IsWellFormed (typed_program program) → ⊥)
