-- The count of a program is at most 12 for each of its lexemes.
use Rattle.std.proofs.Common.{List, length, arith, length-append}
use Rattle.rgo_ast.specs.Tree.{Import, Decl}
use Rattle.rgo_lexer.specs.Lexemes.{Lexeme}
use Rattle.rgo_grammar.specs.Grammar as grammar
use Rattle.rgo_grammar.specs.Grammar.{IsProgram}
use Rattle.rgo_typing_expressions.specs.Packages.{Context}
use Rattle.rgo_typing_packages.specs.Packages.{outside_functions, named_package, package_of}
use Rattle.rgo_typing_packages.specs.Signatures.{no_signatures, with_decls}
use Rattle.rgo_types.specs.Programs.{typed_functions}
use Rattle.rgo_size_laws.specs.Laws.{SizeIsLinear, NeverTooLarge}
use Rattle.rgo_size_laws.proofs.Declarations.{Within, Few, decls_within, functions_small}
use Rattle.rgo_size_laws.proofs.Lexemes.{lexemes_few}

-- what a program declares, and its functions
program_small : {l : List Lexeme} {imports : List Import} {decls : List Decl} → IsProgram l imports decls
    → (names c : Context) → Within (length l) (with_decls names no_signatures decls) × Few (length l) (typed_functions c decls)
program_small (grammar.IsProgram.program i j k {x = x} {y = y} {decls = decls} is all) names c =
    let declared = decls_within all names no_signatures 0 (record {
      structs = omega arith;
      fields = omega arith;
      variables = omega arith;
    }) in
    let functions = functions_small all c in
    let long = length-append x y in (
      record {
        structs = omega (arith, declared.structs, long);
        fields = omega (arith, declared.fields, long);
        variables = omega (arith, declared.variables, long);
      },
      record { many = omega (arith, functions.many, long); largest = omega (arith, functions.largest, long) },
    )

pub size_linear : SizeIsLinear
size_linear lexemes program h =
    let both = program_small h (outside_functions (named_package program)) (outside_functions (package_of program)) in
    omega (arith, both.0.structs, both.0.fields, both.0.variables, both.1.many, both.1.largest)

pub never_large : NeverTooLarge
never_large text lexemes program t h few large =
    omega (arith, lexemes_few text lexemes t, size_linear lexemes program h, few, large)
