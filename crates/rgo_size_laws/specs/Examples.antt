-- A text with the size of its code, and programs that are too large to be lowered.
use Rattle.std.specs.Prelude.{◌≡◌, ◌↔◌, ℕ, ◌≤◌, codes, List, [], ◌∷◌, None, replicate}
use Rattle.rgo_ast.specs.Tree as source
use Rattle.rgo_ast.specs.Tree.{Program}
use Rattle.rgo_lexer.specs.Lexemes.{Lexeme, leaf, tok}
use Rattle.rgo_lexer.specs.Lexing.{LexesAs}
use Rattle.rgo_lexer.specs.declared.terminals.Terminal.TheVariants.{Package, Main, Semicolon, Func, Name, OpenParen}
use Rattle.rgo_lexer.specs.declared.terminals.Terminal.TheVariants.{CloseParen, OpenBrace, For, CloseBrace}
use Rattle.rgo_grammar.specs.Grammar.{IsProgram}
use Rattle.rgo_typed.specs.Tree as tree
use Rattle.rgo_typed.specs.Tree.{Typed}
use Rattle.rgo_types.specs.Programs.{typed_program}
use Rattle.rgo_lower.specs.Sizes.{program_size, IsTooLargeToLower}

-- an endless loop, in 31 bytes
abbrev pub loop_text : List ℕ
loop_text = codes "package main\nfunc main(){for{}}"

abbrev pub loop_lexemes : List Lexeme
loop_lexemes =
    tok Package (leaf 0 (codes "package")) ∷ tok Main (leaf 8 (codes "main")) ∷ tok Semicolon (leaf 12 []) ∷
    tok Func (leaf 13 (codes "func")) ∷ tok Name (leaf 18 (codes "main")) ∷ tok OpenParen (leaf 22 (codes "(")) ∷
    tok CloseParen (leaf 23 (codes ")")) ∷ tok OpenBrace (leaf 24 (codes "{")) ∷ tok For (leaf 25 (codes "for")) ∷
    tok OpenBrace (leaf 28 (codes "{")) ∷ tok CloseBrace (leaf 29 (codes "}")) ∷
    tok CloseBrace (leaf 30 (codes "}")) ∷ tok Semicolon (leaf 31 []) ∷ []

abbrev pub loop_program : Program
loop_program = record {
  imports = [];
  decls = source.Func (record {
    name = record { name = codes "main"; at = 18 };
    params = [];
    result_type = None;
    body = source.For source.no_clause None source.no_clause source.no_stmts 25 ∷ [];
    at = 13;
    end = 30;
  }) ∷ [];
  end = 31;
}

-- n structs without fields, and nothing else
abbrev pub only_structs : ℕ → Typed
only_structs n = record {
  structs = replicate n (record { name = codes "S"; fields = [] });
  variables = [];
  functions = [];
}

-- one function with n `break` statements
abbrev pub of_breaks : ℕ → Typed
of_breaks n = record {
  structs = [];
  variables = [];
  functions = record {
    name = codes "main";
    params = 0;
    locals = [];
    result_type = None;
    body = replicate n (tree.Break 0);
    end = 0;
  } ∷ [];
}

pub record SizeExamples : Type 0 where
  -- the text has 13 lexemes, and the code of its program has size 14
  pub lexed : LexesAs loop_text loop_lexemes
  pub derived : IsProgram loop_lexemes loop_program.imports loop_program.decls
  pub counted : program_size (typed_program loop_program) ≡ 14
  -- the least number that is too large
  pub structs : (n : ℕ) → IsTooLargeToLower (only_structs n) ↔ 4294967294 ≤ n
  pub breaks : (n : ℕ) → IsTooLargeToLower (of_breaks n) ↔ 1431655764 ≤ n
