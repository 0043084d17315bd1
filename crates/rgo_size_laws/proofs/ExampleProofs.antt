-- The lexemes and the tree of the example's text, and the counts of programs that are too large. By computation, except where a count
-- is of billions: there lists are only counted and never written out.
use Rattle.std.proofs.Common.{◌≡◌, ℕ, zero, suc, ◌*◌, ◌≤◌, List, [], ◌∷◌, length, None, replicate, refl, arith}
use Rattle.std.proofs.lemmas.List.{length-replicate}
use Rattle.std.specs.Prelude.{◌↔◌, codes}
use Rattle.std.specs.Str.{IsUtf8}
use Rattle.rgo_lexer.specs.Comments.{comment_at}
use Rattle.rgo_lexer.specs.Front.{front_of}
use Rattle.rgo_lexer.specs.Lexemes.{Lexeme, leaf, tok}
use Rattle.rgo_lexer.specs.Lexing.{LexesFrom, blank, finish, newline, piece}
use Rattle.rgo_lexer.specs.Numbers.{number_at, literal_value}
use Rattle.rgo_lexer.specs.Operators.{operator_at, operator_entry}
use Rattle.rgo_lexer.specs.Semicolons.{may_end}
use Rattle.rgo_lexer.specs.Strings.{items_len, string_at}
use Rattle.rgo_lexer.specs.Words.{word_at_front, word_terminal}
use Rattle.rgo_lexer.specs.declared.terminals.Terminal.TheVariants.{Package, Semicolon, Func, Name, OpenParen, CloseParen}
use Rattle.rgo_lexer.specs.declared.terminals.Terminal.TheVariants.{OpenBrace, For, CloseBrace}
use Rattle.rgo_grammar.specs.Grammar.{IsProgram}
use Rattle.rgo_grammar.specs.reading.{Read.{listed, several}, Types.{a_type, names}}
use Rattle.rgo_grammar.specs.reading.Declarations.{decls, imports}
use Rattle.rgo_grammar.specs.reading.Expressions.{expr}
use Rattle.rgo_grammar.specs.reading.Statements.{stmt}
use Rattle.rgo_grammar.proofs.Whole.{parsed}
use Rattle.rgo_typed.specs.declared.programs.Struct.{Struct}
use Rattle.rgo_typed.specs.Tree as tree
use Rattle.rgo_typed.specs.Tree.{stmts_of}
use Rattle.rgo_lower.specs.Sizes.{most_struct_fields, stmts_size, IsTooLargeToLower}
use Rattle.rgo_size_laws.specs.Examples.{loop_text, loop_lexemes, loop_program, only_structs, of_breaks, SizeExamples}

loop_utf8 : IsUtf8 loop_text
unfolding lib.Utf8.encode
loop_utf8 = (loop_text, (refl, refl))

-- before the package's name is read as such
abbrev loop_found : List Lexeme
loop_found =
    tok Package (leaf 0 (codes "package")) ∷ tok Name (leaf 8 (codes "main")) ∷ tok Semicolon (leaf 12 []) ∷
    tok Func (leaf 13 (codes "func")) ∷ tok Name (leaf 18 (codes "main")) ∷ tok OpenParen (leaf 22 (codes "(")) ∷
    tok CloseParen (leaf 23 (codes ")")) ∷ tok OpenBrace (leaf 24 (codes "{")) ∷ tok For (leaf 25 (codes "for")) ∷
    tok OpenBrace (leaf 28 (codes "{")) ∷ tok CloseBrace (leaf 29 (codes "}")) ∷
    tok CloseBrace (leaf 30 (codes "}")) ∷ tok Semicolon (leaf 31 []) ∷ []

loop_from : LexesFrom 0 None loop_text loop_found
unfolding front_of word_at_front word_terminal number_at literal_value string_at items_len comment_at operator_at operator_entry may_end
loop_from =
    piece Package 7 refl (blank 1 refl (piece Name 4 refl (newline 1 refl (piece Func 4 refl (blank 1 refl
    (piece Name 4 refl (piece OpenParen 1 refl (piece CloseParen 1 refl (piece OpenBrace 1 refl (piece For 3 refl
    (piece OpenBrace 1 refl (piece CloseBrace 1 refl (piece CloseBrace 1 refl (finish refl))))))))))))))

loop_derived : IsProgram loop_lexemes loop_program.imports loop_program.decls
unfolding listed several a_type names expr stmt decls imports
loop_derived = parsed loop_lexemes (loop_program.imports, loop_program.decls) [] refl

no_fields : (n : ℕ) (s : Struct) → length s.fields ≡ 0 → most_struct_fields (replicate n s) ≡ 0
no_fields zero s e = refl
no_fields (suc n) s e = omega (arith, no_fields n s e, e)

breaks_size : (n : ℕ) → stmts_size (stmts_of (replicate n (tree.Break 0))) ≡ n * 3
breaks_size zero = refl
breaks_size (suc n) = omega (arith, breaks_size n)

abbrev empty_struct : Struct
empty_struct = record { name = codes "S"; fields = [] }

many_structs : (n : ℕ) → IsTooLargeToLower (only_structs n) ↔ 4294967294 ≤ n
many_structs n =
    let many = length-replicate n empty_struct in
    let none = no_fields n empty_struct refl in
    (λ h. omega (arith, many, none, h), λ h. omega (arith, many, none, h))

many_breaks : (n : ℕ) → IsTooLargeToLower (of_breaks n) ↔ 1431655764 ≤ n
many_breaks n =
    let counted = breaks_size n in
    (λ h. omega (arith, counted, h), λ h. omega (arith, counted, h))

pub size_examples : SizeExamples
size_examples = record {
  lexed = (loop_utf8, loop_found, loop_from, refl);
  derived = loop_derived;
  counted = refl;
  structs = many_structs;
  breaks = many_breaks;
}
