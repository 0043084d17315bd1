-- The examples of texts: the lexemes and the tree of the endless program, and why the bad text has a refusal and no program.
use Rattle.std.proofs.Common.{◌≡◌, inl, List, [], ◌∷◌, None, refl}
use Rattle.std.specs.Prelude.{codes}
use Rattle.std.proofs.lemmas.Bool.{leb-true}
use Rattle.std.specs.Str.{IsUtf8}
use Rattle.rgo_ast.specs.Tree as tree
use Rattle.rgo_ast.specs.Tree.{Program, stmts_of}
use Rattle.rgo_lexer.specs.Front.{front_of}
use Rattle.rgo_lexer.specs.Lexemes.{Lexeme, leaf, tok}
use Rattle.rgo_lexer.specs.Lexing.{LexesFrom, blank, finish, newline, piece}
use Rattle.rgo_lexer.specs.Operators.{operator_at, operator_entry}
use Rattle.rgo_lexer.specs.Refusals.{here}
use Rattle.rgo_lexer.specs.Semicolons.{may_end}
use Rattle.rgo_lexer.specs.Words.{word_at_front, word_terminal}
use Rattle.rgo_lexer.specs.declared.refusals.LexicalKind.TheVariants.{BadByte}
use Rattle.rgo_lexer.specs.declared.terminals.Terminal.TheVariants.{Name, Main, OpenParen, CloseParen, OpenBrace}
use Rattle.rgo_lexer.specs.declared.terminals.Terminal.TheVariants.{CloseBrace, Semicolon, Package, Func, For}
use Rattle.rgo_grammar.specs.Grammar as grammar
use Rattle.rgo_grammar.specs.Grammar.{IsStmts}
use Rattle.rgo_grammar.specs.Nesting.{deep_at, deep_from}
use Rattle.rgo_parser.specs.Parsing.{limit}
use Rattle.rgo_typing_rules.specs.Rules.{broken}
use Rattle.rgo_typing_rules.specs.Sites.{first_refusal}
use Rattle.rgo_types.specs.Programs.{sites_of}
use Rattle.rgo_run.specs.Verdicts.{IsTypedProgram, Refused}
use Rattle.rgo_run.specs.declared.refusals.TextRefusal.TheVariants.{Lexical}
use Rattle.rgo_run.proofs.VerdictLemmas.{one_verdict}
use Rattle.rgo_claim_examples.specs.Programs.{endless}
use Rattle.rgo_claim_examples.proofs.ProgramTexts.{object_is_program, list_is_program, tree_is_program, sender_is_program}
use Rattle.rgo_claim_examples.specs.Texts.{TextExamples, bad_text, endless_text}

utf8 : IsUtf8 endless_text
unfolding lib.Utf8.encode
utf8 = (endless_text, (refl, refl))

bad_utf8 : IsUtf8 bad_text
unfolding lib.Utf8.encode
bad_utf8 = (bad_text, (refl, refl))

-- ---- lexemes

abbrev found : List Lexeme
found =
    tok Package (leaf 0 (codes "package")) ∷ tok Name (leaf 8 (codes "main")) ∷ tok Semicolon (leaf 12 [])
    ∷ tok Func (leaf 14 (codes "func")) ∷ tok Name (leaf 19 (codes "main")) ∷ tok OpenParen (leaf 23 (codes "("))
    ∷ tok CloseParen (leaf 24 (codes ")")) ∷ tok OpenBrace (leaf 26 (codes "{")) ∷ tok For (leaf 29 (codes "for"))
    ∷ tok OpenBrace (leaf 33 (codes "{")) ∷ tok CloseBrace (leaf 36 (codes "}")) ∷ tok Semicolon (leaf 37 [])
    ∷ tok CloseBrace (leaf 38 (codes "}")) ∷ tok Semicolon (leaf 39 []) ∷ []

lexed : LexesFrom 0 None endless_text found
unfolding front_of word_at_front word_terminal operator_at operator_entry may_end
lexed =
    piece Package 7 refl (blank 1 refl (piece Name 4 refl (newline 1 refl (newline 1 refl (piece Func 4 refl
    (blank 1 refl (piece Name 4 refl (piece OpenParen 1 refl (piece CloseParen 1 refl (blank 1 refl
    (piece OpenBrace 1 refl (newline 1 refl (blank 1 refl (piece For 3 refl (blank 1 refl (piece OpenBrace 1 refl
    (newline 1 refl (blank 1 refl (piece CloseBrace 1 refl (newline 1 refl (piece CloseBrace 1 refl
    (newline 1 refl (finish refl)))))))))))))))))))))))

abbrev lexemes : List Lexeme
lexemes =
    tok Package (leaf 0 (codes "package")) ∷ tok Main (leaf 8 (codes "main")) ∷ tok Semicolon (leaf 12 [])
    ∷ tok Func (leaf 14 (codes "func")) ∷ tok Name (leaf 19 (codes "main")) ∷ tok OpenParen (leaf 23 (codes "("))
    ∷ tok CloseParen (leaf 24 (codes ")")) ∷ tok OpenBrace (leaf 26 (codes "{")) ∷ tok For (leaf 29 (codes "for"))
    ∷ tok OpenBrace (leaf 33 (codes "{")) ∷ tok CloseBrace (leaf 36 (codes "}")) ∷ tok Semicolon (leaf 37 [])
    ∷ tok CloseBrace (leaf 38 (codes "}")) ∷ tok Semicolon (leaf 39 []) ∷ []

-- ---- the tree

abbrev surface : Program
surface = record {
  imports = [];
  decls =
      tree.Func (record {
        name = record { name = codes "main"; at = 19 };
        params = [];
        result_type = None;
        body = tree.For tree.no_clause None tree.no_clause (stmts_of []) 29 ∷ [];
        at = 14;
        end = 38;
      }) ∷ [];
  end = 40;
}

body : IsStmts (tok For (leaf 29 (codes "for")) ∷ tok OpenBrace (leaf 33 (codes "{")) ∷ tok CloseBrace (leaf 36 (codes "}"))
    ∷ tok Semicolon (leaf 37 []) ∷ tok CloseBrace (leaf 38 (codes "}")) ∷ [])
    (tree.For tree.no_clause None tree.no_clause (stmts_of []) 29 ∷ []) (leaf 38 (codes "}"))
body =
    grammar.more (leaf 37 [])
    {x = tok For (leaf 29 (codes "for")) ∷ tok OpenBrace (leaf 33 (codes "{")) ∷ tok CloseBrace (leaf 36 (codes "}")) ∷ []}
    (grammar.for' (grammar.while (leaf 29 (codes "for")) (leaf 33 (codes "{")) {x = []} grammar.none
    (grammar.end (leaf 36 (codes "}"))))) (grammar.end (leaf 38 (codes "}")))

derived : grammar.IsProgram lexemes surface.imports surface.decls
derived =
    grammar.program (leaf 0 (codes "package")) (leaf 8 (codes "main")) (leaf 12 []) {x = []} grammar.none
    (grammar.next (leaf 39 [])
    (grammar.func (leaf 14 (codes "func")) (leaf 19 (codes "main")) (leaf 23 (codes "(")) (leaf 26 (codes "{"))
    (leaf 38 (codes "}")) {x = tok CloseParen (leaf 24 (codes ")")) ∷ []} {y = []} (grammar.none (leaf 24 (codes ")")))
    grammar.none body) grammar.none)

shallow : deep_at limit lexemes ≡ None
unfolding deep_from
shallow = refl

unbroken : first_refusal (sites_of surface) ≡ None
unfolding broken
unbroken = refl

is_program : IsTypedProgram endless_text endless
is_program = record {
  tree = surface;
  is_well_typed =
      record {
        is_tree =
            record {
              within = leb-true 40 1048576 refl;
              lexemes = lexemes;
              lexed = (utf8, found, lexed, refl);
              parsed = record { derived = derived; ended = refl; shallow = shallow };
            };
        unbroken = unbroken;
      };
  typed = refl;
}

-- ---- a refusal

refused : Refused bad_text (Lexical (record { kind = BadByte; at = 0 }))
unfolding front_of word_at_front word_terminal operator_at operator_entry
refused = (leb-true 1 1048576 refl, inl (bad_utf8, here BadByte 0 refl))

pub text_examples : TextExamples
text_examples = record {
  object = object_is_program;
  list = list_is_program;
  tree = tree_is_program;
  goroutines = sender_is_program;
  is_program = is_program;
  no_other = λ program is. one_verdict.one_program endless_text program endless is is_program;
  not_refused = λ why r. one_verdict.never_both endless_text why (is_program.tree, is_program.is_well_typed) r;
  refused = refused;
  does_not_pass = λ p. one_verdict.never_both bad_text (Lexical (record { kind = BadByte; at = 0 })) p refused;
}
