-- The texts of the programs: their lexemes one by one, and their trees, read by computation. Lexemes are written out because they are
-- found by a relation and not by a function; from them on the tree is computed.
use Rattle.std.proofs.Common.{◌≡◌, List, [], ◌∷◌, None, refl}
use Rattle.std.specs.Prelude.{codes}
use Rattle.std.specs.Str.{IsUtf8}
use Rattle.std.proofs.lemmas.Bool.{leb-true}
use Rattle.rgo_ast.specs.Tree.{Decl, Import as ImportTree, Program}
use Rattle.rgo_ast.specs.declared.ops.AssignOp.TheVariants as assign
use Rattle.rgo_ast.specs.declared.ops.BinaryOp.TheVariants as op
use Rattle.rgo_ast.specs.declared.ops.StepOp.TheVariants as step
use Rattle.rgo_lexer.specs.Comments.{comment_at}
use Rattle.rgo_lexer.specs.Front.{front_of}
use Rattle.rgo_lexer.specs.Lexemes.{Lexeme, leaf, tok}
use Rattle.rgo_lexer.specs.Lexing.{LexesFrom, blank, finish, newline, piece, with_package_name}
use Rattle.rgo_lexer.specs.Numbers.{number_at, literal_value}
use Rattle.rgo_lexer.specs.Operators.{operator_at, operator_entry}
use Rattle.rgo_lexer.specs.Semicolons.{may_end}
use Rattle.rgo_lexer.specs.Strings.{items_len, string_at, string_of}
use Rattle.rgo_lexer.specs.Words.{word_at_front, word_terminal}
use Rattle.rgo_lexer.specs.declared.terminals.Terminal.TheVariants.{Ampersand, Arrow, Assign, Binary, Chan, CloseBrace}
use Rattle.rgo_lexer.specs.declared.terminals.Terminal.TheVariants.{CloseParen, Comma, Define, Dot, For, Func, Go, If}
use Rattle.rgo_lexer.specs.declared.terminals.Terminal.TheVariants.{Import, Make, Name, New, Number, OpenBrace, OpenParen}
use Rattle.rgo_lexer.specs.declared.terminals.Terminal.TheVariants.{Package, Return, Semicolon, Step, Struct, Text}
use Rattle.rgo_lexer.specs.declared.terminals.Terminal.TheVariants.{TypeWord, Var}
use Rattle.rgo_grammar.specs.Grammar.{IsProgram}
use Rattle.rgo_grammar.specs.Nesting.{deep_at, deep_from}
use Rattle.rgo_grammar.specs.reading.{Read.{Read, Done, Failed, listed, several}, Types.{a_type, names}}
use Rattle.rgo_grammar.specs.reading.Declarations.{decls, imports}
use Rattle.rgo_grammar.specs.reading.Expressions.{expr}
use Rattle.rgo_grammar.specs.reading.Statements.{stmt}
use Rattle.rgo_grammar.proofs.Whole.{parsed, read}
use Rattle.rgo_parser.specs.Parsing.{limit}
use Rattle.rgo_typing_rules.specs.Rules.{broken}
use Rattle.rgo_typing_rules.specs.Sites.{first_refusal}
use Rattle.rgo_types.specs.Programs.{sites_of, typed_program}
use Rattle.rgo_run.specs.Verdicts as verdicts
use Rattle.rgo_claim_examples.specs.Programs.{one_object, linked_list, binary_tree, sender}
use Rattle.rgo_claim_examples.specs.Texts.{object_text, list_text, tree_text, sender_text}

-- what was read
abbrev tree_of : Read (List ImportTree × List Decl) → List ImportTree × List Decl
tree_of (Done x w) = x
tree_of (Failed why) = ([], [])

abbrev tree_in : List Lexeme → List ImportTree × List Decl
tree_in lexemes = tree_of (read lexemes)

-- ---- object

object_utf8 : IsUtf8 object_text
unfolding lib.Utf8.encode
object_utf8 = (object_text, (refl, refl))

abbrev object_found : List Lexeme
object_found =
    tok Package (leaf 0 (codes "package")) ∷ tok Name (leaf 8 (codes "main")) ∷ tok Semicolon (leaf 12 []) ∷
    tok Import (leaf 14 (codes "import")) ∷ tok Text (leaf 21 (codes "\"fmt\"")) ∷ tok Semicolon (leaf 26 []) ∷
    tok TypeWord (leaf 28 (codes "type")) ∷ tok Name (leaf 33 (codes "Node")) ∷
    tok Struct (leaf 38 (codes "struct")) ∷ tok OpenBrace (leaf 45 (codes "{")) ∷
    tok Name (leaf 48 (codes "value")) ∷ tok Name (leaf 54 (codes "int")) ∷ tok Semicolon (leaf 57 []) ∷
    tok Name (leaf 59 (codes "next")) ∷ tok (Binary op.Mul) (leaf 65 (codes "*")) ∷
    tok Name (leaf 66 (codes "Node")) ∷ tok Semicolon (leaf 70 []) ∷ tok CloseBrace (leaf 71 (codes "}")) ∷
    tok Semicolon (leaf 72 []) ∷ tok Func (leaf 74 (codes "func")) ∷ tok Name (leaf 79 (codes "main")) ∷
    tok OpenParen (leaf 83 (codes "(")) ∷ tok CloseParen (leaf 84 (codes ")")) ∷
    tok OpenBrace (leaf 86 (codes "{")) ∷ tok Name (leaf 89 (codes "x")) ∷ tok Define (leaf 91 (codes ":=")) ∷
    tok New (leaf 94 (codes "new")) ∷ tok OpenParen (leaf 97 (codes "(")) ∷ tok Name (leaf 98 (codes "Node")) ∷
    tok CloseParen (leaf 102 (codes ")")) ∷ tok Semicolon (leaf 103 []) ∷ tok Name (leaf 105 (codes "fmt")) ∷
    tok Dot (leaf 108 (codes ".")) ∷ tok Name (leaf 109 (codes "Println")) ∷ tok OpenParen (leaf 116 (codes "(")) ∷
    tok Name (leaf 117 (codes "x")) ∷ tok Dot (leaf 118 (codes ".")) ∷ tok Name (leaf 119 (codes "value")) ∷
    tok CloseParen (leaf 124 (codes ")")) ∷ tok Semicolon (leaf 125 []) ∷ tok CloseBrace (leaf 126 (codes "}")) ∷
    tok Semicolon (leaf 127 []) ∷ []

object_lexed : LexesFrom 0 None object_text object_found
unfolding front_of word_at_front word_terminal number_at literal_value string_at items_len comment_at operator_at operator_entry may_end
object_lexed =
    piece Package 7 refl (blank 1 refl (piece Name 4 refl (newline 1 refl (newline 1 refl (piece Import 6 refl
    (blank 1 refl (piece Text 5 refl (newline 1 refl (newline 1 refl (piece TypeWord 4 refl (blank 1 refl
    (piece Name 4 refl (blank 1 refl (piece Struct 6 refl (blank 1 refl (piece OpenBrace 1 refl (newline 1 refl
    (blank 1 refl (piece Name 5 refl (blank 1 refl (piece Name 3 refl (newline 1 refl (blank 1 refl
    (piece Name 4 refl (blank 1 refl (blank 1 refl (piece (Binary op.Mul) 1 refl (piece Name 4 refl (newline 1 refl
    (piece CloseBrace 1 refl (newline 1 refl (newline 1 refl (piece Func 4 refl (blank 1 refl (piece Name 4 refl
    (piece OpenParen 1 refl (piece CloseParen 1 refl (blank 1 refl (piece OpenBrace 1 refl (newline 1 refl
    (blank 1 refl (piece Name 1 refl (blank 1 refl (piece Define 2 refl (blank 1 refl (piece New 3 refl
    (piece OpenParen 1 refl (piece Name 4 refl (piece CloseParen 1 refl (newline 1 refl (blank 1 refl
    (piece Name 3 refl (piece Dot 1 refl (piece Name 7 refl (piece OpenParen 1 refl (piece Name 1 refl
    (piece Dot 1 refl (piece Name 5 refl (piece CloseParen 1 refl (newline 1 refl (piece CloseBrace 1 refl
    (newline 1 refl (finish refl)))))))))))))))))))))))))))))))))))))))))))))))))))))))))))))))

abbrev object_lexemes : List Lexeme
object_lexemes = with_package_name object_found

object_derived : IsProgram object_lexemes (tree_in object_lexemes).0 (tree_in object_lexemes).1
unfolding listed several a_type names expr stmt decls imports
object_derived = parsed object_lexemes (tree_in object_lexemes) [] refl

object_shallow : deep_at limit object_lexemes ≡ None
unfolding deep_from
object_shallow = refl

abbrev object_tree : Program
object_tree = record { imports = (tree_in object_lexemes).0; decls = (tree_in object_lexemes).1; end = 128 }

object_unbroken : first_refusal (sites_of object_tree) ≡ None
unfolding broken string_of listed several a_type names expr stmt decls imports
object_unbroken = refl

object_typed : one_object ≡ typed_program object_tree
unfolding string_of listed several a_type names expr stmt decls imports
object_typed = refl

pub object_is_program : verdicts.IsTypedProgram object_text one_object
object_is_program = record {
  tree = object_tree;
  is_well_typed = record {
    is_tree = record {
      within = leb-true 128 1048576 refl;
      lexemes = object_lexemes;
      lexed = (object_utf8, object_found, object_lexed, refl);
      parsed = record { derived = object_derived; ended = refl; shallow = object_shallow };
    };
    unbroken = object_unbroken;
  };
  typed = object_typed;
}

-- ---- list

list_utf8 : IsUtf8 list_text
unfolding lib.Utf8.encode
list_utf8 = (list_text, (refl, refl))

abbrev list_found : List Lexeme
list_found =
    tok Package (leaf 0 (codes "package")) ∷ tok Name (leaf 8 (codes "main")) ∷ tok Semicolon (leaf 12 []) ∷
    tok Import (leaf 14 (codes "import")) ∷ tok Text (leaf 21 (codes "\"fmt\"")) ∷ tok Semicolon (leaf 26 []) ∷
    tok TypeWord (leaf 28 (codes "type")) ∷ tok Name (leaf 33 (codes "Node")) ∷
    tok Struct (leaf 38 (codes "struct")) ∷ tok OpenBrace (leaf 45 (codes "{")) ∷
    tok Name (leaf 48 (codes "value")) ∷ tok Name (leaf 54 (codes "int")) ∷ tok Semicolon (leaf 57 []) ∷
    tok Name (leaf 59 (codes "next")) ∷ tok (Binary op.Mul) (leaf 65 (codes "*")) ∷
    tok Name (leaf 66 (codes "Node")) ∷ tok Semicolon (leaf 70 []) ∷ tok CloseBrace (leaf 71 (codes "}")) ∷
    tok Semicolon (leaf 72 []) ∷ tok Func (leaf 74 (codes "func")) ∷ tok Name (leaf 79 (codes "main")) ∷
    tok OpenParen (leaf 83 (codes "(")) ∷ tok CloseParen (leaf 84 (codes ")")) ∷
    tok OpenBrace (leaf 86 (codes "{")) ∷ tok Var (leaf 89 (codes "var")) ∷ tok Name (leaf 93 (codes "list")) ∷
    tok (Binary op.Mul) (leaf 98 (codes "*")) ∷ tok Name (leaf 99 (codes "Node")) ∷ tok Semicolon (leaf 103 []) ∷
    tok For (leaf 105 (codes "for")) ∷ tok Name (leaf 109 (codes "i")) ∷ tok Define (leaf 111 (codes ":=")) ∷
    tok (Number 1) (leaf 114 (codes "1")) ∷ tok Semicolon (leaf 115 (codes ";")) ∷
    tok Name (leaf 117 (codes "i")) ∷ tok (Binary op.Lt) (leaf 119 (codes "<")) ∷
    tok (Number 4) (leaf 121 (codes "4")) ∷ tok Semicolon (leaf 122 (codes ";")) ∷
    tok Name (leaf 124 (codes "i")) ∷ tok (Step step.Increment) (leaf 125 (codes "++")) ∷
    tok OpenBrace (leaf 128 (codes "{")) ∷ tok Name (leaf 132 (codes "list")) ∷
    tok (Assign assign.Plain) (leaf 137 (codes "=")) ∷ tok Ampersand (leaf 139 (codes "&")) ∷
    tok Name (leaf 140 (codes "Node")) ∷ tok OpenBrace (leaf 144 (codes "{")) ∷ tok Name (leaf 145 (codes "i")) ∷
    tok Comma (leaf 146 (codes ",")) ∷ tok Name (leaf 148 (codes "list")) ∷ tok CloseBrace (leaf 152 (codes "}")) ∷
    tok Semicolon (leaf 153 []) ∷ tok CloseBrace (leaf 155 (codes "}")) ∷ tok Semicolon (leaf 156 []) ∷
    tok Name (leaf 158 (codes "sum")) ∷ tok Define (leaf 162 (codes ":=")) ∷
    tok (Number 0) (leaf 165 (codes "0")) ∷ tok Semicolon (leaf 166 []) ∷ tok For (leaf 168 (codes "for")) ∷
    tok Name (leaf 172 (codes "list")) ∷ tok (Binary op.Ne) (leaf 177 (codes "!=")) ∷
    tok Name (leaf 180 (codes "nil")) ∷ tok OpenBrace (leaf 184 (codes "{")) ∷ tok Name (leaf 188 (codes "sum")) ∷
    tok (Assign assign.Add) (leaf 192 (codes "+=")) ∷ tok Name (leaf 195 (codes "list")) ∷
    tok Dot (leaf 199 (codes ".")) ∷ tok Name (leaf 200 (codes "value")) ∷ tok Semicolon (leaf 205 []) ∷
    tok Name (leaf 208 (codes "list")) ∷ tok (Assign assign.Plain) (leaf 213 (codes "=")) ∷
    tok Name (leaf 215 (codes "list")) ∷ tok Dot (leaf 219 (codes ".")) ∷ tok Name (leaf 220 (codes "next")) ∷
    tok Semicolon (leaf 224 []) ∷ tok CloseBrace (leaf 226 (codes "}")) ∷ tok Semicolon (leaf 227 []) ∷
    tok Name (leaf 229 (codes "fmt")) ∷ tok Dot (leaf 232 (codes ".")) ∷ tok Name (leaf 233 (codes "Println")) ∷
    tok OpenParen (leaf 240 (codes "(")) ∷ tok Name (leaf 241 (codes "sum")) ∷
    tok CloseParen (leaf 244 (codes ")")) ∷ tok Semicolon (leaf 245 []) ∷ tok CloseBrace (leaf 246 (codes "}")) ∷
    tok Semicolon (leaf 247 []) ∷ []

list_lexed : LexesFrom 0 None list_text list_found
unfolding front_of word_at_front word_terminal number_at literal_value string_at items_len comment_at operator_at operator_entry may_end
list_lexed =
    piece Package 7 refl (blank 1 refl (piece Name 4 refl (newline 1 refl (newline 1 refl (piece Import 6 refl
    (blank 1 refl (piece Text 5 refl (newline 1 refl (newline 1 refl (piece TypeWord 4 refl (blank 1 refl
    (piece Name 4 refl (blank 1 refl (piece Struct 6 refl (blank 1 refl (piece OpenBrace 1 refl (newline 1 refl
    (blank 1 refl (piece Name 5 refl (blank 1 refl (piece Name 3 refl (newline 1 refl (blank 1 refl
    (piece Name 4 refl (blank 1 refl (blank 1 refl (piece (Binary op.Mul) 1 refl (piece Name 4 refl (newline 1 refl
    (piece CloseBrace 1 refl (newline 1 refl (newline 1 refl (piece Func 4 refl (blank 1 refl (piece Name 4 refl
    (piece OpenParen 1 refl (piece CloseParen 1 refl (blank 1 refl (piece OpenBrace 1 refl (newline 1 refl
    (blank 1 refl (piece Var 3 refl (blank 1 refl (piece Name 4 refl (blank 1 refl (piece (Binary op.Mul) 1 refl
    (piece Name 4 refl (newline 1 refl (blank 1 refl (piece For 3 refl (blank 1 refl (piece Name 1 refl
    (blank 1 refl (piece Define 2 refl (blank 1 refl (piece (Number 1) 1 refl (piece Semicolon 1 refl (blank 1 refl
    (piece Name 1 refl (blank 1 refl (piece (Binary op.Lt) 1 refl (blank 1 refl (piece (Number 4) 1 refl
    (piece Semicolon 1 refl (blank 1 refl (piece Name 1 refl (piece (Step step.Increment) 2 refl (blank 1 refl
    (piece OpenBrace 1 refl (newline 1 refl (blank 1 refl (blank 1 refl (piece Name 4 refl (blank 1 refl
    (piece (Assign assign.Plain) 1 refl (blank 1 refl (piece Ampersand 1 refl (piece Name 4 refl
    (piece OpenBrace 1 refl (piece Name 1 refl (piece Comma 1 refl (blank 1 refl (piece Name 4 refl
    (piece CloseBrace 1 refl (newline 1 refl (blank 1 refl (piece CloseBrace 1 refl (newline 1 refl (blank 1 refl
    (piece Name 3 refl (blank 1 refl (piece Define 2 refl (blank 1 refl (piece (Number 0) 1 refl (newline 1 refl
    (blank 1 refl (piece For 3 refl (blank 1 refl (piece Name 4 refl (blank 1 refl (piece (Binary op.Ne) 2 refl
    (blank 1 refl (piece Name 3 refl (blank 1 refl (piece OpenBrace 1 refl (newline 1 refl (blank 1 refl
    (blank 1 refl (piece Name 3 refl (blank 1 refl (piece (Assign assign.Add) 2 refl (blank 1 refl
    (piece Name 4 refl (piece Dot 1 refl (piece Name 5 refl (newline 1 refl (blank 1 refl (blank 1 refl
    (piece Name 4 refl (blank 1 refl (piece (Assign assign.Plain) 1 refl (blank 1 refl (piece Name 4 refl
    (piece Dot 1 refl (piece Name 4 refl (newline 1 refl (blank 1 refl (piece CloseBrace 1 refl (newline 1 refl
    (blank 1 refl (piece Name 3 refl (piece Dot 1 refl (piece Name 7 refl (piece OpenParen 1 refl
    (piece Name 3 refl (piece CloseParen 1 refl (newline 1 refl (piece CloseBrace 1 refl (newline 1 refl
    (finish refl))))))))))))))))))))))))))))))))))))))))))))))))))))))))))))))))))))))))))))))))))))))))))))))
    ))))))))))))))))))))))))))))))))))))))))))))))

abbrev list_lexemes : List Lexeme
list_lexemes = with_package_name list_found

list_derived : IsProgram list_lexemes (tree_in list_lexemes).0 (tree_in list_lexemes).1
unfolding listed several a_type names expr stmt decls imports
list_derived = parsed list_lexemes (tree_in list_lexemes) [] refl

list_shallow : deep_at limit list_lexemes ≡ None
unfolding deep_from
list_shallow = refl

abbrev list_tree : Program
list_tree = record { imports = (tree_in list_lexemes).0; decls = (tree_in list_lexemes).1; end = 248 }

list_unbroken : first_refusal (sites_of list_tree) ≡ None
unfolding broken string_of listed several a_type names expr stmt decls imports
list_unbroken = refl

list_typed : linked_list ≡ typed_program list_tree
unfolding string_of listed several a_type names expr stmt decls imports
list_typed = refl

pub list_is_program : verdicts.IsTypedProgram list_text linked_list
list_is_program = record {
  tree = list_tree;
  is_well_typed = record {
    is_tree = record {
      within = leb-true 248 1048576 refl;
      lexemes = list_lexemes;
      lexed = (list_utf8, list_found, list_lexed, refl);
      parsed = record { derived = list_derived; ended = refl; shallow = list_shallow };
    };
    unbroken = list_unbroken;
  };
  typed = list_typed;
}

-- ---- tree

tree_utf8 : IsUtf8 tree_text
unfolding lib.Utf8.encode
tree_utf8 = (tree_text, (refl, refl))

abbrev tree_found : List Lexeme
tree_found =
    tok Package (leaf 0 (codes "package")) ∷ tok Name (leaf 8 (codes "main")) ∷ tok Semicolon (leaf 12 []) ∷
    tok Import (leaf 14 (codes "import")) ∷ tok Text (leaf 21 (codes "\"fmt\"")) ∷ tok Semicolon (leaf 26 []) ∷
    tok TypeWord (leaf 28 (codes "type")) ∷ tok Name (leaf 33 (codes "Tree")) ∷
    tok Struct (leaf 38 (codes "struct")) ∷ tok OpenBrace (leaf 45 (codes "{")) ∷
    tok Name (leaf 48 (codes "left")) ∷ tok (Binary op.Mul) (leaf 54 (codes "*")) ∷
    tok Name (leaf 55 (codes "Tree")) ∷ tok Semicolon (leaf 59 []) ∷ tok Name (leaf 61 (codes "right")) ∷
    tok (Binary op.Mul) (leaf 67 (codes "*")) ∷ tok Name (leaf 68 (codes "Tree")) ∷ tok Semicolon (leaf 72 []) ∷
    tok CloseBrace (leaf 73 (codes "}")) ∷ tok Semicolon (leaf 74 []) ∷ tok Func (leaf 76 (codes "func")) ∷
    tok Name (leaf 81 (codes "build")) ∷ tok OpenParen (leaf 86 (codes "(")) ∷ tok Name (leaf 87 (codes "depth")) ∷
    tok Name (leaf 93 (codes "int")) ∷ tok CloseParen (leaf 96 (codes ")")) ∷
    tok (Binary op.Mul) (leaf 98 (codes "*")) ∷ tok Name (leaf 99 (codes "Tree")) ∷
    tok OpenBrace (leaf 104 (codes "{")) ∷ tok If (leaf 107 (codes "if")) ∷ tok Name (leaf 110 (codes "depth")) ∷
    tok (Binary op.Eq) (leaf 116 (codes "==")) ∷ tok (Number 0) (leaf 119 (codes "0")) ∷
    tok OpenBrace (leaf 121 (codes "{")) ∷ tok Return (leaf 125 (codes "return")) ∷
    tok Name (leaf 132 (codes "nil")) ∷ tok Semicolon (leaf 135 []) ∷ tok CloseBrace (leaf 137 (codes "}")) ∷
    tok Semicolon (leaf 138 []) ∷ tok Return (leaf 140 (codes "return")) ∷ tok Ampersand (leaf 147 (codes "&")) ∷
    tok Name (leaf 148 (codes "Tree")) ∷ tok OpenBrace (leaf 152 (codes "{")) ∷
    tok Name (leaf 153 (codes "build")) ∷ tok OpenParen (leaf 158 (codes "(")) ∷
    tok Name (leaf 159 (codes "depth")) ∷ tok (Binary op.Sub) (leaf 165 (codes "-")) ∷
    tok (Number 1) (leaf 167 (codes "1")) ∷ tok CloseParen (leaf 168 (codes ")")) ∷
    tok Comma (leaf 169 (codes ",")) ∷ tok Name (leaf 171 (codes "build")) ∷ tok OpenParen (leaf 176 (codes "(")) ∷
    tok Name (leaf 177 (codes "depth")) ∷ tok (Binary op.Sub) (leaf 183 (codes "-")) ∷
    tok (Number 1) (leaf 185 (codes "1")) ∷ tok CloseParen (leaf 186 (codes ")")) ∷
    tok CloseBrace (leaf 187 (codes "}")) ∷ tok Semicolon (leaf 188 []) ∷ tok CloseBrace (leaf 189 (codes "}")) ∷
    tok Semicolon (leaf 190 []) ∷ tok Func (leaf 192 (codes "func")) ∷ tok Name (leaf 197 (codes "count")) ∷
    tok OpenParen (leaf 202 (codes "(")) ∷ tok Name (leaf 203 (codes "tree")) ∷
    tok (Binary op.Mul) (leaf 208 (codes "*")) ∷ tok Name (leaf 209 (codes "Tree")) ∷
    tok CloseParen (leaf 213 (codes ")")) ∷ tok Name (leaf 215 (codes "int")) ∷
    tok OpenBrace (leaf 219 (codes "{")) ∷ tok If (leaf 222 (codes "if")) ∷ tok Name (leaf 225 (codes "tree")) ∷
    tok (Binary op.Eq) (leaf 230 (codes "==")) ∷ tok Name (leaf 233 (codes "nil")) ∷
    tok OpenBrace (leaf 237 (codes "{")) ∷ tok Return (leaf 241 (codes "return")) ∷
    tok (Number 0) (leaf 248 (codes "0")) ∷ tok Semicolon (leaf 249 []) ∷ tok CloseBrace (leaf 251 (codes "}")) ∷
    tok Semicolon (leaf 252 []) ∷ tok Return (leaf 254 (codes "return")) ∷ tok (Number 1) (leaf 261 (codes "1")) ∷
    tok (Binary op.Add) (leaf 263 (codes "+")) ∷ tok Name (leaf 265 (codes "count")) ∷
    tok OpenParen (leaf 270 (codes "(")) ∷ tok Name (leaf 271 (codes "tree")) ∷ tok Dot (leaf 275 (codes ".")) ∷
    tok Name (leaf 276 (codes "left")) ∷ tok CloseParen (leaf 280 (codes ")")) ∷
    tok (Binary op.Add) (leaf 282 (codes "+")) ∷ tok Name (leaf 284 (codes "count")) ∷
    tok OpenParen (leaf 289 (codes "(")) ∷ tok Name (leaf 290 (codes "tree")) ∷ tok Dot (leaf 294 (codes ".")) ∷
    tok Name (leaf 295 (codes "right")) ∷ tok CloseParen (leaf 300 (codes ")")) ∷ tok Semicolon (leaf 301 []) ∷
    tok CloseBrace (leaf 302 (codes "}")) ∷ tok Semicolon (leaf 303 []) ∷ tok Func (leaf 305 (codes "func")) ∷
    tok Name (leaf 310 (codes "main")) ∷ tok OpenParen (leaf 314 (codes "(")) ∷
    tok CloseParen (leaf 315 (codes ")")) ∷ tok OpenBrace (leaf 317 (codes "{")) ∷
    tok Name (leaf 320 (codes "fmt")) ∷ tok Dot (leaf 323 (codes ".")) ∷ tok Name (leaf 324 (codes "Println")) ∷
    tok OpenParen (leaf 331 (codes "(")) ∷ tok Name (leaf 332 (codes "count")) ∷
    tok OpenParen (leaf 337 (codes "(")) ∷ tok Name (leaf 338 (codes "build")) ∷
    tok OpenParen (leaf 343 (codes "(")) ∷ tok (Number 2) (leaf 344 (codes "2")) ∷
    tok CloseParen (leaf 345 (codes ")")) ∷ tok CloseParen (leaf 346 (codes ")")) ∷
    tok CloseParen (leaf 347 (codes ")")) ∷ tok Semicolon (leaf 348 []) ∷ tok CloseBrace (leaf 349 (codes "}")) ∷
    tok Semicolon (leaf 350 []) ∷ []

tree_lexed : LexesFrom 0 None tree_text tree_found
unfolding front_of word_at_front word_terminal number_at literal_value string_at items_len comment_at operator_at operator_entry may_end
tree_lexed =
    piece Package 7 refl (blank 1 refl (piece Name 4 refl (newline 1 refl (newline 1 refl (piece Import 6 refl
    (blank 1 refl (piece Text 5 refl (newline 1 refl (newline 1 refl (piece TypeWord 4 refl (blank 1 refl
    (piece Name 4 refl (blank 1 refl (piece Struct 6 refl (blank 1 refl (piece OpenBrace 1 refl (newline 1 refl
    (blank 1 refl (piece Name 4 refl (blank 1 refl (blank 1 refl (piece (Binary op.Mul) 1 refl (piece Name 4 refl
    (newline 1 refl (blank 1 refl (piece Name 5 refl (blank 1 refl (piece (Binary op.Mul) 1 refl (piece Name 4 refl
    (newline 1 refl (piece CloseBrace 1 refl (newline 1 refl (newline 1 refl (piece Func 4 refl (blank 1 refl
    (piece Name 5 refl (piece OpenParen 1 refl (piece Name 5 refl (blank 1 refl (piece Name 3 refl
    (piece CloseParen 1 refl (blank 1 refl (piece (Binary op.Mul) 1 refl (piece Name 4 refl (blank 1 refl
    (piece OpenBrace 1 refl (newline 1 refl (blank 1 refl (piece If 2 refl (blank 1 refl (piece Name 5 refl
    (blank 1 refl (piece (Binary op.Eq) 2 refl (blank 1 refl (piece (Number 0) 1 refl (blank 1 refl
    (piece OpenBrace 1 refl (newline 1 refl (blank 1 refl (blank 1 refl (piece Return 6 refl (blank 1 refl
    (piece Name 3 refl (newline 1 refl (blank 1 refl (piece CloseBrace 1 refl (newline 1 refl (blank 1 refl
    (piece Return 6 refl (blank 1 refl (piece Ampersand 1 refl (piece Name 4 refl (piece OpenBrace 1 refl
    (piece Name 5 refl (piece OpenParen 1 refl (piece Name 5 refl (blank 1 refl (piece (Binary op.Sub) 1 refl
    (blank 1 refl (piece (Number 1) 1 refl (piece CloseParen 1 refl (piece Comma 1 refl (blank 1 refl
    (piece Name 5 refl (piece OpenParen 1 refl (piece Name 5 refl (blank 1 refl (piece (Binary op.Sub) 1 refl
    (blank 1 refl (piece (Number 1) 1 refl (piece CloseParen 1 refl (piece CloseBrace 1 refl (newline 1 refl
    (piece CloseBrace 1 refl (newline 1 refl (newline 1 refl (piece Func 4 refl (blank 1 refl (piece Name 5 refl
    (piece OpenParen 1 refl (piece Name 4 refl (blank 1 refl (piece (Binary op.Mul) 1 refl (piece Name 4 refl
    (piece CloseParen 1 refl (blank 1 refl (piece Name 3 refl (blank 1 refl (piece OpenBrace 1 refl (newline 1 refl
    (blank 1 refl (piece If 2 refl (blank 1 refl (piece Name 4 refl (blank 1 refl (piece (Binary op.Eq) 2 refl
    (blank 1 refl (piece Name 3 refl (blank 1 refl (piece OpenBrace 1 refl (newline 1 refl (blank 1 refl
    (blank 1 refl (piece Return 6 refl (blank 1 refl (piece (Number 0) 1 refl (newline 1 refl (blank 1 refl
    (piece CloseBrace 1 refl (newline 1 refl (blank 1 refl (piece Return 6 refl (blank 1 refl
    (piece (Number 1) 1 refl (blank 1 refl (piece (Binary op.Add) 1 refl (blank 1 refl (piece Name 5 refl
    (piece OpenParen 1 refl (piece Name 4 refl (piece Dot 1 refl (piece Name 4 refl (piece CloseParen 1 refl
    (blank 1 refl (piece (Binary op.Add) 1 refl (blank 1 refl (piece Name 5 refl (piece OpenParen 1 refl
    (piece Name 4 refl (piece Dot 1 refl (piece Name 5 refl (piece CloseParen 1 refl (newline 1 refl
    (piece CloseBrace 1 refl (newline 1 refl (newline 1 refl (piece Func 4 refl (blank 1 refl (piece Name 4 refl
    (piece OpenParen 1 refl (piece CloseParen 1 refl (blank 1 refl (piece OpenBrace 1 refl (newline 1 refl
    (blank 1 refl (piece Name 3 refl (piece Dot 1 refl (piece Name 7 refl (piece OpenParen 1 refl
    (piece Name 5 refl (piece OpenParen 1 refl (piece Name 5 refl (piece OpenParen 1 refl (piece (Number 2) 1 refl
    (piece CloseParen 1 refl (piece CloseParen 1 refl (piece CloseParen 1 refl (newline 1 refl
    (piece CloseBrace 1 refl (newline 1 refl
    (finish refl))))))))))))))))))))))))))))))))))))))))))))))))))))))))))))))))))))))))))))))))))))))))))))))
    )))))))))))))))))))))))))))))))))))))))))))))))))))))))))))))))))))))))))))))))))))))))

abbrev tree_lexemes : List Lexeme
tree_lexemes = with_package_name tree_found

tree_derived : IsProgram tree_lexemes (tree_in tree_lexemes).0 (tree_in tree_lexemes).1
unfolding listed several a_type names expr stmt decls imports
tree_derived = parsed tree_lexemes (tree_in tree_lexemes) [] refl

tree_shallow : deep_at limit tree_lexemes ≡ None
unfolding deep_from
tree_shallow = refl

abbrev tree_tree : Program
tree_tree = record { imports = (tree_in tree_lexemes).0; decls = (tree_in tree_lexemes).1; end = 351 }

tree_unbroken : first_refusal (sites_of tree_tree) ≡ None
unfolding broken string_of listed several a_type names expr stmt decls imports
tree_unbroken = refl

tree_typed : binary_tree ≡ typed_program tree_tree
unfolding string_of listed several a_type names expr stmt decls imports
tree_typed = refl

pub tree_is_program : verdicts.IsTypedProgram tree_text binary_tree
tree_is_program = record {
  tree = tree_tree;
  is_well_typed = record {
    is_tree = record {
      within = leb-true 351 1048576 refl;
      lexemes = tree_lexemes;
      lexed = (tree_utf8, tree_found, tree_lexed, refl);
      parsed = record { derived = tree_derived; ended = refl; shallow = tree_shallow };
    };
    unbroken = tree_unbroken;
  };
  typed = tree_typed;
}

-- ---- sender

sender_utf8 : IsUtf8 sender_text
unfolding lib.Utf8.encode
sender_utf8 = (sender_text, (refl, refl))

abbrev sender_found : List Lexeme
sender_found =
    tok Package (leaf 0 (codes "package")) ∷ tok Name (leaf 8 (codes "main")) ∷ tok Semicolon (leaf 12 []) ∷
    tok Import (leaf 14 (codes "import")) ∷ tok Text (leaf 21 (codes "\"fmt\"")) ∷ tok Semicolon (leaf 26 []) ∷
    tok Func (leaf 28 (codes "func")) ∷ tok Name (leaf 33 (codes "send")) ∷ tok OpenParen (leaf 37 (codes "(")) ∷
    tok Name (leaf 38 (codes "c")) ∷ tok Chan (leaf 40 (codes "chan")) ∷ tok Name (leaf 45 (codes "int")) ∷
    tok CloseParen (leaf 48 (codes ")")) ∷ tok OpenBrace (leaf 50 (codes "{")) ∷ tok Name (leaf 53 (codes "c")) ∷
    tok Arrow (leaf 55 (codes "<-")) ∷ tok (Number 7) (leaf 58 (codes "7")) ∷ tok Semicolon (leaf 59 []) ∷
    tok CloseBrace (leaf 60 (codes "}")) ∷ tok Semicolon (leaf 61 []) ∷ tok Func (leaf 63 (codes "func")) ∷
    tok Name (leaf 68 (codes "main")) ∷ tok OpenParen (leaf 72 (codes "(")) ∷
    tok CloseParen (leaf 73 (codes ")")) ∷ tok OpenBrace (leaf 75 (codes "{")) ∷ tok Name (leaf 78 (codes "c")) ∷
    tok Define (leaf 80 (codes ":=")) ∷ tok Make (leaf 83 (codes "make")) ∷ tok OpenParen (leaf 87 (codes "(")) ∷
    tok Chan (leaf 88 (codes "chan")) ∷ tok Name (leaf 93 (codes "int")) ∷ tok CloseParen (leaf 96 (codes ")")) ∷
    tok Semicolon (leaf 97 []) ∷ tok Go (leaf 99 (codes "go")) ∷ tok Name (leaf 102 (codes "send")) ∷
    tok OpenParen (leaf 106 (codes "(")) ∷ tok Name (leaf 107 (codes "c")) ∷
    tok CloseParen (leaf 108 (codes ")")) ∷ tok Semicolon (leaf 109 []) ∷ tok Name (leaf 111 (codes "fmt")) ∷
    tok Dot (leaf 114 (codes ".")) ∷ tok Name (leaf 115 (codes "Println")) ∷ tok OpenParen (leaf 122 (codes "(")) ∷
    tok Arrow (leaf 123 (codes "<-")) ∷ tok Name (leaf 125 (codes "c")) ∷ tok CloseParen (leaf 126 (codes ")")) ∷
    tok Semicolon (leaf 127 []) ∷ tok CloseBrace (leaf 128 (codes "}")) ∷ tok Semicolon (leaf 129 []) ∷ []

sender_lexed : LexesFrom 0 None sender_text sender_found
unfolding front_of word_at_front word_terminal number_at literal_value string_at items_len comment_at operator_at operator_entry may_end
sender_lexed =
    piece Package 7 refl (blank 1 refl (piece Name 4 refl (newline 1 refl (newline 1 refl (piece Import 6 refl
    (blank 1 refl (piece Text 5 refl (newline 1 refl (newline 1 refl (piece Func 4 refl (blank 1 refl
    (piece Name 4 refl (piece OpenParen 1 refl (piece Name 1 refl (blank 1 refl (piece Chan 4 refl (blank 1 refl
    (piece Name 3 refl (piece CloseParen 1 refl (blank 1 refl (piece OpenBrace 1 refl (newline 1 refl (blank 1 refl
    (piece Name 1 refl (blank 1 refl (piece Arrow 2 refl (blank 1 refl (piece (Number 7) 1 refl (newline 1 refl
    (piece CloseBrace 1 refl (newline 1 refl (newline 1 refl (piece Func 4 refl (blank 1 refl (piece Name 4 refl
    (piece OpenParen 1 refl (piece CloseParen 1 refl (blank 1 refl (piece OpenBrace 1 refl (newline 1 refl
    (blank 1 refl (piece Name 1 refl (blank 1 refl (piece Define 2 refl (blank 1 refl (piece Make 4 refl
    (piece OpenParen 1 refl (piece Chan 4 refl (blank 1 refl (piece Name 3 refl (piece CloseParen 1 refl
    (newline 1 refl (blank 1 refl (piece Go 2 refl (blank 1 refl (piece Name 4 refl (piece OpenParen 1 refl
    (piece Name 1 refl (piece CloseParen 1 refl (newline 1 refl (blank 1 refl (piece Name 3 refl (piece Dot 1 refl
    (piece Name 7 refl (piece OpenParen 1 refl (piece Arrow 2 refl (piece Name 1 refl (piece CloseParen 1 refl
    (newline 1 refl (piece CloseBrace 1 refl (newline 1 refl
    (finish refl))))))))))))))))))))))))))))))))))))))))))))))))))))))))))))))))))))))))

abbrev sender_lexemes : List Lexeme
sender_lexemes = with_package_name sender_found

sender_derived : IsProgram sender_lexemes (tree_in sender_lexemes).0 (tree_in sender_lexemes).1
unfolding listed several a_type names expr stmt decls imports
sender_derived = parsed sender_lexemes (tree_in sender_lexemes) [] refl

sender_shallow : deep_at limit sender_lexemes ≡ None
unfolding deep_from
sender_shallow = refl

abbrev sender_tree : Program
sender_tree = record { imports = (tree_in sender_lexemes).0; decls = (tree_in sender_lexemes).1; end = 130 }

sender_unbroken : first_refusal (sites_of sender_tree) ≡ None
unfolding broken string_of listed several a_type names expr stmt decls imports
sender_unbroken = refl

sender_typed : sender ≡ typed_program sender_tree
unfolding string_of listed several a_type names expr stmt decls imports
sender_typed = refl

pub sender_is_program : verdicts.IsTypedProgram sender_text sender
sender_is_program = record {
  tree = sender_tree;
  is_well_typed = record {
    is_tree = record {
      within = leb-true 130 1048576 refl;
      lexemes = sender_lexemes;
      lexed = (sender_utf8, sender_found, sender_lexed, refl);
      parsed = record { derived = sender_derived; ended = refl; shallow = sender_shallow };
    };
    unbroken = sender_unbroken;
  };
  typed = sender_typed;
}
