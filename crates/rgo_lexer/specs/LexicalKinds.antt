-- The numbers and names of the kinds of lexical error, as they are printed.
use Rattle.std.specs.Prelude.{ℕ, List, codes}
use Rattle.rgo_lexer.specs.declared.refusals.LexicalKind.{LexicalKind}
use Rattle.rgo_lexer.specs.declared.refusals.LexicalKind.TheVariants.{BadUtf8, BadByte, BadNumber}
use Rattle.rgo_lexer.specs.declared.refusals.LexicalKind.TheVariants.{BadEscape, OpenString, OpenComment}

-- the number of a kind, as in `lexical 3 BadNumber`
abbrev pub lexical_kind_number : LexicalKind → ℕ
lexical_kind_number BadUtf8 = 1
lexical_kind_number BadByte = 2
lexical_kind_number BadNumber = 3
lexical_kind_number BadEscape = 4
lexical_kind_number OpenString = 5
lexical_kind_number OpenComment = 6

-- its name, as bytes
abbrev pub lexical_kind_name : LexicalKind → List ℕ
lexical_kind_name BadUtf8 = codes "BadUtf8"
lexical_kind_name BadByte = codes "BadByte"
lexical_kind_name BadNumber = codes "BadNumber"
lexical_kind_name BadEscape = codes "BadEscape"
lexical_kind_name OpenString = codes "OpenString"
lexical_kind_name OpenComment = codes "OpenComment"
