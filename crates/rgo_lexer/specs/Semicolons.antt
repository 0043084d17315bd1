-- The `;` that the end of a line inserts after its last token. It is inserted by the lexer, so the grammar needs no newlines.
use Rattle.std.specs.Prelude.{ℕ, Bool, true, false, List, [], ◌∷◌, Option, None, Some, if◌then◌else◌, codes}
use Rattle.std.specs.Str.{bytes_eq}
use Rattle.rgo_lexer.specs.Lexemes.{Lexeme, leaf, tok}
use Rattle.rgo_lexer.specs.declared.terminals.Terminal.{Terminal}
use Rattle.rgo_lexer.specs.declared.terminals.Terminal.TheVariants.{Name, Main, New, Make, Number, Text, Step}
use Rattle.rgo_lexer.specs.declared.terminals.Terminal.TheVariants.{CloseParen, CloseBracket, CloseBrace, Semicolon}
use Rattle.rgo_lexer.specs.declared.terminals.Terminal.TheVariants.{Return, Break, Continue, Other}

-- A statement may end after a name, a literal, `++`, `--`, a closing bracket, and the keywords `break`, `continue`, `fallthrough` and
-- `return`.
unfoldable pub may_end : Terminal → List ℕ → Bool
may_end Name word = true
may_end Main word = true
may_end New word = true
may_end Make word = true
may_end (Number n) word = true
may_end Text word = true
may_end (Step o) word = true
may_end CloseParen word = true
may_end CloseBracket word = true
may_end CloseBrace word = true
may_end Return word = true
may_end Break word = true
may_end Continue word = true
may_end Other word = bytes_eq word (codes "fallthrough")
may_end _ word = false

-- where a token ends, if a statement may end after it
abbrev pub ending_after : Terminal → List ℕ → ℕ → Option ℕ
ending_after terminal word end = if may_end terminal word then Some end else None

-- the `;` that the end of a line inserts where its last token ended
abbrev pub inserted : Option ℕ → List Lexeme
inserted None = []
inserted (Some end) = tok Semicolon (leaf end []) ∷ []
