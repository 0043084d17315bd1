-- Laws of lexing, which hold for every text: it has exactly one list of lexemes or one refusal, and operators match longest.
use Rattle.std.specs.Prelude.{◌≡◌, ℕ, ◌≤◌, ◌⊎◌, Bool, true, false, not, ◌||◌, ◌==◌, List, [], ◌∷◌, ◌++◌, length, take, All, Contains}
use Rattle.rgo_lexer.specs.Bytes.{is_letter, is_digit}
use Rattle.rgo_lexer.specs.Front.{front_of}
use Rattle.rgo_lexer.specs.Lexemes.{Lexeme, lexeme_end}
use Rattle.rgo_lexer.specs.Lexing.{LexesAs, IsLexemeOf}
use Rattle.rgo_lexer.specs.Operators.{operators}
use Rattle.rgo_lexer.specs.Refusals.{LexRefuses}
use Rattle.rgo_lexer.specs.declared.front.Front.TheVariants.{Piece}
use Rattle.rgo_lexer.specs.declared.refusals.LexRefusal.{LexRefusal}
use Rattle.rgo_lexer.specs.declared.terminals.Terminal.{Terminal}

-- no text has lexemes and a refusal
abbrev pub NeverBoth : Type 0
NeverBoth = (text : List ℕ) (lexemes : List Lexeme) (r : LexRefusal)
    → LexesAs text lexemes → LexRefuses text r → ⊥

-- each text has lexemes or a refusal
abbrev pub OneOfBoth : Type 0
OneOfBoth = (text : List ℕ)
    → ((lexemes : List Lexeme) × LexesAs text lexemes) ⊎ ((r : LexRefusal) × LexRefuses text r)

abbrev pub OneList : Type 0
OneList = (text : List ℕ) (lexemes others : List Lexeme)
    → LexesAs text lexemes → LexesAs text others → lexemes ≡ others

abbrev pub OneRefusal : Type 0
OneRefusal = (text : List ℕ) (r other : LexRefusal)
    → LexRefuses text r → LexRefuses text other → r ≡ other

-- Each lexeme of a text is an inserted `;` or a part of the text that is a token by itself. So a lexeme means the same wherever it is,
-- and its terminal can be checked from its bytes.
abbrev pub OfText : Type 0
OfText = (text : List ℕ) (lexemes : List Lexeme)
    → LexesAs text lexemes → All (IsLexemeOf text) lexemes

-- the first lexeme begins at `from` or later, and each next one where the one before it ends or later
abbrev pub IsInOrder : ℕ → List Lexeme → Type 0
IsInOrder from [] = Unit {0}
IsInOrder from (l ∷ lexemes) = (from ≤ l.leaf.at) × IsInOrder (lexeme_end l) lexemes

abbrev pub InOrder : Type 0
InOrder = (text : List ℕ) (lexemes : List Lexeme) → LexesAs text lexemes → IsInOrder 0 lexemes

-- the text does not begin with a letter, a digit or a quote
abbrev pub begins_as_operator : List ℕ → Bool
begins_as_operator [] = false
begins_as_operator (b ∷ rest) = not (is_letter b || is_digit b || b == 34)

-- the first n bytes of a text are an operator with this terminal, and the text does not begin with a longer operator
pub record IsLongestOperator (text : List ℕ) (terminal : Terminal) (n : ℕ) : Type 0 where
  pub among : Contains operators (take n text, terminal)
  pub longest : (operator : List ℕ × Terminal) (rest : List ℕ) → Contains operators operator
      → text ≡ operator.0 ++ rest → length operator.0 ≤ n

-- a token other than a word, number or string is the longest operator that the text begins with
abbrev pub LongestMatch : Type 0
LongestMatch = (text : List ℕ) (terminal : Terminal) (n : ℕ)
    → front_of text ≡ Piece terminal n → begins_as_operator text ≡ true
    → IsLongestOperator text terminal n
