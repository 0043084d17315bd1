-- Words: names and keywords.
use Rattle.std.specs.Prelude.{ℕ, if◌then◌else◌, List, [], ◌∷◌, map, take, codes}
use Rattle.std.specs.List.{prefix_len}
use Rattle.std.specs.Str.{bytes_eq}
use denote.Ref.{Bor}
use Rattle.rgo_lexer.specs.Bytes.{is_word_byte}
use Rattle.rgo_lexer.specs.declared.front.Front.{Front}
use Rattle.rgo_lexer.specs.declared.front.Front.TheVariants.{Piece}
use Rattle.rgo_lexer.specs.declared.terminals.Terminal.{Terminal}
use Rattle.rgo_lexer.specs.declared.terminals.Terminal.TheVariants.{Name, New, Make, Package, Import, TypeWord}
use Rattle.rgo_lexer.specs.declared.terminals.Terminal.TheVariants.{Struct, Var, Func, Chan, Go, If, Else, For}
use Rattle.rgo_lexer.specs.declared.terminals.Terminal.TheVariants.{Return, Break, Continue, Other}

-- a table of words with their terminals, in the form that the code has it
abbrev pub entries : List (Bor (List ℕ) × Terminal) → List (List ℕ × Terminal)
entries table = map (λ e. (e.0.now, e.1)) table

-- the terminal of a word in a table, or the default
abbrev pub looked_up : List (List ℕ × Terminal) → Terminal → List ℕ → Terminal
looked_up [] default word = default
looked_up (e ∷ table) default word = if bytes_eq word e.0 then e.1 else looked_up table default word

-- The words that are not names: all of Go's keywords, so that no program uses one as a name, and `new` and `make`, whose first operand is
-- a type.
abbrev pub words : List (List ℕ × Terminal)
words =
    (codes "break", Break) ∷ (codes "case", Other) ∷ (codes "chan", Chan)
    ∷ (codes "const", Other) ∷ (codes "continue", Continue) ∷ (codes "default", Other)
    ∷ (codes "defer", Other) ∷ (codes "else", Else) ∷ (codes "fallthrough", Other)
    ∷ (codes "for", For) ∷ (codes "func", Func) ∷ (codes "go", Go) ∷ (codes "goto", Other)
    ∷ (codes "if", If) ∷ (codes "import", Import) ∷ (codes "interface", Other)
    ∷ (codes "map", Other) ∷ (codes "package", Package) ∷ (codes "range", Other)
    ∷ (codes "return", Return) ∷ (codes "select", Other) ∷ (codes "struct", Struct)
    ∷ (codes "switch", Other) ∷ (codes "type", TypeWord) ∷ (codes "var", Var)
    ∷ (codes "new", New) ∷ (codes "make", Make) ∷ []

-- the terminal of a word; any other word is a name
unfoldable pub word_terminal : List ℕ → Terminal
word_terminal word = looked_up words Name word

-- the number of bytes at the front that may occur in a word
abbrev pub run_of : List ℕ → ℕ
run_of text = prefix_len is_word_byte text

-- the word at the front of a text that begins with a letter; it extends over all bytes that may occur in a word
unfoldable pub word_at_front : List ℕ → Front
word_at_front text = Piece (word_terminal (take (run_of text) text)) (run_of text)
