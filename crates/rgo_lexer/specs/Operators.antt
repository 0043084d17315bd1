-- Operators and punctuation: the longest one that a text begins with.
use Rattle.std.specs.Prelude.{ℕ, Bool, true, ◌&&◌, nat_le, if◌then◌else◌, List, [], ◌∷◌, length, codes, Option, None, Some}
use Rattle.std.specs.List.{list_all}
use Rattle.rgo_lexer.specs.Bytes.{has_prefix, bad_byte}
use Rattle.rgo_ast.specs.declared.ops.BinaryOp.TheVariants as op
use Rattle.rgo_ast.specs.declared.ops.AssignOp.TheVariants as assign
use Rattle.rgo_ast.specs.declared.ops.StepOp.TheVariants as step
use Rattle.rgo_lexer.specs.declared.front.Front.{Front}
use Rattle.rgo_lexer.specs.declared.front.Front.TheVariants.{Piece}
use Rattle.rgo_lexer.specs.declared.terminals.Terminal.{Terminal}
use Rattle.rgo_lexer.specs.declared.terminals.Terminal.TheVariants.{Binary, Bang, Ampersand, Arrow, Define, Assign}
use Rattle.rgo_lexer.specs.declared.terminals.Terminal.TheVariants.{Step, OpenParen, CloseParen, OpenBracket}
use Rattle.rgo_lexer.specs.declared.terminals.Terminal.TheVariants.{CloseBracket, OpenBrace, CloseBrace, Comma}
use Rattle.rgo_lexer.specs.declared.terminals.Terminal.TheVariants.{Semicolon, Colon, Dot, Other}

-- All of Go's operators and punctuation, with their terminals, also those that occur in no production: without `<<` the text `<<` would
-- be two tokens.
abbrev pub operators : List (List ℕ × Terminal)
operators =
    (codes "<<=", Other) ∷ (codes ">>=", Other) ∷ (codes "&^=", Other) ∷ (codes "...", Other)
    ∷ (codes "<<", Other) ∷ (codes ">>", Other) ∷ (codes "&^", Other)
    ∷ (codes "+=", Assign assign.Add) ∷ (codes "-=", Assign assign.Sub)
    ∷ (codes "*=", Assign assign.Mul) ∷ (codes "/=", Assign assign.Div)
    ∷ (codes "%=", Assign assign.Rem) ∷ (codes "&=", Other) ∷ (codes "|=", Other)
    ∷ (codes "^=", Other) ∷ (codes "&&", Binary op.And) ∷ (codes "||", Binary op.Or)
    ∷ (codes "<-", Arrow) ∷ (codes "++", Step step.Increment) ∷ (codes "--", Step step.Decrement)
    ∷ (codes "==", Binary op.Eq) ∷ (codes "!=", Binary op.Ne) ∷ (codes "<=", Binary op.Le)
    ∷ (codes ">=", Binary op.Ge) ∷ (codes ":=", Define) ∷ (codes "+", Binary op.Add)
    ∷ (codes "-", Binary op.Sub) ∷ (codes "*", Binary op.Mul) ∷ (codes "/", Binary op.Div)
    ∷ (codes "%", Binary op.Rem) ∷ (codes "&", Ampersand) ∷ (codes "|", Other)
    ∷ (codes "^", Other) ∷ (codes "<", Binary op.Lt) ∷ (codes ">", Binary op.Gt)
    ∷ (codes "=", Assign assign.Plain) ∷ (codes "!", Bang) ∷ (codes "~", Other)
    ∷ (codes "(", OpenParen) ∷ (codes ")", CloseParen) ∷ (codes "[", OpenBracket)
    ∷ (codes "]", CloseBracket) ∷ (codes "{", OpenBrace) ∷ (codes "}", CloseBrace)
    ∷ (codes ",", Comma) ∷ (codes ";", Semicolon) ∷ (codes ".", Dot) ∷ (codes ":", Colon) ∷ []

-- the longer of an entry of a table and what was found after it, as a width and a terminal
abbrev pub longer_entry : List ℕ × Terminal → Option (ℕ × Terminal) → Option (ℕ × Terminal)
longer_entry e None = Some (length e.0, e.1)
longer_entry e (Some f) = if nat_le f.0 (length e.0) then Some (length e.0, e.1) else Some f

-- the longest word of a table that a text begins with: its width and its terminal
abbrev pub longest_front : List (List ℕ × Terminal) → List ℕ → Option (ℕ × Terminal)
longest_front [] text = None
longest_front (e ∷ table) text =
    if has_prefix text e.0 then longer_entry e (longest_front table text) else longest_front table text

-- no word comes after a shorter one
abbrev pub longer_first : List (List ℕ × Terminal) → Bool
longer_first [] = true
longer_first (e ∷ table) =
    list_all (λ f. nat_le (length f.0) (length e.0)) table && longer_first table

-- the longest operator that a text begins with
unfoldable pub operator_entry : List ℕ → Option (ℕ × Terminal)
operator_entry text = longest_front operators text

-- the front of a text, by the operator that was found; without one, the first byte begins no token
abbrev pub operator_front : Option (ℕ × Terminal) → Front
operator_front None = bad_byte
operator_front (Some f) = Piece f.1 f.0

-- the operator at the front of a text that begins with no other form
unfoldable pub operator_at : List ℕ → Front
operator_at text = operator_front (operator_entry text)
