-- What comes next in a list of tokens, by a test of its terminal.
use Rattle.std.proofs.Common.{◌≡◌, Bool, true, false, List, [], ◌∷◌, ◌++◌}
use Rattle.rgo_lexer.specs.{declared.terminals.Terminal.{Terminal}, Lexemes.{Lexeme}}

-- nothing comes next, or what does not pass the test
abbrev pub NotNext : (Terminal → Bool) → List Lexeme → Type 0
NotNext test [] = Unit {0}
NotNext test (t ∷ l) = test t.terminal ≡ false

-- something that passes the test
abbrev pub IsNext : (Terminal → Bool) → List Lexeme → Type 0
IsNext test [] = ⊥
IsNext test (t ∷ l) = test t.terminal ≡ true

pub next_other : {p q : Terminal → Bool} (l : List Lexeme) → IsNext p l
    → ((k : Terminal) → p k ≡ true → q k ≡ false) → NotNext q l
next_other [] h f = absurd h
next_other (t ∷ l) h f = f t.terminal h

pub next_also : {p q : Terminal → Bool} (l : List Lexeme) → IsNext p l
    → ((k : Terminal) → p k ≡ true → q k ≡ true) → IsNext q l
next_also [] h f = absurd h
next_also (t ∷ l) h f = f t.terminal h

pub next_append : (test : Terminal → Bool) (x z : List Lexeme) → NotNext test x → NotNext test z
    → NotNext test (x ++ z)
next_append test [] z h g = g
next_append test (t ∷ x) z h g = h

pub begins_append : (test : Terminal → Bool) (x z : List Lexeme)
    → IsNext test x → IsNext test (x ++ z)
begins_append test [] z h = absurd h
begins_append test (t ∷ x) z h = h
