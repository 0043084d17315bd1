-- The number at the front of a text: it fits, and by itself it is the same number.
use Rattle.std.proofs.Common.{◌≡◌, ℕ, true, List, ◌∷◌, take, Option, Some, None, refl, ap, ◌∙◌, arith}
use Rattle.std.proofs.lemmas.Bool.{or_right}
use Rattle.rgo_lexer.specs.Bytes.{is_letter, is_digit}
use Rattle.rgo_lexer.specs.Words.{run_of}
use Rattle.rgo_lexer.specs.Numbers.{number_at, number_front, literal_value}
use Rattle.rgo_lexer.specs.Front.{FitsIn, IsWidthIn}
use Rattle.rgo_lexer.specs.declared.front.Front.TheVariants.{Piece}
use Rattle.rgo_lexer.specs.declared.terminals.Terminal.{Terminal}
use Rattle.rgo_lexer.proofs.WordForms.{run_fits, run_again, twice}

front_fits : (text : List ℕ) (n : ℕ) (value : Option ℕ) → IsWidthIn text n
    → FitsIn text (number_front n value)
front_fits text n None w = omega (arith, w.some, w.within)
front_fits text n (Some value) w = w

pub number_fits : (b : ℕ) (rest : List ℕ) → is_digit b ≡ true
    → FitsIn (b ∷ rest) (number_at (b ∷ rest))
unfolding number_at
number_fits b rest h =
    front_fits (b ∷ rest) (run_of (b ∷ rest)) (literal_value (take (run_of (b ∷ rest)) (b ∷ rest)))
    (run_fits b rest (or_right (is_letter b) (is_digit b) h))

again : (text : List ℕ) → number_at (take (run_of text) text) ≡ number_at text
unfolding number_at
again text = rw (twice text, run_again text) refl

width_is : (m : ℕ) (value : Option ℕ) (terminal : Terminal) (n : ℕ)
    → number_front m value ≡ Piece terminal n → n ≡ m
width_is m None terminal n e = cc
width_is m (Some value) terminal n e = cc

pub number_stable : (text : List ℕ) (terminal : Terminal) (n : ℕ)
    → number_at text ≡ Piece terminal n → number_at (take n text) ≡ Piece terminal n
unfolding number_at
number_stable text terminal n e =
    let width = width_is (run_of text) (literal_value (take (run_of text) text)) terminal n e in
    rw width (again text ∙ e ∙ ap (Piece terminal) width)
