-- The front of a text: it fits, a token by itself is the same token, and an operator is the longest one. Each is proved for every form in
-- the form's own file, and here for the choice among them. The second is the subtle one: cutting the text must not change the form.
use Rattle.std.proofs.Common.{◌≡◌, ℕ, zero, suc, Bool, true, false, cond, List, [], ◌∷◌, take, refl, sym, subst, ◌∙◌, arith}
use Rattle.std.specs.Prelude.{◌==◌, ◌||◌, not}
use Rattle.std.proofs.lemmas.Bool.{false≢true}
use Rattle.rgo_lexer.specs.Bytes.{is_blank, is_letter, is_digit}
use Rattle.rgo_lexer.specs.Words.{word_at_front}
use Rattle.rgo_lexer.specs.Numbers.{number_at}
use Rattle.rgo_lexer.specs.Strings.{string_at}
use Rattle.rgo_lexer.specs.Comments.{begins_comment, comment_at}
use Rattle.rgo_lexer.specs.Operators.{operator_at}
use Rattle.rgo_lexer.specs.Laws.{LongestMatch, IsLongestOperator}
use Rattle.rgo_lexer.specs.Front.{front_of, FitsIn, IsWidthIn}
use Rattle.rgo_lexer.specs.declared.front.Front.{Front}
use Rattle.rgo_lexer.specs.declared.front.Front.TheVariants.{Blank, Newline, Piece}
use Rattle.rgo_lexer.specs.declared.terminals.Terminal.{Terminal}
use Rattle.rgo_lexer.proofs.WordForms.{word_fits, word_stable}
use Rattle.rgo_lexer.proofs.NumberForms.{number_fits, number_stable}
use Rattle.rgo_lexer.proofs.StringForms.{string_fits, string_stable}
use Rattle.rgo_lexer.proofs.CommentForms.{comment_fits, comment_no_piece, begins_comment-whole}
use Rattle.rgo_lexer.proofs.OperatorForms.{operator_fits, operator_stable, operator_longest}

-- what each form is at the front of a text
record Forms : Type 0 where
  word : Front
  number : Front
  string : Front
  note : Front
  operator : Front

abbrev forms_of : List ℕ → Forms
forms_of text = record {
  word = word_at_front text;
  number = number_at text;
  string = string_at text;
  note = comment_at text;
  operator = operator_at text;
}

-- the choice among the forms, by the tests of the first bytes
choice : (blank line letter digit quote comment : Bool) → Forms → Front
choice blank line letter digit quote comment f =
    cond blank (Blank 1)
    (cond line (Newline 1)
    (cond letter f.word
    (cond digit f.number (cond quote f.string (cond comment f.note f.operator)))))

-- what holds of each form holds of the choice
by_form : (P : Front → Type 0) (blank line letter digit quote comment : Bool) (f : Forms)
    → P (Blank 1) → P (Newline 1) → (letter ≡ true → P f.word) → (digit ≡ true → P f.number)
    → (quote ≡ true → P f.string) → (comment ≡ true → P f.note)
    → (comment ≡ false → P f.operator) → P (choice blank line letter digit quote comment f)
unfolding choice
by_form P true line letter digit quote comment f b l w n s c o = b
by_form P false true letter digit quote comment f b l w n s c o = l
by_form P false false true digit quote comment f b l w n s c o = w refl
by_form P false false false true quote comment f b l w n s c o = n refl
by_form P false false false false true comment f b l w n s c o = s refl
by_form P false false false false false true f b l w n s c o = c refl
by_form P false false false false false false f b l w n s c o = o refl

-- what holds of each form at the front of a text holds of its front
at_front : (P : Front → Type 0) (b : ℕ) (rest : List ℕ)
    → let text = b ∷ rest in P (Blank 1) → P (Newline 1) → (is_letter b ≡ true → P (word_at_front text))
    → (is_digit b ≡ true → P (number_at text)) → ((b == 34) ≡ true → P (string_at text))
    → (begins_comment text ≡ true → P (comment_at text))
    → (begins_comment text ≡ false → P (operator_at text)) → P (front_of text)
unfolding front_of choice
at_front P b rest =
    by_form P (is_blank b) (b == 10) (is_letter b) (is_digit b) (b == 34) (begins_comment (b ∷ rest))
    (forms_of (b ∷ rest))

one : (b : ℕ) (rest : List ℕ) → IsWidthIn (b ∷ rest) 1
one b rest = record { some = omega arith; within = omega arith }

pub front_fits : (text : List ℕ) → FitsIn text (front_of text)
unfolding front_of
front_fits [] = refl
front_fits (b ∷ rest) =
    at_front (FitsIn (b ∷ rest)) b rest (one b rest) (one b rest) (word_fits b rest)
    (number_fits b rest) (λ e. string_fits b rest) (comment_fits b rest) (λ e. operator_fits b rest)

-- the same, as the code has it
pub fits : (text : List ℕ) (front : Front) → front ≡ front_of text → FitsIn text front
fits text front e = subst (FitsIn text) (sym e) (front_fits text)

-- a token has some width
pub piece_fits : (text : List ℕ) (terminal : Terminal) (n : ℕ) → front_of text ≡ Piece terminal n
    → IsWidthIn text n
piece_fits text terminal n e = fits text (Piece terminal n) (sym e)

-- two choices by the same tests, of which the second may see fewer comments
both : (k : Terminal) (n : ℕ) (blank line letter digit quote comment comment' : Bool) (f g : Forms)
    → (f.word ≡ Piece k n → g.word ≡ Piece k n) → (f.number ≡ Piece k n → g.number ≡ Piece k n)
    → (f.string ≡ Piece k n → g.string ≡ Piece k n) → (f.note ≡ Piece k n → ⊥)
    → (comment' ≡ true → comment ≡ true) → (f.operator ≡ Piece k n → g.operator ≡ Piece k n)
    → choice blank line letter digit quote comment f ≡ Piece k n
    → choice blank line letter digit quote comment' g ≡ Piece k n
unfolding choice
both k n true line letter digit quote comment comment' f g w m s c h o e = cc
both k n false true letter digit quote comment comment' f g w m s c h o e = cc
both k n false false true digit quote comment comment' f g w m s c h o e = w e
both k n false false false true quote comment comment' f g w m s c h o e = m e
both k n false false false false true comment comment' f g w m s c h o e = s e
both k n false false false false false true comment' f g w m s c h o e = absurd (c e)
both k n false false false false false false true f g w m s c h o e = absurd (false≢true (h refl))
both k n false false false false false false false f g w m s c h o e = o e

-- a token's bytes by themselves are the same token
pub front_stable : (text : List ℕ) (k : Terminal) (n : ℕ) → front_of text ≡ Piece k n
    → front_of (take n text) ≡ Piece k n
unfolding front_of choice
front_stable [] k n e = cc
front_stable (b ∷ rest) k zero e = absurd (omega (arith, (piece_fits (b ∷ rest) k zero e).some))
front_stable (b ∷ rest) k (suc n) e =
    let text = b ∷ rest in
    both k (suc n) (is_blank b) (b == 10) (is_letter b) (is_digit b) (b == 34)
    (begins_comment text) (begins_comment (b ∷ take n rest)) (forms_of text)
    (forms_of (b ∷ take n rest)) (word_stable text k (suc n)) (number_stable text k (suc n))
    (string_stable text k (suc n)) (comment_no_piece text k (suc n))
    (begins_comment-whole text (suc n)) (operator_stable text k (suc n)) e

-- a byte other than a letter, a digit or a quote
no_form : (letter digit quote : Bool) → not (letter || digit || quote) ≡ true → (letter ≡ false)
    × (digit ≡ false) × (quote ≡ false)
no_form true digit quote h = absurd (false≢true h)
no_form false true quote h = absurd (false≢true h)
no_form false false true h = absurd (false≢true h)
no_form false false false h = (refl, refl, refl)

never : (v : Bool) → v ≡ false → v ≡ true → ⊥
never v e d = false≢true (sym e ∙ d)

pub longest_match : LongestMatch
unfolding front_of
longest_match [] terminal n e h = cc
longest_match (b ∷ rest) terminal n e h =
    let none = no_form (is_letter b) (is_digit b) (b == 34) h in
    at_front (λ f. f ≡ Piece terminal n → IsLongestOperator (b ∷ rest) terminal n) b rest (λ w. cc)
    (λ w. cc)
    (λ t w. absurd (never (is_letter b) none.0 t)) (λ t w. absurd (never (is_digit b) none.1 t))
    (λ t w. absurd (never (b == 34) none.2 t))
    (λ t w. absurd (comment_no_piece (b ∷ rest) terminal n w))
    (λ t w. operator_longest (b ∷ rest) terminal n w) e
