-- The word at the front of a text: it fits, and by itself it is the same word.
use Rattle.std.proofs.Common.{◌≡◌, ℕ, true, List, ◌∷◌, take, refl, ap, ◌∙◌, arith}
use Rattle.std.proofs.lemmas.Bool.{or_left}
use Rattle.std.proofs.lemmas.List.{take-take}
use Rattle.std.proofs.lemmas.List.Sums.{prefix_len-le-length}
use Rattle.rgo_lexer.specs.Bytes.{is_letter, is_digit, is_word_byte}
use Rattle.rgo_lexer.specs.Words.{run_of, word_at_front}
use Rattle.rgo_lexer.specs.Front.{FitsIn, IsWidthIn}
use Rattle.rgo_lexer.specs.declared.front.Front.TheVariants.{Piece}
use Rattle.rgo_lexer.specs.declared.terminals.Terminal.{Terminal}
use Rattle.rgo_lexer.proofs.Runs.{prefix_len-take, prefix_len_some}

pub run_fits : (b : ℕ) (rest : List ℕ) → is_word_byte b ≡ true
    → IsWidthIn (b ∷ rest) (run_of (b ∷ rest))
run_fits b rest h =
    record {
      some = prefix_len_some is_word_byte b rest h;
      within = prefix_len-le-length is_word_byte (b ∷ rest);
    }

pub word_fits : (b : ℕ) (rest : List ℕ) → is_letter b ≡ true
    → FitsIn (b ∷ rest) (word_at_front (b ∷ rest))
unfolding word_at_front
word_fits b rest h = run_fits b rest (or_left (is_letter b) (is_digit b) h)

pub run_again : (text : List ℕ) → run_of (take (run_of text) text) ≡ run_of text
run_again text = prefix_len-take is_word_byte text (run_of text) (omega arith)

-- the run of a run
pub twice : (text : List ℕ)
    → take (run_of (take (run_of text) text)) (take (run_of text) text) ≡ take (run_of text) text
twice text = rw (run_again text) (take-take (run_of text) (run_of text) text (omega arith))

again : (text : List ℕ) → word_at_front (take (run_of text) text) ≡ word_at_front text
unfolding word_at_front
again text = rw (twice text, run_again text) refl

pub word_stable : (text : List ℕ) (terminal : Terminal) (n : ℕ) → word_at_front text ≡ Piece terminal n
    → word_at_front (take n text) ≡ Piece terminal n
unfolding word_at_front
word_stable text terminal n e =
    let width : n ≡ run_of text = cc in rw width (again text ∙ e ∙ ap (Piece terminal) width)
