-- The comment at the front of a text lies within it, and is not a token.
use Rattle.std.proofs.Common.{◌≡◌, ℕ, suc, ◌+◌, ◌<◌, ◌≤◌, Bool, true, false, ◌||◌, not, cond, List, [], ◌∷◌, length, take, drop, Option, None, Some, IfSome, refl, sym, arith, length-drop, ⊎_elim}
use Rattle.std.specs.Prelude.{option_map, codes, nat_eq}
use Rattle.std.specs.List.{list_any, position_or_len}
use Rattle.std.proofs.lemmas.Bool.{and_parts, eqb-true, cond_both, false≢true, or_cases, or_left, or_right}
use Rattle.std.proofs.lemmas.List.Sums.{prefix_len-le-length}
use Rattle.rgo_lexer.specs.Bytes.{has_prefix}
use Rattle.rgo_lexer.specs.Comments.{first_close, is_newline, begins_line_comment, begins_comment, acts_as, closed_at, comment_at}
use Rattle.rgo_lexer.specs.Front.{FitsIn, IsWidthIn}
use Rattle.rgo_lexer.specs.declared.front.Front.TheVariants.{Blank, Newline, Piece}
use Rattle.rgo_lexer.specs.declared.terminals.Terminal.{Terminal}
use Rattle.rgo_lexer.proofs.Begins.{begins_with-length, begins_with-whole}

first_close-within : (text : List ℕ) → IfSome (first_close text) (λ k. k + 2 ≤ length text)
first_close-within [] = tt
first_close-within (b ∷ text) =
    by_test (has_prefix (b ∷ text) (codes "*/")) refl (first_close-within text)
  where
    later : (o : Option ℕ) → IfSome o (λ k. k + 2 ≤ length text)
        → IfSome (option_map suc o) (λ k. k + 2 ≤ length (b ∷ text))
    later None h = tt
    later (Some k) h = omega (arith, h)

    by_test : (v : Bool) → has_prefix (b ∷ text) (codes "*/") ≡ v
        → IfSome (first_close text) (λ k. k + 2 ≤ length text)
        → IfSome (cond v (Some 0) (option_map suc (first_close text)))
        (λ k. k + 2 ≤ length (b ∷ text))
    by_test true e h = begins_with-length (codes "*/") (b ∷ text) e
    by_test false e h = later (first_close text) h

line_fits : (b : ℕ) (rest : List ℕ) → begins_line_comment (b ∷ rest) ≡ true
    → IsWidthIn (b ∷ rest) (position_or_len is_newline (b ∷ rest))
line_fits b rest e =
    let slash : 47 ≡ b = eqb-true 47 b (and_parts (nat_eq 47 b) _ e).0 in
    let some : 0 < position_or_len is_newline (b ∷ rest) = rw (sym slash) (omega arith) in
    record { some = some; within = prefix_len-le-length (λ x. not (is_newline x)) (b ∷ rest) }

acts_fits : (text : List ℕ) (n : ℕ) → IsWidthIn text n → FitsIn text (acts_as text n)
acts_fits text n w =
    cond_both (list_any is_newline (take n text)) (Newline n) (Blank n) (FitsIn text) (λ e. w)
    (λ e. w)

closed_fits : (text : List ℕ) (o : Option ℕ) → 0 < length text → IfSome o (λ k. k + 4 ≤ length text)
    → FitsIn text (closed_at text o)
closed_fits text None some h = some
closed_fits text (Some k) some h =
    acts_fits text (k + 4) (record { some = omega arith; within = h })

general_fits : (text : List ℕ) → has_prefix text (codes "/*") ≡ true
    → FitsIn text (closed_at text (first_close (drop 2 text)))
general_fits text e =
    let two : 2 ≤ length text = begins_with-length (codes "/*") text e in
    closed_fits text (first_close (drop 2 text)) (omega arith)
    (farther (first_close (drop 2 text)) two (first_close-within (drop 2 text)))
  where
    farther : (o : Option ℕ) → 2 ≤ length text → IfSome o (λ k. k + 2 ≤ length (drop 2 text))
        → IfSome o (λ k. k + 4 ≤ length text)
    farther None two h = tt
    farther (Some k) two h = omega (arith, h, length-drop 2 text)

pub comment_fits : (b : ℕ) (rest : List ℕ) → begins_comment (b ∷ rest) ≡ true
    → FitsIn (b ∷ rest) (comment_at (b ∷ rest))
unfolding comment_at
comment_fits b rest e = by_test (begins_line_comment (b ∷ rest)) refl e
  where
    by_test : (v : Bool) → begins_line_comment (b ∷ rest) ≡ v
        → (v || has_prefix (b ∷ rest) (codes "/*")) ≡ true
        → FitsIn (b ∷ rest) (cond v (Blank (position_or_len is_newline (b ∷ rest)))
        (closed_at (b ∷ rest) (first_close (drop 2 (b ∷ rest)))))
    by_test true line e = line_fits b rest line
    by_test false line e = general_fits (b ∷ rest) e

acts_no_piece : (newline : Bool) (n m : ℕ) (terminal : Terminal)
    → cond newline (Newline n) (Blank n) ≡ Piece terminal m → ⊥
acts_no_piece true n m terminal e = cc
acts_no_piece false n m terminal e = cc

closed_no_piece : (text : List ℕ) (o : Option ℕ) (m : ℕ) (terminal : Terminal)
    → closed_at text o ≡ Piece terminal m → ⊥
closed_no_piece text None m terminal e = cc
closed_no_piece text (Some k) m terminal e =
    acts_no_piece (list_any is_newline (take (k + 4) text)) (k + 4) m terminal e

pub comment_no_piece : (text : List ℕ) (terminal : Terminal) (m : ℕ)
    → comment_at text ≡ Piece terminal m → ⊥
unfolding comment_at
comment_no_piece text terminal m e = by_test (begins_line_comment text) e
  where
    by_test : (v : Bool)
        → cond v (Blank (position_or_len is_newline text))
        (closed_at text (first_close (drop 2 text))) ≡ Piece terminal m → ⊥
    by_test true e = cc
    by_test false e = closed_no_piece text (first_close (drop 2 text)) m terminal e

-- if a front of the text begins with a comment, so does the text
pub begins_comment-whole : (text : List ℕ) (n : ℕ) → begins_comment (take n text) ≡ true
    → begins_comment text ≡ true
begins_comment-whole text n e =
    ⊎_elim (λ line. or_left (begins_line_comment text) (has_prefix text (codes "/*"))
    (begins_with-whole (codes "//") text n line))
    (λ general. or_right (begins_line_comment text) (has_prefix text (codes "/*"))
    (begins_with-whole (codes "/*") text n general))
    (or_cases (begins_line_comment (take n text)) (has_prefix (take n text) (codes "/*")) e)

pub comment_fits_in : (text : List ℕ) → begins_comment text ≡ true → FitsIn text (comment_at text)
comment_fits_in [] e = absurd (false≢true e)
comment_fits_in (b ∷ rest) e = comment_fits b rest e
