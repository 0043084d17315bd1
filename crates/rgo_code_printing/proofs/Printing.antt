-- Words with spaces before them, and lists with commas between them, one word after the other.
use Rattle.std.proofs.Common.{◌≡◌, ℕ, ◌+◌, ◌<◌, ◌==◌, Bool, true, false, true≢false, if◌then◌else◌}
use Rattle.std.proofs.Common.{List, [], ◌∷◌, ◌++◌, length, refl, sym, ap, ◌∙◌, arith, lit<, append-nil, append_assoc}
use Rattle.std.specs.List.{join_with_byte, flat_map}
use Rattle.std.proofs.lemmas.Bool.Decides.{Decides-eqb}
use Rattle.rgo_typed.specs.declared.statements.Piece.{Piece}
use Rattle.rgo_code_printing.specs.Words.{comma_separated, piece_words, in_one}
use Rattle.rgo_code_printing.specs.Printing.{words_after_spaces, comma, listed_from}
use Rattle.rgo_code_printing.specs.Text.{line}

-- ---- loops

-- a step prints what the rest begins with
pub one_more : (old now step rest left all : List ℕ) → now ≡ old ++ step → step ++ rest ≡ left → old ++ left ≡ all
    → now ++ rest ≡ all
one_more old now step rest left all e s so_far =
    ap (λ t. t ++ rest) e ∙ append_assoc old step rest ∙ ap (λ t. old ++ t) s ∙ so_far

-- ---- lines

joined : (w : List ℕ) (ws : List (List ℕ)) → join_with_byte 32 (w ∷ ws) ≡ w ++ words_after_spaces ws
joined w [] = sym (append-nil w)
joined w (v ∷ ws) = ap (λ t. w ++ 32 ∷ t) (joined v ws)

-- a line is its first word, the others after spaces, and a newline
pub line_is : (w : List ℕ) (ws : List (List ℕ)) → line (w ∷ ws) ≡ w ++ (words_after_spaces ws ++ 10 ∷ [])
line_is w ws = ap (λ t. t ++ 10 ∷ []) (joined w ws) ∙ append_assoc w (words_after_spaces ws) (10 ∷ [])

-- a first word, a name, and other words
pub named_line : (old word name : List ℕ) (ws : List (List ℕ))
    → (((old ++ word) ++ 32 ∷ []) ++ name) ++ (words_after_spaces ws ++ 10 ∷ []) ≡ old ++ line (word ∷ name ∷ ws)
named_line old word name ws =
    append_assoc ((old ++ word) ++ 32 ∷ []) name (words_after_spaces ws ++ 10 ∷ [])
    ∙ append_assoc (old ++ word) (32 ∷ []) (name ++ (words_after_spaces ws ++ 10 ∷ []))
    ∙ append_assoc old word (32 ∷ (name ++ (words_after_spaces ws ++ 10 ∷ [])))
    ∙ ap (λ t. old ++ (word ++ 32 ∷ t)) (sym (append_assoc name (words_after_spaces ws) (10 ∷ [])))
    ∙ ap (λ t. old ++ t) (sym (line_is word (name ∷ ws)))

pub spaced_append : (xs ys : List (List ℕ)) → words_after_spaces (xs ++ ys) ≡ words_after_spaces xs ++ words_after_spaces ys
spaced_append [] ys = refl
spaced_append (x ∷ xs) ys =
    ap (λ t. (32 ∷ x) ++ t) (spaced_append xs ys) ∙ sym (append_assoc (32 ∷ x) (words_after_spaces xs) (words_after_spaces ys))

pub lines_append : (xs ys : List (List (List ℕ))) → flat_map line (xs ++ ys) ≡ flat_map line xs ++ flat_map line ys
lines_append [] ys = refl
lines_append (x ∷ xs) ys =
    ap (λ t. line x ++ t) (lines_append xs ys) ∙ sym (append_assoc (line x) (flat_map line xs) (flat_map line ys))

-- ---- lists

not_first : (i : ℕ) → 0 < i → (i == 0) ≡ false
not_first i l = by (i == 0) refl
  where
    by : (x : Bool) → (i == 0) ≡ x → x ≡ false
    by true e = absurd (omega (arith, l, (Decides-eqb i 0).0 e))
    by false e = refl

comma_is : (i : ℕ) → 0 < i → comma i ≡ 44 ∷ []
comma_is i l = ap (λ x. if x then [] else 44 ∷ []) (not_first i l)

listed_after : (w : List ℕ) (ws : List (List ℕ)) (i : ℕ) → 0 < i → w ++ listed_from i ws ≡ comma_separated (w ∷ ws)
listed_after w [] i l = append-nil w
listed_after w (v ∷ ws) i l =
    ap (λ t. w ++ t) (ap (λ c. c ++ (v ++ listed_from (i + 1) ws)) (comma_is i l))
    ∙ ap (λ t. w ++ 44 ∷ t) (listed_after v ws (i + 1) (omega (arith, l)))

pub listed_is : (ws : List (List ℕ)) → listed_from 0 ws ≡ comma_separated ws
listed_is [] = refl
listed_is (w ∷ ws) = listed_after w ws 1 (lit< tt)

-- the list is printed when no words are left
pub all_listed : (old now : List ℕ) (left words : List (List ℕ)) (i : ℕ) → left ≡ []
    → now ++ listed_from i left ≡ old ++ listed_from 0 words → now ≡ old ++ comma_separated words
all_listed old now left words i e so_far =
    sym (append-nil now) ∙ ap (λ ws. now ++ listed_from i ws) (sym e) ∙ so_far ∙ ap (λ t. old ++ t) (listed_is words)

pub in_one_is : (pieces : List Piece) (from : List ℕ) (n : ℕ) → (length pieces == 0) ≡ false
    → in_one (piece_words pieces from n) ≡ comma_separated (piece_words pieces from n) ∷ []
in_one_is [] from n e = absurd (true≢false e)
in_one_is (p ∷ pieces) from n e = refl
