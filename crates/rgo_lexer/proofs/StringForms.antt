-- The string at the front of a text: it fits, and by itself it is the same string.
use Rattle.std.proofs.Common.{◌≡◌, ℕ, suc, ◌+◌, ◌≤◌, Bool, true, false, ◌||◌, cond, List, [], ◌∷◌, length, take, drop, ap, ◌∙◌, arith, length-drop}
use Rattle.std.specs.Prelude.{◌==◌}
use Rattle.std.proofs.lemmas.List.{drop-take}
use Rattle.rgo_lexer.specs.Strings.{string_at, string_before, items_len, open_string, bad_escape}
use Rattle.rgo_lexer.specs.Front.{FitsIn}
use Rattle.rgo_lexer.specs.declared.front.Front.TheVariants.{Piece}
use Rattle.rgo_lexer.specs.declared.terminals.Terminal.{Terminal}
use Rattle.rgo_lexer.specs.declared.terminals.Terminal.TheVariants.{Text}
use Rattle.rgo_lexer.proofs.StringLemmas.{items_len-le, items_len-take}

-- a string whose items have n bytes, in a text of a length
before_fits : (text : List ℕ) (n : ℕ) (after : List ℕ) → n + 1 + length after ≤ length text
    → FitsIn text (string_before n after)
before_fits text n [] h = omega (arith, h)
before_fits text n (b ∷ rest) h = by_test (b == 34) (b == 10 || length rest == 0)
  where
    by_test : (quote open' : Bool)
        → FitsIn text (cond quote (Piece Text (n + 2))
        (cond open' open_string (bad_escape (n + 1))))
    by_test true open' = record { some = omega arith; within = omega (arith, h) }
    by_test false true = omega (arith, h)
    by_test false false = omega (arith, h)

pub string_fits : (b : ℕ) (rest : List ℕ) → FitsIn (b ∷ rest) (string_at (b ∷ rest))
unfolding string_at
string_fits b rest =
    let n = items_len rest in
    let e : n + 1 ≡ suc n = omega arith in
    before_fits (b ∷ rest) n (drop (n + 1) (b ∷ rest))
    (omega (arith, length-drop (n + 1) (b ∷ rest), items_len-le rest))

-- if it is a string, a quote follows the items, and its width is theirs and two
before_piece : (n : ℕ) (after : List ℕ) (terminal : Terminal) (m : ℕ)
    → string_before n after ≡ Piece terminal m
    → (m ≡ n + 2) × (string_before n (take 1 after) ≡ Piece terminal m)
before_piece n [] terminal m e = cc
before_piece n (b ∷ rest) terminal m e =
    by_test (b == 34) (b == 10 || length rest == 0) (b == 10 || length (take 0 rest) == 0) e
  where
    by_test : (quote open' open'' : Bool)
        → cond quote (Piece Text (n + 2))
        (cond open' open_string (bad_escape (n + 1))) ≡ Piece terminal m
        → (m ≡ n + 2) × (cond quote (Piece Text (n + 2))
        (cond open'' open_string (bad_escape (n + 1))) ≡ Piece terminal m)
    by_test true open' open'' e = (cc, e)
    by_test false true open'' e = cc
    by_test false false open'' e = cc

pub string_stable : (text : List ℕ) (terminal : Terminal) (m : ℕ)
    → string_at text ≡ Piece terminal m → string_at (take m text) ≡ Piece terminal m
unfolding string_at
string_stable text terminal m e =
    let n : ℕ = items_len (drop 1 text) in
    let piece = before_piece n (drop (n + 1) text) terminal m e in
    let w : m ≡ 1 + (n + 1) = omega (arith, piece.0) in
    let v : m ≡ n + 1 + 1 = omega (arith, piece.0) in
    let inside : drop 1 (take m text) ≡ take (n + 1) (drop 1 text) =
    ap (λ k. drop 1 (take k text)) w ∙ drop-take 1 (n + 1) text in
    let after : drop (n + 1) (take m text) ≡ take 1 (drop (n + 1) text) =
    ap (λ k. drop (n + 1) (take k text)) v ∙ drop-take (n + 1) 1 text in
    let same : items_len (drop 1 (take m text)) ≡ n =
    ap items_len inside ∙ items_len-take (drop 1 text) (n + 1) (omega arith) in
    ap (λ k. string_before k (drop (k + 1) (take m text))) same
    ∙ ap (string_before n) after
    ∙ piece.1
