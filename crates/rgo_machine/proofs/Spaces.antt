-- Operands with a space after each, and with one between each two.
use Rattle.std.proofs.Common.{◌≡◌, ◌+◌, ◌-◌, ◌∙◌, ℕ, max, List, [], ◌∷◌, ◌++◌, length, take, refl, ap, sym, arith, append_assoc}
use Rattle.std.proofs.lemmas.List.{length-append, length-take, take-append-le}
use Rattle.std.proofs.Math.Seq.{take-append_seam, take-append-add}
use Rattle.std.specs.List.{join_with_byte}
use Rattle.rgo_machine.specs.Lines.{spaced}

-- all but the last space
joined : (x : List ℕ) (xs : List (List ℕ)) → spaced (x ∷ xs) ≡ join_with_byte 32 (x ∷ xs) ++ 32 ∷ []
joined x [] = refl
joined x (y ∷ ys) =
    ap (λ l. x ++ 32 ∷ l) (joined y ys) ∙ sym (append_assoc x (32 ∷ join_with_byte 32 (y ∷ ys)) (32 ∷ []))

last_left : (l : List ℕ) → take (length (l ++ 32 ∷ []) - 1) (l ++ 32 ∷ []) ≡ l
last_left l =
    let n : length (l ++ 32 ∷ []) - 1 ≡ length l = omega (arith, length-append l (32 ∷ [])) in
    ap (λ k. take k (l ++ 32 ∷ [])) n ∙ take-append_seam l (32 ∷ [])

trimmed : (xs : List (List ℕ)) → take (length (spaced xs) - 1) (spaced xs) ≡ join_with_byte 32 xs
trimmed [] = refl
trimmed (x ∷ xs) = ap (λ l. take (length l - 1) l) (joined x xs) ∙ last_left (join_with_byte 32 (x ∷ xs))

-- the same after what was there before, in the form in which the code finds it
pub trimmed_of : (xs : List ℕ) (start : ℕ) (old cur : List ℕ) (ops : List (List ℕ)) (n : ℕ) → cur ≡ old ++ spaced ops
    → start ≡ length old → n ≡ max (length cur - 1) start → xs ≡ take n cur → xs ≡ old ++ join_with_byte 32 ops
trimmed_of xs start old cur ops n is begins count cut =
    cut ∙ (λ i. take (counted i) (is i)) ∙ take-append-add old (spaced ops) (length (spaced ops) - 1)
    ∙ ap (λ l. old ++ l) (trimmed ops) where
      counted : n ≡ length old + (length (spaced ops) - 1)
      counted =
          omega (arith, count, begins, ap (λ l. length l) is, length-append old (spaced ops))

-- what is appended leaves the bytes that were there before
pub begun : (old cur more : List ℕ) → take (length old) cur ≡ old → take (length old) (cur ++ more) ≡ old
begun old cur more is =
    take-append-le (length old) cur more (omega (arith, ap (λ l. length l) is, length-take (length old) cur)) ∙ is
