-- Digits after a number make it no smaller, and are read one by one. So the code may stop at the first digit that makes the number too
-- large, while the definition computes the whole value.
use Rattle.std.proofs.Common.{◌≡◌, ℕ, ◌+◌, ◌*◌, ◌<◌, ◌≤◌, Bool, true, false, cond, List, [], ◌∷◌, get_or, drop, length, None, refl, ◌∙◌, arith}
use Rattle.std.specs.Prelude.{fold, filter}
use Rattle.std.specs.Char.{is_digit, digit_value}
use Rattle.std.proofs.Math.Nat.{mul-le-mul_left}
use Rattle.std.proofs.lemmas.Bool.Decides.{nat_tests}
use Rattle.std.proofs.lemmas.List.{at_drop_more}
use Rattle.rgo_lexer.specs.Numbers.{value_after, if_fits}

-- the value after a number, by whether the first byte is a digit
abbrev value_by : ℕ → ℕ → ℕ → List ℕ → Bool → ℕ
value_by base n b l v =
    fold (λ m c. m * base + digit_value c) n
    (cond v (b ∷ filter (λ c. is_digit c base) l) (filter (λ c. is_digit c base) l))

grown : (base n d : ℕ) → 1 ≤ base → n ≤ n * base + d
grown base n d h = omega (arith, mul-le-mul_left n h)

pub value_after-le : (base : ℕ) → 1 ≤ base → (n : ℕ) (l : List ℕ) → n ≤ value_after base n l
value_after-le base h n [] = omega arith
value_after-le base h n (b ∷ l) =
    let ih : n ≤ value_after base n l = value_after-le base h n l in
    let m = n * base + digit_value b in
    let ih' : m ≤ value_after base m l = value_after-le base h m l in
    let g : n ≤ m = grown base n (digit_value b) h in
    elim (is_digit b base) as (λ v. n ≤ value_by base n b l v) [ true ↦ omega arith | false ↦ ih ]

pub value_after-cons : (base n b : ℕ) (l : List ℕ)
    → value_after base n (b ∷ l) ≡ value_after base (value_after base n (b ∷ [])) l
value_after-cons base n b l =
    elim (is_digit b base)
    as (λ v. value_by base n b l v ≡ value_after base (value_by base n b [] v) l)
    [ true ↦ refl | false ↦ refl ]

pub too_large : (m n : ℕ) → None ≡ if_fits m → m ≤ n → None ≡ if_fits n
too_large m n e h = grind (arith, nat_tests)

-- if one byte more makes the number too large, so do all
pub value_after-too_large : (base n : ℕ) (digits : List ℕ) (i total : ℕ) → 1 ≤ base
    → i < length digits → None ≡ if_fits (value_after base n (get_or digits i 0 ∷ []))
    → value_after base n (drop i digits) ≡ total → None ≡ if_fits total
value_after-too_large base n digits i total h lt none e =
    let m = value_after base n (get_or digits i 0 ∷ []) in
    let later = drop (i + 1) digits in
    let rest : value_after base n (drop i digits) ≡ value_after base m later =
    at_drop_more (value_after base n) digits i 0 lt
    ∙ value_after-cons base n (get_or digits i 0) later in
    let le : m ≤ value_after base m later = value_after-le base h m later in
    too_large m total none (omega arith)
