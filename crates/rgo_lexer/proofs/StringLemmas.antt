-- The items of a string, one by one.
use Rattle.std.proofs.Common.{◌≡◌, ℕ, zero, suc, ◌+◌, ◌≤◌, Bool, true, false, cond, List, [], ◌∷◌, length, take, drop, refl, ap, ◌∙◌, arith, length-append}
use Rattle.std.specs.Prelude.{◌==◌, is_some}
use Rattle.std.specs.List.{concat}
use Rattle.std.proofs.lemmas.List.{length-take-le, drop-drop}
use Rattle.rgo_lexer.specs.Strings.{items, escape_items, items_len, is_plain_byte, escaped}

pub items_len-none : (text : List ℕ) → items text ≡ [] → items_len text ≡ 0
unfolding items_len
items_len-none text e = ap (λ l. length (concat l)) e

pub items_len-more : (text : List ℕ) (at n : ℕ) → n ≤ length (drop at text)
    → items (drop at text) ≡ take n (drop at text) ∷ items (drop n (drop at text))
    → items_len (drop at text) ≡ n + items_len (drop (at + n) text)
unfolding items_len
items_len-more text at n le e =
    ap (λ l. length (concat l)) e
    ∙ length-append (take n (drop at text)) (concat (items (drop n (drop at text))))
    ∙ ap (λ m. m + length (concat (items (drop n (drop at text)))))
    (length-take-le n (drop at text) le)
    ∙ ap (λ l. n + length (concat (items l))) (drop-drop n at text)

-- the items of a text, by whether its first byte is plain and whether it is a backslash
abbrev items_by : Bool → Bool → ℕ → List ℕ → List (List ℕ)
items_by plain back b text = cond plain ((b ∷ []) ∷ items text) (cond back (escape_items text) [])

-- the items after a backslash, by whether an escape's letter follows
abbrev escape_by : Bool → ℕ → List ℕ → List (List ℕ)
escape_by known letter text = cond known ((92 ∷ letter ∷ []) ∷ items text) []

fits_by : (plain back : Bool) (b : ℕ) (text : List ℕ) → length (concat (items text)) ≤ length text
    → length (concat (escape_items text)) ≤ length text + 1
    → length (concat (items_by plain back b text)) ≤ length (b ∷ text)
fits_by true back b text h i = omega arith
fits_by false true b text h i = omega arith
fits_by false false b text h i = omega arith

escape_fits_by : (known : Bool) (letter : ℕ) (text : List ℕ)
    → length (concat (items text)) ≤ length text
    → length (concat (escape_by known letter text)) ≤ length (letter ∷ text) + 1
escape_fits_by true letter text h = omega arith
escape_fits_by false letter text h = omega arith

mutual
  fits : (text : List ℕ) → length (concat (items text)) ≤ length text
  fits [] = omega arith
  fits (b ∷ text) = fits_by (is_plain_byte b) (b == 92) b text (fits text) (escape_fits text)

  escape_fits : (text : List ℕ) → length (concat (escape_items text)) ≤ length text + 1
  escape_fits [] = omega arith
  escape_fits (letter ∷ text) = escape_fits_by (is_some (escaped letter)) letter text (fits text)

pub items_len-le : (text : List ℕ) → items_len text ≤ length text
unfolding items_len
items_len-le text = fits text

kept_none : (letter : ℕ) (text : List ℕ) (known : Bool)
    → length (concat (escape_by known letter text)) ≤ 0 → [] ≡ escape_by known letter text
kept_none letter text true h = absurd (omega (arith, h))
kept_none letter text false h = refl

no_escape : (text : List ℕ) → length (concat (escape_items text)) ≤ 0 → [] ≡ escape_items text
no_escape [] h = refl
no_escape (letter ∷ text) h = kept_none letter text (is_some (escaped letter)) h

none_by : (plain back : Bool) (b : ℕ) (text : List ℕ)
    → length (concat (items_by plain back b text)) ≤ 0 → [] ≡ items_by plain back b text
none_by true back b text h = absurd (omega (arith, h))
none_by false true b text h = no_escape text h
none_by false false b text h = refl

kept_by : (plain back : Bool) (b : ℕ) (text : List ℕ) (n : ℕ)
    → length (concat (items_by plain back b text)) ≤ suc n
    → (length (concat (items text)) ≤ n → items (take n text) ≡ items text)
    → (length (concat (escape_items text)) ≤ n + 1 → escape_items (take n text) ≡ escape_items text)
    → items_by plain back b (take n text) ≡ items_by plain back b text
kept_by true back b text n h f g = ap (λ l. (b ∷ []) ∷ l) (f (omega (arith, h)))
kept_by false true b text n h f g = g (omega (arith, h))
kept_by false false b text n h f g = refl

escape_kept_by : (known : Bool) (letter : ℕ) (text : List ℕ) (n : ℕ)
    → length (concat (escape_by known letter text)) ≤ suc n + 1
    → (length (concat (items text)) ≤ n → items (take n text) ≡ items text)
    → escape_by known letter (take n text) ≡ escape_by known letter text
escape_kept_by true letter text n h f = ap (λ l. (92 ∷ letter ∷ []) ∷ l) (f (omega (arith, h)))
escape_kept_by false letter text n h f = refl

one_more : (letter : ℕ) (text : List ℕ) (known : Bool)
    → length (concat (escape_by known letter text)) ≤ 1 → [] ≡ escape_by known letter text
one_more letter text true h = absurd (omega (arith, h))
one_more letter text false h = refl

mutual
  kept : (text : List ℕ) (n : ℕ) → length (concat (items text)) ≤ n
      → items (take n text) ≡ items text
  kept [] zero h = refl
  kept [] (suc n) h = refl
  kept (b ∷ text) zero h = none_by (is_plain_byte b) (b == 92) b text h
  kept (b ∷ text) (suc n) h =
      kept_by (is_plain_byte b) (b == 92) b text n h (kept text n) (escape_kept text n)

  escape_kept : (text : List ℕ) (n : ℕ) → length (concat (escape_items text)) ≤ n + 1
      → escape_items (take n text) ≡ escape_items text
  escape_kept [] zero h = refl
  escape_kept [] (suc n) h = refl
  escape_kept (letter ∷ text) zero h = one_more letter text (is_some (escaped letter)) h
  escape_kept (letter ∷ text) (suc n) h =
      escape_kept_by (is_some (escaped letter)) letter text n h (kept text n)

-- a front that is at least as long has the same items at its front
pub items_len-take : (text : List ℕ) (n : ℕ) → items_len text ≤ n
    → items_len (take n text) ≡ items_len text
unfolding items_len
items_len-take text n h = ap (λ l. length (concat l)) (kept text n h)
