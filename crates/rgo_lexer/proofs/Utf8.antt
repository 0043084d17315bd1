-- Where a text that is not UTF-8 stops being it: at a byte of the text, and not at its end, so the refusal has a place.
use Rattle.std.proofs.Common.{◌≡◌, ℕ, zero, suc, ◌<◌, ◌≤◌, ◌⊎◌, inl, inr, Bool, true, false, cond, List, [], ◌∷◌, length, take, refl, sym, ap, ◌∙◌, arith}
use Rattle.std.specs.Str.{IsUtf8, is_utf8}
use Rattle.std.specs.Str.Lossy.{utf8_valid_len, valid_len_up_to}
use Rattle.std.proofs.lemmas.Bool.{cases_Bool, false_from_ne_true, false≢true}
use Rattle.std.proofs.lemmas.List.{take_all}
use Rattle.std.proofs.lemmas.Str.{IsUtf8-from_is_utf8, is_utf8-from_IsUtf8}

pub cases_utf8 : (text : List ℕ) → IsUtf8 text ⊎ (¬ (IsUtf8 text))
cases_utf8 text =
    elim (cases_Bool (is_utf8 text)) [
      | inl e ↦ inl (IsUtf8-from_is_utf8 text e)
      | inr e ↦ inr (λ u. false≢true (sym e ∙ is_utf8-from_IsUtf8 text u))
    ]

up_to : (text : List ℕ) (n : ℕ) → valid_len_up_to text n ≤ n
up_to text zero = omega arith
up_to text (suc n) = by_test (is_utf8 (take (suc n) text)) (up_to text n)
  where
    by_test : (v : Bool) → valid_len_up_to text n ≤ n
        → cond v (suc n) (valid_len_up_to text n) ≤ suc n
    by_test true h = omega arith
    by_test false h = omega arith

pub utf8_stops : (text : List ℕ) → ¬ (IsUtf8 text) → utf8_valid_len text < length text
unfolding utf8_valid_len
utf8_stops [] no' = absurd (no' ([], (refl, refl)))
utf8_stops (b ∷ text) no' =
    let l = b ∷ text in
    let n = length text in
    let whole : is_utf8 (take (suc n) l) ≡ false =
    ap is_utf8 (take_all (suc n) l (omega arith))
    ∙ false_from_ne_true (is_utf8 l) (λ e. no' (IsUtf8-from_is_utf8 l e)) in
    let below : valid_len_up_to l n ≤ n = up_to l n in
    let e : valid_len_up_to l (suc n) ≡ valid_len_up_to l n =
    ap (λ v. cond v (suc n) (valid_len_up_to l n)) whole in
    omega arith
