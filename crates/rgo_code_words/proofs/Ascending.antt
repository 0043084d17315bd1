-- Names of regions ascend.
use Rattle.std.proofs.Common.{◌≡◌, ℕ, zero, suc, ◌+◌, ◌-◌, ◌<◌, ◌≤◌, ◌&&◌, nat_lt, true, false, List, [], ◌∷◌, length, length-drop, drop, get_or, slice_index, refl, sym, ap, subst, ◌∙◌, arith}
use Rattle.std.specs.List.Sorted.{IsStrictlyIncreasing}
use Rattle.std.proofs.lemmas.Bool.Decides.{Decides-ltb, nat_tests}
use Rattle.std.proofs.lemmas.List.{at_drop_more}
use Rattle.rgo_code_words.specs.Readers.{is_below_first, is_ascending}
use Rattle.rgo_code_words.proofs.Lacks.{both_true}

next : (k : ℕ) (names : List ℕ) (j : ℕ) → slice_index (k ∷ names) (suc j + 1) ≡ slice_index names (j + 1)
next k names j =
    let e : suc j + 1 ≡ suc (j + 1) = omega arith in
    ap (λ i. slice_index (k ∷ names) i) e

above_is : (k : ℕ) (names : List ℕ) → is_below_first k names ≡ true → IsStrictlyIncreasing names → IsStrictlyIncreasing (k ∷ names)
above_is k [] e h j l = absurd (omega (arith, l))
above_is k (n ∷ names) e h zero l = (Decides-ltb k n).0 e
above_is k (n ∷ names) e h (suc j) l =
    subst (λ x. slice_index (n ∷ names) j < x) (sym (next k (n ∷ names) j)) (h j (omega (arith, l)))

pub ascending_is : (names : List ℕ) → is_ascending names ≡ true → IsStrictlyIncreasing names
ascending_is [] e = λ j l. absurd (omega (arith, l))
ascending_is (k ∷ names) e =
    let p = both_true (is_below_first k names) (is_ascending names) e in
    above_is k names p.0 (ascending_is names p.1)

above_back : (k : ℕ) (names : List ℕ) → IsStrictlyIncreasing (k ∷ names) → is_below_first k names ≡ true
above_back k [] h = refl
above_back k (n ∷ names) h = (Decides-ltb k n).1 (h 0 (omega arith))

pub ascending_back : (names : List ℕ) → IsStrictlyIncreasing names → is_ascending names ≡ true
ascending_back [] h = refl
ascending_back (k ∷ names) h =
    ap (λ t. t && is_ascending names) (above_back k names h)
    ∙ ascending_back names
    (λ j l. subst (λ x. slice_index names j < x) (next k names j) (h (suc j) (omega (arith, l))))

-- ---- one number after the other

module _ (names : List ℕ) (i : ℕ) (some : 1 ≤ i) where
  here : is_ascending (drop (i - 1) names) ≡ is_ascending names → i < length names
      → is_ascending names ≡ nat_lt (get_or names (i - 1) 0) (get_or names i 0) && is_ascending (drop (i + 1 - 1) names)
  here e l =
      let last : i - 1 + 1 ≡ i = omega (arith, some) in
      let next : i + 1 - 1 ≡ i = omega arith in
      sym e ∙ at_drop_more is_ascending names (i - 1) 0 (omega (arith, l))
      ∙ ap (λ k. is_ascending (get_or names (i - 1) 0 ∷ drop k names)) last
      ∙ at_drop_more (λ t. is_ascending (get_or names (i - 1) 0 ∷ t)) names i 0 l
      ∙ ap (λ t. nat_lt (get_or names (i - 1) 0) (get_or names i 0) && t) (sym (at_drop_more is_ascending names i 0 l))
      ∙ ap (λ k. nat_lt (get_or names (i - 1) 0) (get_or names i 0) && is_ascending (drop k names)) (sym next)

  pub ascends : is_ascending (drop (i - 1) names) ≡ is_ascending names → i < length names
      → get_or names (i - 1) 0 < get_or names i 0 → is_ascending (drop (i + 1 - 1) names) ≡ is_ascending names
  ascends e l h =
      sym (here e l ∙ ap (λ t. t && is_ascending (drop (i + 1 - 1) names)) ((Decides-ltb (get_or names (i - 1) 0) (get_or names i 0)).1 h))

  pub falls : is_ascending (drop (i - 1) names) ≡ is_ascending names → i < length names
      → get_or names i 0 ≤ get_or names (i - 1) 0 → false ≡ is_ascending names
  falls e l h =
      let less : nat_lt (get_or names (i - 1) 0) (get_or names i 0) ≡ false = grind (arith, nat_tests) in
      sym (here e l ∙ ap (λ t. t && is_ascending (drop (i + 1 - 1) names)) less)

  pub all_ascend : is_ascending (drop (i - 1) names) ≡ is_ascending names → length names ≤ i → true ≡ is_ascending names
  all_ascend e l = short (drop (i - 1) names) (omega (arith, l, length-drop (i - 1) names)) ∙ e
    where
      short : (xs : List ℕ) → length xs ≤ 1 → true ≡ is_ascending xs
      short [] h = refl
      short (x ∷ []) h = refl
      short (x ∷ y ∷ xs) h = absurd (omega (arith, h))
