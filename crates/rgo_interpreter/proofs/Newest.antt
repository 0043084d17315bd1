-- A list of which contracts see the last item first.
use Rattle.std.proofs.Common.{◌≡◌, ◌+◌, ℕ, List, [], ◌∷◌, ◌++◌, length, drop, reverse, get_or}
use Rattle.std.proofs.Common.{Option, Some, None, slice_set, ap, sym, ◌∙◌, arith, append-nil}
use Rattle.std.specs.Option.{option_to_list, MatchOption}
use Rattle.std.proofs.lemmas.List.{reverse-append, reverse-reverse, length-reverse, set_at, get_or_at}

module _ {A : Type 0} where
  pub pushed : (l : List A) (x : A) → reverse (l ++ x ∷ []) ≡ x ∷ reverse l
  pushed l x = reverse-append l (x ∷ [])

  -- ---- by the list the other way round

  last_of : (x : A) (r : List A) → reverse (x ∷ r) ≡ reverse r ++ x ∷ []
  last_of x r = reverse-append (x ∷ []) r

  last_two : (x z : A) (r : List A) → reverse (x ∷ z ∷ r) ≡ reverse r ++ z ∷ x ∷ []
  last_two x z r = reverse-append (x ∷ z ∷ []) r

  set_last : (r : List A) (x : A) (n : ℕ) → n + 1 ≡ length r → reverse (slice_set (reverse r) n x) ≡ x ∷ drop 1 r
  set_last [] x n e = absurd (omega (arith, e))
  set_last (z ∷ r) x n e =
      ap (λ l. reverse (slice_set l n x)) (last_of z r)
      ∙ ap reverse (set_at (reverse r) z [] x n (omega (arith, e, length-reverse r)))
      ∙ pushed (reverse r) x
      ∙ ap (λ l. x ∷ l) (reverse-reverse r)

  get_last : (r : List A) (x : A) (n : ℕ) → n + 1 ≡ length r → x ≡ get_or (reverse r) n x → r ≡ x ∷ drop 1 r
  get_last [] x n e is = absurd (omega (arith, e))
  get_last (z ∷ r) x n e is =
      ap (λ y. y ∷ r)
      (sym (is ∙ ap (λ l. get_or l n x) (last_of z r)
      ∙ get_or_at (reverse r) z [] x n (omega (arith, e, length-reverse r))))

  set_below : (r : List A) (y : A) (n : ℕ) → n + 2 ≡ length r
      → drop 1 (reverse (slice_set (reverse r) n y)) ≡ y ∷ drop 2 r
  set_below [] y n e = absurd (omega (arith, e))
  set_below (x ∷ []) y n e = absurd (omega (arith, e))
  set_below (x ∷ z ∷ r) y n e =
      ap (λ l. drop 1 (reverse (slice_set l n y))) (last_two x z r)
      ∙ ap (λ l. drop 1 (reverse l)) (set_at (reverse r) z (x ∷ []) y n (omega (arith, e, length-reverse r)))
      ∙ ap (drop 1) (reverse-append (reverse r) (y ∷ x ∷ []))
      ∙ ap (λ l. y ∷ l) (reverse-reverse r)

  get_below : (r : List A) (z : A) (n : ℕ) → n + 2 ≡ length r → z ≡ get_or (reverse r) n z
      → drop 1 r ≡ z ∷ drop 2 r
  get_below [] z n e is = absurd (omega (arith, e))
  get_below (x ∷ []) z n e is = absurd (omega (arith, e))
  get_below (x ∷ y ∷ r) z n e is =
      ap (λ w. w ∷ r)
      (sym (is ∙ ap (λ l. get_or l n z) (last_two x y r)
      ∙ get_or_at (reverse r) y (x ∷ []) z n (omega (arith, e, length-reverse r))))

  -- ---- by the list itself

  -- what the last item is
  pub newest : (l : List A) (x : A) (n : ℕ) → n + 1 ≡ length l → x ≡ get_or l n x → reverse l ≡ x ∷ drop 1 (reverse l)
  newest l x n e is =
      get_last (reverse l) x n (omega (arith, e, length-reverse l)) (is
      ∙ ap (λ k. get_or k n x) (sym (reverse-reverse l)))

  -- another last item
  pub renewed : (l : List A) (x : A) (n : ℕ) → n + 1 ≡ length l → reverse (slice_set l n x) ≡ x ∷ drop 1 (reverse l)
  renewed l x n e =
      ap (λ k. reverse (slice_set k n x)) (sym (reverse-reverse l))
      ∙ set_last (reverse l) x n (omega (arith, e, length-reverse l))

  -- what the last but one is
  pub below : (l : List A) (z : A) (n : ℕ) → n + 2 ≡ length l → z ≡ get_or l n z
      → drop 1 (reverse l) ≡ z ∷ drop 2 (reverse l)
  below l z n e is =
      get_below (reverse l) z n (omega (arith, e, length-reverse l)) (is
      ∙ ap (λ k. get_or k n z) (sym (reverse-reverse l)))

  -- another last but one
  pub renewed_below : (l : List A) (y : A) (n : ℕ) → n + 2 ≡ length l
      → drop 1 (reverse (slice_set l n y)) ≡ y ∷ drop 2 (reverse l)
  renewed_below l y n e =
      ap (λ k. drop 1 (reverse (slice_set k n y))) (sym (reverse-reverse l))
      ∙ set_below (reverse l) y n (omega (arith, e, length-reverse l))

  -- without the last item
  pub popped : (l m : List A) (o : Option A) (k j : ℕ) → k ≡ length l → l ≡ m ++ option_to_list o
      → MatchOption o ((k ≡ 0) × (j ≡ 0)) (λ _. j + 1 ≡ k) → reverse m ≡ drop 1 (reverse l)
  popped l m None k j len e cases = both_empty l m (e ∙ append-nil m) (sym len ∙ cases.0) where
    both_empty : (l m : List A) → l ≡ m → length l ≡ 0 → reverse m ≡ drop 1 (reverse l)
    both_empty [] m same empty = ap reverse (sym same)
    both_empty (x ∷ l) m same empty = absurd (omega (arith, empty))
  popped l m (Some x) k j len e cases = sym (ap (λ k. drop 1 (reverse k)) e ∙ ap (drop 1) (pushed m x))
