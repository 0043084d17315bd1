-- Two lists in ascending order with the same members are equal.
use Rattle.std.proofs.Common.{◌≡◌, ◌⊎◌, ⊎_elim, inl, inr, ◌<◌, ◌≤◌, ◌+◌, ℕ, suc, List, [], ◌∷◌, get_or, refl, ap, subst, ◌∙◌, arith}
use Rattle.std.specs.Prelude.{◌↔◌}
use Rattle.std.specs.List.{Contains}
use Rattle.std.specs.List.Sorted.{IsStrictlyIncreasing}
use Rattle.std.proofs.lemmas.List.Elements.{Contains-append_left, Contains-append_right, Contains-append_cases}
use Rattle.std.proofs.lemmas.List.Kept.{AllPairs-from_increasing}
use Rattle.rgo_graphs.proofs.Lists.{no_member, member_one, one_member}
use Rattle.rgo_region_sets.specs.Sets.{IsSet}

here : (x : ℕ) (xs : List ℕ) → Contains (x ∷ xs) x
here x xs = Contains-append_left (x ∷ []) xs x (one_member x)

later : (x : ℕ) (xs : List ℕ) (k : ℕ) → Contains xs k → Contains (x ∷ xs) k
later x xs k h = Contains-append_right (x ∷ []) xs k h

first_or_later : (x : ℕ) (xs : List ℕ) (k : ℕ) → Contains (x ∷ xs) k → (k ≡ x) ⊎ Contains xs k
first_or_later x xs k h = ⊎_elim (λ o. inl (member_one x k o)) (λ l. inr l) (Contains-append_cases (x ∷ []) xs k h)

rest_rises : (x : ℕ) (xs : List ℕ) → IsStrictlyIncreasing (x ∷ xs) → IsStrictlyIncreasing xs
rest_rises x xs rises = λ k within.
    let next : suc k + 1 ≡ suc (k + 1) = omega arith in
    subst (λ n. get_or (x ∷ xs) (suc k) 0 < get_or (x ∷ xs) n 0) next (rises (suc k) (omega (arith, within)))

first_least : (x : ℕ) (xs : List ℕ) (k : ℕ) → IsStrictlyIncreasing (x ∷ xs) → Contains xs k → x < k
first_least x xs k rises h =
    let less = AllPairs-from_increasing (x ∷ xs) rises 0 (suc h.0) k (omega arith) (omega (arith, h.1)) in
    omega (arith, less, h.2)

module _ (x y : ℕ) (xs ys : List ℕ) (up : IsStrictlyIncreasing (x ∷ xs)) (up' : IsStrictlyIncreasing (y ∷ ys))
    (same : (k : ℕ) → Contains (x ∷ xs) k ↔ Contains (y ∷ ys) k) where
  not_below : (x ≤ y) × (y ≤ x)
  not_below = (
    ⊎_elim (λ e. omega (arith, e)) (λ h. omega (arith, first_least x xs y up h))
        (first_or_later x xs y ((same y).1 (here y ys))),
    ⊎_elim (λ e. omega (arith, e)) (λ h. omega (arith, first_least y ys x up' h))
        (first_or_later y ys x ((same x).0 (here x xs))),
  )

  pub same_first : x ≡ y
  same_first = let b = not_below in omega (arith, b.0, b.1)

  pub same_rest : (k : ℕ) → Contains xs k ↔ Contains ys k
  same_rest k = (
    λ h. ⊎_elim
        (λ e. absurd (omega (arith, first_least x xs k up h, e, same_first)))
        (λ l. l)
        (first_or_later y ys k ((same k).0 (later x xs k h))),
    λ h. ⊎_elim
        (λ e. absurd (omega (arith, first_least y ys k up' h, e, same_first)))
        (λ l. l)
        (first_or_later x xs k ((same k).1 (later y ys k h))),
  )

pub same_list : (xs ys : List ℕ) → IsStrictlyIncreasing xs → IsStrictlyIncreasing ys
    → ((k : ℕ) → Contains xs k ↔ Contains ys k) → xs ≡ ys
same_list [] [] up up' same = refl
same_list [] (y ∷ ys) up up' same = absurd (no_member y ((same y).1 (here y ys)))
same_list (x ∷ xs) [] up up' same = absurd (no_member x ((same x).0 (here x xs)))
same_list (x ∷ xs) (y ∷ ys) up up' same =
    ap (λ z. z ∷ xs) (same_first x y xs ys up up' same)
    ∙ ap (λ zs. y ∷ zs) (same_list xs ys (rest_rises x xs up) (rest_rises y ys up') (same_rest x y xs ys up up' same))

-- two sets of the same are one list
pub same_set : (xs ys : List ℕ) (Has : ℕ → Type 0) → IsSet xs Has → IsSet ys Has → xs ≡ ys
same_set xs ys Has a b =
    same_list xs ys a.ascends b.ascends
    (λ k. (λ h. (b.members k).1 ((a.members k).0 h), λ h. (a.members k).1 ((b.members k).0 h)))
