-- A fact of each item of a list, with its number, as the list is made longer.
use Rattle.std.proofs.Common.{◌≡◌, ⊎_elim, ℕ, List, [], ◌∷◌, ◌++◌, length, Some, slice_get, sym, ap, ◌∙◌, subst, arith}
use Rattle.std.proofs.lemmas.Bool.{cases_lt}
use Rattle.std.proofs.lemmas.List.{length_push}
use Rattle.std.proofs.lemmas.Option.{same_Some, slice_get_within}
use Rattle.rgo_summaries.proofs.Outer.{get_last, get_left}

pub each_longer : {A : Type 0} (P : ℕ → A → Type 0) (xs : List A) (x : A) (n : ℕ) → length xs ≡ n
    → ((k : ℕ) (y : A) → slice_get xs k ≡ Some y → P k y) → P n x
    → (k : ℕ) (y : A) → slice_get (xs ++ x ∷ []) k ≡ Some y → P k y
each_longer P xs x n long before here k y e = ⊎_elim
    (λ less. before k y (sym (get_left xs (x ∷ []) k less) ∙ e))
    (λ more.
    let last : k ≡ length xs =
    omega (arith, more, slice_get_within (xs ++ x ∷ []) k y e, length_push xs x) in
    let same : x ≡ y = same_Some x y (sym (get_last xs x) ∙ ap (slice_get (xs ++ x ∷ [])) (sym last) ∙ e) in
    let place : n ≡ k = omega (arith, long, last) in
    subst (P k) same (subst (λ m. P m x) place here))
    (cases_lt k (length xs))
