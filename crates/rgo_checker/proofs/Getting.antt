-- Items of joined lists, by number.
use Rattle.std.proofs.Common.{◌≡◌, ℕ, zero, suc, ◌+◌, ◌<◌, ◌≤◌, List, [], ◌∷◌, ◌++◌, length, Some, slice_get, ap, sym, ◌∙◌, refl, arith, ◌⊎◌, inl, inr, length-append}
use Rattle.std.proofs.lemmas.Bool.{cases_lt}
use Rattle.std.proofs.lemmas.Option.{same_Some, none-some}
use Rattle.rgo_code.specs.declared.rules.Line.{Line}
use Rattle.rgo_checker.specs.Lines.{first_lines}

pub get_left : {X : Type 0} (xs ys : List X) (i : ℕ) (x : X) → slice_get xs i ≡ Some x → slice_get (xs ++ ys) i ≡ Some x
get_left [] ys i x e = cc
get_left (y ∷ xs) ys zero x e = e
get_left (y ∷ xs) ys (suc i) x e = get_left xs ys i x e

pub get_right : {X : Type 0} (xs ys : List X) (i j : ℕ) (x : X) → slice_get ys i ≡ Some x → j ≡ length xs + i
    → slice_get (xs ++ ys) j ≡ Some x
get_right [] ys i j x e q = ap (slice_get ys) (omega (arith, q)) ∙ e
get_right (y ∷ xs) ys i zero x e q = absurd (omega (arith, q))
get_right (y ∷ xs) ys i (suc j) x e q = get_right xs ys i j x e (omega (arith, q))

-- what is below the length is in the list
pub there : {X : Type 0} (xs : List X) (i : ℕ) → i < length xs → (x : X) × (slice_get xs i ≡ Some x)
there [] i h = absurd (omega (arith, h))
there (y ∷ ys) zero h = (y, refl)
there (y ∷ ys) (suc i) h = there ys i (omega (arith, h))

-- it is in the first list, or in the second
abbrev pub IsIn : {X : Type 0} → (xs ys : List X) → (i : ℕ) → (x : X) → Type 0
IsIn xs ys i x =
    (slice_get xs i ≡ Some x) ⊎ ((j : ℕ) × (i ≡ length xs + j) × (slice_get ys j ≡ Some x))

pub get_split : {X : Type 0} (xs ys : List X) (i : ℕ) (x : X) → slice_get (xs ++ ys) i ≡ Some x → IsIn xs ys i x
get_split [] ys i x e = inr (i, omega arith, e)
get_split (y ∷ xs) ys zero x e = inl e
get_split (y ∷ xs) ys (suc i) x e = go (get_split xs ys i x e)
  where
    go : IsIn xs ys i x → IsIn (y ∷ xs) ys (suc i) x
    go (inl q) = inl q
    go (inr (j, h, q)) = inr (j, omega (arith, h), q)

pub get_one : {X : Type 0} (y x : X) (i : ℕ) → slice_get (y ∷ []) i ≡ Some x → (i ≡ 0) × (y ≡ x)
get_one y x zero e = (refl, same_Some y x e)
get_one y x (suc i) e = absurd (none-some x e)

-- ---- lines of numbers

pub first_more : (at : ℕ → Line) (n : ℕ) → first_lines at (n + 1) ≡ first_lines at n ++ at n ∷ []
first_more at n = ap (first_lines at) (by n)
  where
    by : (k : ℕ) → k + 1 ≡ suc k
    by k = omega arith

pub first_length : (at : ℕ → Line) (n : ℕ) → length (first_lines at n) ≡ n
first_length at zero = refl
first_length at (suc n) = omega (arith, length-append (first_lines at n) (at n ∷ []), first_length at n)

pub first_get : (at : ℕ → Line) (n i : ℕ) → i < n → slice_get (first_lines at n) i ≡ Some (at i)
first_get at zero i h = absurd (omega (arith, h))
first_get at (suc n) i h = go (cases_lt i n) (first_get at n i)
  where
    go : (i < n) ⊎ (n ≤ i) → (i < n → slice_get (first_lines at n) i ≡ Some (at i))
        → slice_get (first_lines at (suc n)) i ≡ Some (at i)
    go (inl l) next = get_left (first_lines at n) (at n ∷ []) i (at i) (next l)
    go (inr g) next =
        let e : i ≡ n = omega (arith, h, g) in
        get_right (first_lines at n) (at n ∷ []) 0 i (at i) (ap (λ k. Some (at k)) (sym e))
        (omega (arith, e, first_length at n))

pub first_inv : (at : ℕ → Line) (n i : ℕ) (l : Line) → slice_get (first_lines at n) i ≡ Some l → (i < n) × (at i ≡ l)
first_inv at zero i l e = absurd (none-some l e)
first_inv at (suc n) i l e = go (get_split (first_lines at n) (at n ∷ []) i l e) (first_inv at n i l)
  where
    go : IsIn (first_lines at n) (at n ∷ []) i l
        → (slice_get (first_lines at n) i ≡ Some l → (i < n) × (at i ≡ l)) → (i < suc n) × (at i ≡ l)
    go (inl q) next = let x = next q in (omega (arith, x.0), x.1)
    go (inr (j, h, q)) next =
        let o = get_one (at n) l j q in
        let e : i ≡ n = omega (arith, h, o.0, first_length at n) in
        (omega (arith, e), ap at e ∙ o.1)
