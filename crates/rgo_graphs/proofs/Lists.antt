-- Membership.
use Rattle.std.proofs.Common.{◌≡◌, ◌⊎◌, ⊎_elim, ℕ, ◌<◌, ◌+◌, List, [], ◌∷◌, length, take, get_or, sym, subst, arith}
use Rattle.std.specs.List.{Contains}
use Rattle.std.proofs.lemmas.List.{take_more}
use Rattle.std.proofs.lemmas.List.Elements.{Contains-push, Contains-push_cases, Contains-append_left}

pub no_member : {X : Type 0} (x : X) → Contains [] x → ⊥
no_member x h = omega (arith, h.1)

pub member_one : {X : Type 0} (x y : X) → Contains (x ∷ []) y → y ≡ x
member_one x y h = ⊎_elim (λ n. absurd (no_member y n)) (λ e. sym e) (Contains-push_cases [] x y h)

pub one_member : {X : Type 0} (x : X) → Contains (x ∷ []) x
one_member x = Contains-push [] x

pub take_cases : {X : Type 0} (xs : List X) (i : ℕ) (d x : X) → i < length xs → Contains (take (i + 1) xs) x
    → Contains (take i xs) x ⊎ (get_or xs i d ≡ x)
take_cases {X = X} xs i d x l h = Contains-push_cases (take i xs) (get_or xs i d) x
    (subst (λ (ys : List X). Contains ys x) (take_more xs i d l) h)

pub take_more_left : {X : Type 0} (xs : List X) (i : ℕ) (d x : X) → i < length xs → Contains (take i xs) x
    → Contains (take (i + 1) xs) x
take_more_left {X = X} xs i d x l h = subst (λ (ys : List X). Contains ys x) (sym (take_more xs i d l))
    (Contains-append_left (take i xs) (get_or xs i d ∷ []) x h)

pub take_more_here : {X : Type 0} (xs : List X) (i : ℕ) (d : X) → i < length xs
    → Contains (take (i + 1) xs) (get_or xs i d)
take_more_here {X = X} xs i d l = subst (λ (ys : List X). Contains ys (get_or xs i d))
    (sym (take_more xs i d l)) (Contains-push (take i xs) (get_or xs i d))
