-- Positions that have their tasks, when one more is stored: a store at one position leaves the others.
use Rattle.std.proofs.Common.{◌≡◌, ◌≢◌, ℕ, zero, suc, ◌+◌, ◌⊎◌, inl, inr, Option, Some, None, List, [], ◌∷◌, ◌++◌, length, set, drop, reverse, get_or, ap, refl, sym, subst, ◌∙◌, ⊎_elim, arith}
use Rattle.std.specs.List.{slice_get}
use Rattle.std.proofs.lemmas.List.{reverse-append}
use Rattle.std.proofs.lemmas.Option.{get_or_from_slice_get}
use Rattle.rgo_sched.specs.Accounts.{total_weight}
use Rattle.rgo_sched.specs.Positions.{Filled, only}
use Rattle.rgo_sched.proofs.AccountLemmas.{total-append}

same_or : (k x : ℕ) → (k ≡ x) ⊎ (only k x ≡ 0)
same_or zero zero = inl refl
same_or zero (suc x) = inr refl
same_or (suc k) zero = inr refl
same_or (suc k) (suc x) = ⊎_elim (λ e. inl (ap suc e)) (λ e. inr e) (same_or k x)

pub filled_next : (k x y : ℕ) (ts : List ℕ) (results next : List (Option ℕ)) {n : ℕ} {m : ℕ} → y ≡ x → m ≡ total_weight (only k) (ts ++ x ∷ []) → Filled next y → (Filled results k → Filled next k) → Filled results k ⊎ (total_weight (only k) ts ≡ n) → Filled next k ⊎ (m ≡ n)
filled_next k x y ts results next e t here kept so_far = ⊎_elim
    (λ f. inl (kept f))
    (λ h. ⊎_elim (λ s. inl (subst (Filled next) (e ∙ sym s) here)) (λ z. inr (let a = total-append (only k) ts (x ∷ []) in omega arith)) (same_or k x))
    so_far

pub filled_from : (k x : ℕ) (ts us : List ℕ) (results next : List (Option ℕ)) {n : ℕ} → us ≡ ts ++ x ∷ [] → Filled next x → (Filled results k → Filled next k) → Filled results k ⊎ (total_weight (only k) us ≡ n) → Filled next k ⊎ (total_weight (only k) ts ≡ n)
filled_from k x ts us results next t here kept so_far = ⊎_elim
    (λ f. inl (kept f))
    (λ h. ⊎_elim (λ s. inl (subst (Filled next) (sym s) here)) (λ z. inr (let a = total-append (only k) ts (x ∷ []) in let b : total_weight (only k) us ≡ total_weight (only k) (ts ++ x ∷ []) = ap (total_weight (only k)) t in omega arith)) (same_or k x))
    so_far

pub slice_get_other : {A : Type 0} (l : List A) (i j : ℕ) (a : A) → j ≢ i → slice_get (set l i a) j ≡ slice_get l j
slice_get_other [] i j a n = refl
slice_get_other (x ∷ xs) zero zero a n = absurd (n refl)
slice_get_other (x ∷ xs) zero (suc j) a n = refl
slice_get_other (x ∷ xs) (suc i) zero a n = refl
slice_get_other (x ∷ xs) (suc i) (suc j) a n = slice_get_other xs i j a (λ e. n (ap suc e))

pub filled_done : (results : List (Option ℕ)) (k d : ℕ) (r : Option ℕ) → Filled results k → Some d ≡ get_or results k r → d ≡ k
filled_done results k d r f e = ap (λ (o : Option ℕ). elim o [ None ↦ 0 | Some v ↦ v ]) (e ∙ get_or_from_slice_get results k (Some k) r f)

drop_head : {A : Type 0} (all : List A) (n : ℕ) (x : A) (ys : List A) → drop n all ≡ x ∷ ys → (slice_get all n ≡ Some x) × (ys ≡ drop (suc n) all)
drop_head [] zero x ys e = let h : 0 ≡ suc (length ys) = ap length e in absurd (omega arith)
drop_head [] (suc n) x ys e = let h : 0 ≡ suc (length ys) = ap length e in absurd (omega arith)
drop_head {A} (a ∷ all) zero x ys e = (ap head e, sym (ap tail e))
  where
    head : List A → Option A
    head [] = None
    head (z ∷ zs) = Some z

    tail : List A → List A
    tail [] = []
    tail (z ∷ zs) = zs
drop_head (a ∷ all) (suc n) x ys e = drop_head all n x ys e

pub deal_next : {A : Type 0} (all rest news : List A) (n : ℕ) (x : A) → reverse rest ≡ drop n all → rest ≡ news ++ x ∷ [] → (slice_get all n ≡ Some x) × (reverse news ≡ drop (n + 1) all)
deal_next all rest news n x e e' =
    let h = drop_head all n x (reverse news) (sym e ∙ ap reverse e' ∙ reverse-append news (x ∷ [])) in
    let k : suc n ≡ n + 1 = omega arith in (h.0, h.1 ∙ ap (λ j. drop j all) k)
