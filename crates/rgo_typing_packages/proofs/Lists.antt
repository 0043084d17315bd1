-- A list at an index: the item there, and the rest after it.
use Rattle.std.proofs.Common.{◌≡◌, ℕ, zero, suc, ◌+◌, ◌<◌, List, [], ◌∷◌, map, length, drop, get_or, ap, sym, arith, add-one}

opened_suc : {A : Type 0} (l : List A) (i : ℕ) (a : A) → i < length l → a ≡ get_or l i a → drop i l ≡ a ∷ drop (suc i) l
opened_suc [] i a h p = absurd (omega arith)
opened_suc (b ∷ l) zero a h p = ap (λ x. x ∷ l) (sym p)
opened_suc (b ∷ l) (suc i) a h p = opened_suc l i a (omega arith) p

pub opened : {A : Type 0} (l : List A) (i : ℕ) (a : A) → a ≡ get_or l i a → i < length l → drop i l ≡ a ∷ drop (i + 1) l
opened l i a p h = rw add-one (opened_suc l i a h p)

pub opened_map : {A B : Type 0} (f : A → B) (l : List A) (i : ℕ) (a : A) → a ≡ get_or l i a → i < length l
    → map f (drop i l) ≡ f a ∷ map f (drop (i + 1) l)
opened_map f l i a p h = ap (map f) (opened l i a p h)
