-- Lists of numbers and types: what is at an index.
use Rattle.std.proofs.Common.{◌≡◌, ◌<◌, ◌≤◌, ℕ, zero, suc, List, [], ◌∷◌, length, map, take, slice_get, Some, None}
use Rattle.std.proofs.Common.{refl, ap, sym, ◌∙◌, subst, arith}
use Rattle.std.specs.List.{AllByRecursion}
use Rattle.std.proofs.lemmas.Option.{slice_get_within}

pub some_is : {A : Type 0} (a b : A) → Some a ≡ Some b → a ≡ b
some_is a b e = cc

pub none_is : {A : Type 0} (a : A) → None ≡ Some a → ⊥
none_is a e = cc

pub head_same : {A : Type 0} (x y : A) (xs ys : List A) → y ∷ ys ≡ x ∷ xs → y ≡ x
head_same x y xs ys e = cc

pub tail_same : {A : Type 0} (x y : A) (xs ys : List A) → y ∷ ys ≡ x ∷ xs → ys ≡ xs
tail_same x y xs ys e = cc

pub no_items : {A : Type 0} (x : A) (xs : List A) → x ∷ xs ≡ [] → ⊥
no_items x xs e = cc

pub mapped_at : {A B : Type 0} (f : A → B) (l : List A) (k : ℕ) (a : A) → slice_get l k ≡ Some a
    → slice_get (map f l) k ≡ Some (f a)
mapped_at f [] k a h = absurd (none_is a h)
mapped_at f (b ∷ l) zero a h = ap (λ x. Some (f x)) (some_is b a h)
mapped_at f (b ∷ l) (suc k) a h = mapped_at f l k a h

-- the item whose image is at index k
pub record Source {A B : Type 0} (f : A → B) (l : List A) (k : ℕ) (b : B) : Type 0 where
  pub item : A
  pub at : slice_get l k ≡ Some item
  pub is : f item ≡ b

pub unmapped_at : {A B : Type 0} (f : A → B) (l : List A) (k : ℕ) (b : B) → slice_get (map f l) k ≡ Some b
    → Source f l k b
unmapped_at f [] k b h = absurd (none_is b h)
unmapped_at f (a ∷ l) zero b h = record { item = a; at = refl; is = some_is (f a) b h }
unmapped_at f (a ∷ l) (suc k) b h =
    let rest = unmapped_at f l k b h in record { item = rest.item; at = rest.at; is = rest.is }

pub mapped_within : {A B : Type 0} (f : A → B) (l : List A) (k : ℕ) (b : B) → slice_get (map f l) k ≡ Some b
    → k < length l
mapped_within f l k b h = let s = unmapped_at f l k b h in slice_get_within l k s.item s.at

pub mapped_length : {A B : Type 0} (f : A → B) (l : List A) → length (map f l) ≡ length l
mapped_length f [] = refl
mapped_length f (a ∷ l) = ap suc (mapped_length f l)

pub same_length : {A B C : Type 0} (f : A → C) (g : B → C) (l : List A) (m : List B) → map f l ≡ map g m
    → length l ≡ length m
same_length f g l m e = sym (mapped_length f l) ∙ ap length e ∙ mapped_length g m

pub holds_there : {A : Type 0} (P : A → Type 0) (l : List A) (k : ℕ) (a : A) → slice_get l k ≡ Some a
    → AllByRecursion P l → P a
holds_there P [] k a h all = absurd (none_is a h)
holds_there P (b ∷ l) zero a h all = subst P (some_is b a h) all.0
holds_there P (b ∷ l) (suc k) a h all = holds_there P l k a h all.1

pub taken_at : {A : Type 0} (n : ℕ) (l : List A) (k : ℕ) → k < n → slice_get (take n l) k ≡ slice_get l k
taken_at zero l k h = absurd (omega (arith, h))
taken_at (suc n) [] k h = refl
taken_at (suc n) (a ∷ l) zero h = refl
taken_at (suc n) (a ∷ l) (suc k) h = taken_at n l k (omega (arith, h))

pub taken_length : {A : Type 0} (n : ℕ) (l : List A) → n ≤ length l → length (take n l) ≡ n
taken_length zero l h = refl
taken_length (suc n) [] h = absurd (omega (arith, h))
taken_length (suc n) (a ∷ l) h = ap suc (taken_length n l (omega (arith, h)))
