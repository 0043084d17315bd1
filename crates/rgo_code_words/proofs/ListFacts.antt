-- Facts on lists.
use Rattle.std.proofs.Common.{◌≡◌, ℕ, ◌+◌, ◌-◌, ◌<◌, List, [], ◌∷◌, ◌++◌, length, take, drop, get_or, refl, sym, ap, subst, ◌∙◌, arith, append-nil, append_assoc, length-drop}
use Rattle.std.specs.List.{All, flat_map}
use Rattle.std.proofs.lemmas.List.{take_all, take_at, drop_at, at_drop_more}
use Rattle.std.proofs.lemmas.List.Elements.{All-take, All-drop}

-- what is left of a slice
pub rest_of : {A : Type 0} (list : List A) (at : ℕ) → take (length list - at) (drop at list) ≡ drop at list
rest_of list at = take_all (length list - at) (drop at list) (omega (arith, length-drop at list))

pub drop_here : {A : Type 0} (xs : List A) (i : ℕ) (d : A) → i < length xs → drop i xs ≡ get_or xs i d ∷ drop (i + 1) xs
drop_here xs i d l = at_drop_more (λ t. t) xs i d l

pub rest_same : {A : Type 0} (a x y : List A) → a ++ x ≡ a ++ y → x ≡ y
rest_same a x y e =
    sym (drop_at a x (length a) refl) ∙ ap (drop (length a)) e ∙ drop_at a y (length a) refl

pub flat_push : {A B : Type 0} (f : A → List B) (xs : List A) (x : A) → flat_map f (xs ++ x ∷ []) ≡ flat_map f xs ++ f x
flat_push f [] x = append-nil (f x)
flat_push f (y ∷ xs) x = ap (λ t. f y ++ t) (flat_push f xs x) ∙ sym (append_assoc (f y) (flat_map f xs) (f x))

pub flat_append : {A B : Type 0} (f : A → List B) (xs ys : List A) → flat_map f (xs ++ ys) ≡ flat_map f xs ++ flat_map f ys
flat_append f [] ys = refl
flat_append f (x ∷ xs) ys = ap (λ t. f x ++ t) (flat_append f xs ys) ∙ sym (append_assoc (f x) (flat_map f xs) (flat_map f ys))

pub front_all : {A : Type 0} (P : A → Type 0) (xs ys : List A) → All P (xs ++ ys) → All P xs
front_all P xs ys a = subst (All P) (take_at xs ys (length xs) refl) (All-take P (length xs) (xs ++ ys) a)

pub back_all : {A : Type 0} (P : A → Type 0) (xs ys : List A) → All P (xs ++ ys) → All P ys
back_all P xs ys a = subst (All P) (drop_at xs ys (length xs) refl) (All-drop P (length xs) (xs ++ ys) a)
