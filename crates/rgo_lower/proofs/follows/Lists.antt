-- Lists: of variables that are held in reverse order, of values, and of local variables.
use Rattle.std.proofs.Common.{◌≡◌, ◌≢◌, ℕ, zero, suc, ◌+◌, ◌<◌, ◌≤◌, List, [], ◌∷◌, ◌++◌, Some, slice_get, get_or}
use Rattle.std.proofs.Common.{map, length, take, drop, reverse, refl, sym, ap, ◌∙◌, arith, append_assoc}
use Rattle.std.proofs.lemmas.List.{map-append, reverse-reverse, length-append, take-map, get_or-take}
use Rattle.std.proofs.lemmas.List.{length-reverse}
use Rattle.std.proofs.Math.Seq.{take-append_seam, drop-append_seam}
use mathlib.Core.List.{reverse-cons}
use Rattle.rgo_memory.specs.declared.values.Value.{Value}
use Rattle.rgo_meaning.specs.Frames.{local_value, with_local_value}

-- ---- what was put on top of others

pub map-reverse : {X Y : Type 0} (f : X → Y) (xs : List X) → map f (reverse xs) ≡ reverse (map f xs)
map-reverse f [] = refl
map-reverse f (x ∷ xs) =
    ap (map f) (reverse-cons x xs) ∙ map-append f (reverse xs) (x ∷ [])
    ∙ ap (λ ys. ys ++ f x ∷ []) (map-reverse f xs) ∙ sym (reverse-cons (f x) (map f xs))

-- ys, after each of xs was put on top of it
abbrev pub onto : List ℕ → List ℕ → List ℕ
onto [] ys = ys
onto (x ∷ xs) ys = onto xs (x ∷ ys)

pub onto-reverse : (xs ys : List ℕ) → onto xs ys ≡ reverse xs ++ ys
onto-reverse [] ys = refl
onto-reverse (x ∷ xs) ys =
    onto-reverse xs (x ∷ ys) ∙ sym (append_assoc (reverse xs) (x ∷ []) ys)
    ∙ ap (λ zs. zs ++ ys) (sym (reverse-cons x xs))

pub taken_back : (xs ys : List ℕ) (n : ℕ) → n ≡ length xs → reverse (take n (onto xs ys)) ≡ xs
taken_back xs ys n e =
    ap (λ zs. reverse (take n zs)) (onto-reverse xs ys)
    ∙ ap (λ k. reverse (take k (reverse xs ++ ys))) (e ∙ sym (length-reverse xs))
    ∙ ap reverse (take-append_seam (reverse xs) ys) ∙ reverse-reverse xs

pub dropped_back : (xs ys : List ℕ) (n : ℕ) → n ≡ length xs → drop n (onto xs ys) ≡ ys
dropped_back xs ys n e =
    ap (drop n) (onto-reverse xs ys) ∙ ap (λ k. drop k (reverse xs ++ ys)) (e ∙ sym (length-reverse xs))
    ∙ drop-append_seam (reverse xs) ys

pub get_onto : (ds ys : List ℕ) (n k : ℕ) → n ≡ length ds + k → slice_get (onto ds ys) n ≡ slice_get ys k
get_onto [] ys n k e = ap (slice_get ys) (omega (arith, e))
get_onto (d ∷ ds) ys n k e = get_onto ds (d ∷ ys) n (suc k) (omega (arith, e))

onto_snoc : (ds xs : List ℕ) (v : ℕ) → onto (ds ++ v ∷ []) xs ≡ v ∷ onto ds xs
onto_snoc [] xs v = refl
onto_snoc (d ∷ ds) xs v = onto_snoc ds (d ∷ xs) v

all_taken : (ds : List ℕ) (n : ℕ) → n ≡ length ds → take n (onto ds []) ≡ reverse ds
all_taken ds n e =
    ap (take n) (onto-reverse ds []) ∙ ap (λ k. take k (reverse ds ++ [])) (e ∙ sym (length-reverse ds))
    ∙ take-append_seam (reverse ds) []

-- ds on top of ds
pub twice_taken : (ds : List ℕ) (n : ℕ) → n ≡ length ds
    → reverse (take n (take n (onto ds []) ++ onto ds [])) ≡ ds
twice_taken ds n e =
    ap (λ zs. reverse (take n (zs ++ onto ds []))) (all_taken ds n e)
    ∙ ap (λ k. reverse (take k (reverse ds ++ onto ds []))) (e ∙ sym (length-reverse ds))
    ∙ ap reverse (take-append_seam (reverse ds) (onto ds [])) ∙ reverse-reverse ds

pub twice_dropped : (ds : List ℕ) (n : ℕ) → n ≡ length ds
    → drop n (take n (onto ds []) ++ onto ds []) ≡ onto ds []
twice_dropped ds n e =
    ap (λ zs. drop n (zs ++ onto ds [])) (all_taken ds n e)
    ∙ ap (λ k. drop k (reverse ds ++ onto ds [])) (e ∙ sym (length-reverse ds))
    ∙ drop-append_seam (reverse ds) (onto ds [])

pub two_taken : (x y : ℕ) (xs : List ℕ) → reverse (take 2 (y ∷ x ∷ xs)) ≡ x ∷ y ∷ []
two_taken x y xs = taken_back (x ∷ y ∷ []) xs 2 (omega arith)

pub one_more_taken : (ds : List ℕ) (v n : ℕ) → n ≡ length ds
    → reverse (take (suc n) (v ∷ onto ds [])) ≡ ds ++ v ∷ []
one_more_taken ds v n e =
    let size = length-append ds (v ∷ []) in
    ap (λ zs. reverse (take (suc n) zs)) (sym (onto_snoc ds [] v))
    ∙ taken_back (ds ++ v ∷ []) [] (suc n) (omega (arith, e, size))

pub one_more_dropped : (ds : List ℕ) (v n : ℕ) → n ≡ length ds → drop (suc n) (v ∷ onto ds []) ≡ []
one_more_dropped ds v n e = dropped_back ds [] n e

-- ---- variables that come before another

-- the variables all come before n
abbrev pub AreBelow : ℕ → List ℕ → Type 0
AreBelow n [] = Unit {0}
AreBelow n (d ∷ ds) = (d < n) × AreBelow n ds

pub below_drop : (n c : ℕ) (ds : List ℕ) → AreBelow n ds → AreBelow n (drop c ds)
below_drop n zero ds h = h
below_drop n (suc c) [] h = tt
below_drop n (suc c) (d ∷ ds) h = below_drop n c ds h.1

pub below_take : (n c : ℕ) (ds : List ℕ) → AreBelow n ds → AreBelow n (take c ds)
below_take n zero ds h = tt
below_take n (suc c) [] h = tt
below_take n (suc c) (d ∷ ds) h = (h.0, below_take n c ds h.1)

pub below_append : (n : ℕ) (ds es : List ℕ) → AreBelow n ds → AreBelow n es → AreBelow n (ds ++ es)
below_append n [] es h k = k
below_append n (d ∷ ds) es h k = (h.0, below_append n ds es h.1 k)

pub below_le : (m n : ℕ) (ds : List ℕ) → m ≤ n → AreBelow m ds → AreBelow n ds
below_le m n [] le h = tt
below_le m n (d ∷ ds) le h = (omega (arith, h.0), below_le m n ds le h.1)

pub map_below : {X : Type 0} (f g : ℕ → X) (n : ℕ) (ds : List ℕ) → ((d : ℕ) → d < n → f d ≡ g d) → AreBelow n ds
    → map f ds ≡ map g ds
map_below f g n [] h b = refl
map_below f g n (d ∷ ds) h b = λ i. h d b.0 i ∷ map_below f g n ds h b.1 i

-- ---- values

pub get_map : {X : Type 0} (g : ℕ → X) (ds : List ℕ) (j d : ℕ) (x : X) → slice_get ds j ≡ Some d
    → get_or (map g ds) j x ≡ g d
get_map g [] j d x h = cc
get_map g (y ∷ ds) zero d x h = let e : y ≡ d = cc in ap g e
get_map g (y ∷ ds) (suc j) d x h = get_map g ds j d x h

pub local_same : (locals : List Value) (n : ℕ) (v : Value) → local_value (with_local_value locals n v) n ≡ v
local_same [] zero v = refl
local_same [] (suc n) v = local_same [] n v
local_same (u ∷ locals) zero v = refl
local_same (u ∷ locals) (suc n) v = local_same locals n v

pub local_other : (locals : List Value) (n m : ℕ) (v : Value) → n ≢ m
    → local_value (with_local_value locals n v) m ≡ local_value locals m
local_other [] zero zero v h = absurd (h refl)
local_other [] zero (suc m) v h = refl
local_other [] (suc n) zero v h = refl
local_other [] (suc n) (suc m) v h = local_other [] n m v (λ e. h (ap suc e))
local_other (u ∷ locals) zero zero v h = absurd (h refl)
local_other (u ∷ locals) zero (suc m) v h = refl
local_other (u ∷ locals) (suc n) zero v h = refl
local_other (u ∷ locals) (suc n) (suc m) v h = local_other locals n m v (λ e. h (ap suc e))

-- ---- the variables of a new frame: the arguments, and then those of the rest

pub padded_long : {X : Type 0} (xs zs : List X) → length zs ≤ length (xs ++ drop (length xs) zs)
padded_long [] zs = omega arith
padded_long (x ∷ xs) [] = omega arith
padded_long (x ∷ xs) (z ∷ zs) = let h = padded_long xs zs in omega (arith, h)

drop_nil : {X : Type 0} (n : ℕ) → drop {A = X} n [] ≡ []
drop_nil zero = refl
drop_nil (suc n) = refl

pub padded_same : {X : Type 0} (xs ys zs : List X) (i : ℕ) (x : X) → get_or ys i x ≡ get_or zs i x
    → get_or (xs ++ drop (length xs) ys) i x ≡ get_or (xs ++ drop (length xs) zs) i x
padded_same [] ys zs i d e = e
padded_same (x ∷ xs) ys zs zero d e = refl
padded_same (x ∷ xs) [] [] (suc i) d e = refl
padded_same (x ∷ xs) (y ∷ ys) (z ∷ zs) (suc i) d e = padded_same xs ys zs i d e
padded_same (x ∷ xs) [] (z ∷ zs) (suc i) d e =
    ap (λ us. get_or (xs ++ us) i d) (sym (drop_nil (length xs))) ∙ padded_same xs [] zs i d e
padded_same (x ∷ xs) (y ∷ ys) [] (suc i) d e =
    padded_same xs ys [] i d e ∙ ap (λ us. get_or (xs ++ us) i d) (drop_nil (length xs))

-- lists with the same first k items have the same images of these
pub first_same : {X Y : Type 0} (f : X → Y) (us bs : List X) (k i : ℕ) (y : Y) → i < k → take k us ≡ take k bs
    → get_or (map f us) i y ≡ get_or (map f bs) i y
first_same f us bs k i y lt e =
    sym (get_or-take k (map f us) i y lt) ∙ ap (λ zs. get_or zs i y) (take-map f k us ∙ ap (map f) e)
    ∙ ap (λ zs. get_or zs i y) (sym (take-map f k bs)) ∙ get_or-take k (map f bs) i y lt
