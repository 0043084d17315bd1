-- Loops that change the elements of a list one after the other: the first `i` have changed and the others have not (`Swept`). `swept_part`
-- is for loops that end early, which an allocation failure may make any of them do.
use Rattle.std.proofs.Common.{◌≡◌, ◌+◌, ◌<◌, ◌≤◌, ℕ, suc, List, [], ◌∷◌, ◌++◌, length, take, drop, set, get_or, refl, sym, ap, ◌∙◌, subst, arith, length-set}
use Rattle.std.specs.List.{All, AllZip}
use Rattle.std.proofs.lemmas.List.{drop-set-lt, drop_more, take-append-drop, take_all, take_more, take_more_set}
use Rattle.std.proofs.lemmas.List.Elements.{All-cons, All-head, All-nil, All-push, All-tail, AllZip-push}

-- ---- two lists, item by item

module _ {A B : Type 0} (R : A → B → Type 0) where
  pub zip_push : (xs : List A) (ys : List B) (x : A) (y : B) → AllZip R xs ys → R x y → AllZip R (xs ++ x ∷ []) (ys ++ y ∷ [])
  zip_push [] [] x y all its = (its, tt)
  zip_push [] (b ∷ ys) x y all its = absurd all
  zip_push (a ∷ xs) [] x y all its = absurd all
  zip_push (a ∷ xs) (b ∷ ys) x y all its = (all.0, zip_push xs ys x y all.1 its)

  zip_append : (xs : List A) (ys : List B) (us : List A) (vs : List B) → AllZip R xs ys → AllZip R us vs → AllZip R (xs ++ us) (ys ++ vs)
  zip_append [] [] us vs all more = more
  zip_append [] (b ∷ ys) us vs all more = absurd all
  zip_append (a ∷ xs) [] us vs all more = absurd all
  zip_append (a ∷ xs) (b ∷ ys) us vs all more = (all.0, zip_append xs ys us vs all.1 more)

  pub zip_length : (xs : List A) (ys : List B) → AllZip R xs ys → length ys ≡ length xs
  zip_length [] [] all = refl
  zip_length [] (b ∷ ys) all = absurd all
  zip_length (a ∷ xs) [] all = absurd all
  zip_length (a ∷ xs) (b ∷ ys) all = ap suc (zip_length xs ys all.1)

  module _ (S : A → B → Type 0) (weaker : (x : A) (y : B) → R x y → S x y) where
    pub zip_weaker : (xs : List A) (ys : List B) → AllZip R xs ys → AllZip S xs ys
    zip_weaker [] [] all = tt
    zip_weaker [] (b ∷ ys) all = absurd all
    zip_weaker (a ∷ xs) [] all = absurd all
    zip_weaker (a ∷ xs) (b ∷ ys) all = (weaker a b all.0, zip_weaker xs ys all.1)

-- what each element keeps, all keep
pub zip_keeps : {A : Type 0} (R : A → A → Type 0) (P : A → Type 0) → ((x y : A) → R x y → P x → P y) → (xs ys : List A) → AllZip R xs ys → All P xs
    → All P ys
zip_keeps R P keeps [] [] zip all = all
zip_keeps R P keeps [] (y ∷ ys) zip all = absurd zip
zip_keeps R P keeps (x ∷ xs) [] zip all = absurd zip
zip_keeps R P keeps (x ∷ xs) (y ∷ ys) zip all =
    All-cons P y ys (keeps x y zip.0 (All-head P x xs all)) (zip_keeps R P keeps xs ys zip.1 (All-tail P x xs all))

-- what each has for two reasons, all have
pub all_both : {A : Type 0} (P Q R : A → Type 0) → ((x : A) → P x → Q x → R x) → (xs : List A) → All P xs → All Q xs → All R xs
all_both P Q R each [] first second = All-nil R
all_both P Q R each (x ∷ xs) first second =
    All-cons R x xs (each x (All-head P x xs first) (All-head Q x xs second))
    (all_both P Q R each xs (All-tail P x xs first) (All-tail Q x xs second))

zip_same : {A : Type 0} (R : A → A → Type 0) → ((x : A) → R x x) → (xs : List A) → AllZip R xs xs
zip_same R same [] = tt
zip_same R same (x ∷ xs) = (same x, zip_same R same xs)

-- ---- sweeps

module _ {A : Type 0} where
  -- the first i elements have changed as R says, the others have not
  pub record Swept (R : A → A → Type 0) (old new : List A) (i : ℕ) : Type 0 where
    pub len : length new ≡ length old
    pub done : AllZip R (take i old) (take i new)
    pub rest : drop i new ≡ drop i old

  pub swept_none : (R : A → A → Type 0) (xs : List A) → Swept R xs xs 0
  swept_none R xs = record { len = refl; done = tt; rest = refl }

  -- the next element is as it was
  pub swept_at : (R : A → A → Type 0) (old new : List A) (i : ℕ) (x : A) → Swept R old new i → i < length new → x ≡ get_or new i x
      → x ≡ get_or old i x
  swept_at R old new i x swept within at =
      let a = drop_more new i x within in
      let b = drop_more old i x (omega (arith, swept.len, within)) in
      let rest = swept.rest in
      cc

  pub swept_more : (R : A → A → Type 0) (old new : List A) (i : ℕ) (x y : A) → Swept R old new i → i < length new → x ≡ get_or new i x → R x y
      → Swept R old (set new i y) (i + 1)
  swept_more R old new i x y swept within at changed =
      let inside : i < length old = omega (arith, swept.len, within) in
      let was = swept_at R old new i x swept within at in
      let a = drop_more new i x within in
      let b = drop_more old i x inside in
      let rest = swept.rest in
      let next : drop (i + 1) new ≡ drop (i + 1) old = cc in
      let old_more : take (i + 1) old ≡ take i old ++ x ∷ [] = take_more old i x inside ∙ ap (λ z. take i old ++ z ∷ []) (sym was) in
      let new_more = take_more_set new i y within in
      record {
        len = length-set new i y ∙ swept.len;
        done = subst (λ l. AllZip R l (take (i + 1) (set new i y))) (sym old_more)
            (subst (λ l. AllZip R (take i old ++ x ∷ []) l) (sym new_more) (AllZip-push R (take i old) (take i new) x y swept.done changed));
        rest = drop-set-lt (i + 1) new i y (omega arith) ∙ next;
      }

  pub swept_all : (R : A → A → Type 0) (old new : List A) (i : ℕ) → Swept R old new i → length new ≤ i → AllZip R old new
  swept_all R old new i swept end =
      let a = take_all i old (omega (arith, swept.len, end)) in
      let b = take_all i new end in
      subst (λ l. AllZip R l new) a (subst (λ l. AllZip R (take i old) l) b swept.done)

  -- if the loop ends early, the others have not changed
  pub swept_part : (R : A → A → Type 0) → ((x : A) → R x x) → (old new : List A) (i : ℕ) → Swept R old new i → AllZip R old new
  swept_part R same old new i swept =
      let a = take-append-drop i old in
      let b = take-append-drop i new in
      let rest : AllZip R (drop i old) (drop i new) = subst (λ l. AllZip R (drop i old) l) (sym swept.rest) (zip_same R same (drop i old)) in
      subst (λ l. AllZip R l new) a (subst (λ l. AllZip R (take i old ++ drop i old) l) b
      (zip_append R (take i old) (take i new) (drop i old) (drop i new) swept.done rest))

  pub swept_weaker : (R S : A → A → Type 0) → ((x y : A) → R x y → S x y) → (old new : List A) (i : ℕ) → Swept R old new i → Swept S old new i
  swept_weaker R S weaker old new i swept = record {
    len = swept.len;
    done = zip_weaker R S weaker (take i old) (take i new) swept.done;
    rest = swept.rest;
  }

  -- one more element has what all before it have
  pub all_more : (P : A → Type 0) (xs : List A) (i : ℕ) (y : A) → i < length xs → All P (take i xs) → P y → All P (take (i + 1) (set xs i y))
  all_more P xs i y within all its = subst (All P) (sym (take_more_set xs i y within)) (All-push P (take i xs) y all its)
