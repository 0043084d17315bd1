-- A list that grows and shrinks at its end, seen with the newest first.
use Rattle.std.proofs.Common.{◌≡◌, ◌<◌, ◌≤◌, ◌⊎◌, List, [], ◌∷◌, ◌++◌, ℕ, ◌-◌, drop, take, reverse, inl, inr}
use Rattle.std.proofs.Common.{length, arith, ap, sym, refl, zero, suc, None, ◌∙◌, ◌+◌, get_or, set}
use Rattle.std.proofs.Common.{take-append-drop, append_assoc}
use Rattle.std.proofs.lemmas.List.{reverse-append, reverse-reverse, length-reverse, length-drop, take_all, drop_all}
use Rattle.std.proofs.lemmas.List.{take_more, take_more_set}
use Rattle.std.proofs.lemmas.Bool.{cases_lt}
use Rattle.std.proofs.Math.Seq.{take-append_seam, drop-append_seam}
use Rattle.std.specs.Prelude.{slice_get}
use Rattle.rgo_meaning.specs.Frames.{replaced}

pub pushed : {A : Type 0} (l : List A) (x : A) → reverse (l ++ x ∷ []) ≡ x ∷ reverse l
pushed l x = reverse-append l (x ∷ [])

module _ {A : Type 0} (l : List A) (k : ℕ) where
  -- the newest k and the others
  parts : reverse l ≡ reverse (drop (length l - k) l) ++ reverse (take (length l - k) l)
  parts =
      ap reverse (sym (take-append-drop (length l - k) l))
      ∙ reverse-append (take (length l - k) l) (drop (length l - k) l)

  newest_length : k ≤ length l → length (reverse (drop (length l - k) l)) ≡ k
  newest_length within =
      omega (arith, within, length-reverse (drop (length l - k) l), length-drop (length l - k) l)

  none_older : length l < k → length l - k ≡ 0
  none_older beyond = omega (arith, beyond)

  -- the newest k, or all
  pub newest : take k (reverse l) ≡ reverse (drop (length l - k) l)
  newest = by_cases (cases_lt (length l) k) where
    by_cases : (length l < k) ⊎ (k ≤ length l) → take k (reverse l) ≡ reverse (drop (length l - k) l)
    by_cases (inr within) =
        ap (take k) parts
        ∙ ap (λ n. take n (reverse (drop (length l - k) l) ++ reverse (take (length l - k) l)))
        (sym (newest_length within))
        ∙ take-append_seam (reverse (drop (length l - k) l)) (reverse (take (length l - k) l))
    by_cases (inl beyond) =
        take_all k (reverse l) (omega (arith, beyond, length-reverse l))
        ∙ ap (λ n. reverse (drop n l)) (sym (none_older beyond))

  pub older : drop k (reverse l) ≡ reverse (take (length l - k) l)
  older = by_cases (cases_lt (length l) k) where
    by_cases : (length l < k) ⊎ (k ≤ length l) → drop k (reverse l) ≡ reverse (take (length l - k) l)
    by_cases (inr within) =
        ap (drop k) parts
        ∙ ap (λ n. drop n (reverse (drop (length l - k) l) ++ reverse (take (length l - k) l)))
        (sym (newest_length within))
        ∙ drop-append_seam (reverse (drop (length l - k) l)) (reverse (take (length l - k) l))
    by_cases (inl beyond) =
        drop_all k (reverse l) (omega (arith, beyond, length-reverse l))
        ∙ ap (λ n. reverse (take n l)) (sym (none_older beyond))

  -- the newest in the order in which they came
  pub last_items : drop (length l - k) l ≡ reverse (take k (reverse l))
  last_items = sym (ap reverse newest ∙ reverse-reverse (drop (length l - k) l))

  pub once_more : reverse (l ++ drop (length l - k) l) ≡ take k (reverse l) ++ reverse l
  once_more = reverse-append l (drop (length l - k) l) ∙ ap (λ m. m ++ reverse l) (sym newest)

-- the same, of a number that is found so
pub last_of : {A : Type 0} (l : List A) (k m : ℕ) → m ≡ length l - k
    → take (length l - m) (drop m l) ≡ reverse (take k (reverse l))
last_of l k m is =
    take_all (length l - m) (drop m l) (omega (arith, length-drop m l)) ∙ ap (λ n. drop n l) is ∙ last_items l k

pub older_of : {A : Type 0} (l : List A) (k m : ℕ) → m ≡ length l - k → reverse (take m l) ≡ drop k (reverse l)
older_of l k m is = ap (λ n. reverse (take n l)) is ∙ sym (older l k)

pub more_of : {A : Type 0} (l : List A) (k m : ℕ) → m ≡ length l - k
    → reverse (l ++ take (length l - m) (drop m l)) ≡ take k (reverse l) ++ reverse l
more_of l k m is =
    ap (λ r. reverse (l ++ r))
    (take_all (length l - m) (drop m l) (omega (arith, length-drop m l)) ∙ ap (λ n. drop n l) is)
    ∙ once_more l k

-- the newest k below the newest
pub below_of : {A : Type 0} (l m n : List A) (k t from : ℕ) → m ≡ take t l → t ≡ length l - 1 → from ≡ length m - k
    → n ≡ take (length m - from) (drop from m) → n ≡ reverse (take k (drop 1 (reverse l)))
below_of l m n k t from is top from_is n_is =
    n_is ∙ last_of m k from from_is
    ∙ ap (λ r. reverse (take k r)) (ap reverse is ∙ older_of l 1 t top)

-- one item in place of the newest and of k below it
replaced_by : {A : Type 0} (x : A) (k : ℕ) (l : List A) → 0 < length l → replaced x k l ≡ x ∷ drop (suc k) l
replaced_by x k [] h = absurd (omega arith)
replaced_by x k (y ∷ l) h = refl

pub replaced_of : {A : Type 0} (l : List A) (x : A) (k kept : ℕ) → 0 < length l → kept ≡ (length l - 1) - k
    → reverse (take (kept + 1) (set l kept x)) ≡ replaced x k (reverse l)
replaced_of l x k kept some is =
    ap reverse (take_more_set l kept x (omega arith))
    ∙ pushed (take kept l) x
    ∙ ap (λ m. x ∷ m) (older_of l (suc k) kept (omega arith))
    ∙ sym (replaced_by x k (reverse l) (omega (arith, length-reverse l)))

-- the last of the items that are left goes on top
pub put_more : {A : Type 0} (items l : List A) (n : ℕ) (x : A) → n < length items → x ≡ get_or items n x
    → take n items ++ reverse (l ++ x ∷ []) ≡ take (n + 1) items ++ reverse l
put_more items l n x h is =
    ap (λ r. take n items ++ r) (pushed l x)
    ∙ sym (append_assoc (take n items) (x ∷ []) (reverse l))
    ∙ ap (λ r. r ++ reverse l) (ap (λ y. take n items ++ y ∷ []) is ∙ sym (take_more items n x h))

-- where nothing is, there is what is taken in its place
pub none_there : {A : Type 0} (l : List A) (n : ℕ) (d : A) → slice_get l n ≡ None → d ≡ get_or l n d
none_there [] zero d e = refl
none_there [] (suc n) d e = refl
none_there (x ∷ l) zero d e = cc
none_there (x ∷ l) (suc n) d e = none_there l n d e

pub ruleset stacks = (pushed)
