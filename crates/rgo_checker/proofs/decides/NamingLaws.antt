-- Names that differ from those before them.
use Rattle.std.proofs.Common.{◌≡◌, ℕ, zero, suc, ◌+◌, ◌<◌, ◌≤◌, Bool, true, false, not, cond, List, [], ◌∷◌, ◌++◌, length, take, Some, slice_get, bytes_eq, refl, sym, ap, ◌∙◌, subst, arith, ◌⊎◌, inl, inr, Contains}
use Rattle.std.proofs.lemmas.Bool.{false≢true}
use Rattle.std.proofs.lemmas.Bool.Decides.{Decides-not, Decides-like}
use Rattle.std.proofs.lemmas.List.Elements.{Contains-append_left, Contains-push, Contains-push_cases}
use Rattle.std.proofs.lemmas.Option.{same_Some, none-some, slice_get-get_or}
use Rattle.std.proofs.lemmas.Slice.Eq.{bytes_eq-Decides}
use Rattle.std.specs.Bool.{Decides}
use Rattle.std.specs.HashSet.{HashSet, contains_by}
use Rattle.std.specs.List.{list_any}
use Rattle.rgo_code.specs.Exists.{IsNew}
use Rattle.rgo_checker.specs.Naming.{SetHasNames, AddsToNames}
use denote.Ref.{Bor}

module _ {S : Type 0} (old new : HashSet (Bor (List ℕ)) S) (name : List ℕ) where
  pub adds_of : (fresh : Bool) → fresh ≡ not (contains_by (λ k. bytes_eq name k.now) old)
      → ((q : List ℕ) → contains_by (λ k. bytes_eq q k.now) new
      ≡ cond (bytes_eq name q) true (contains_by (λ k. bytes_eq q k.now) old))
      → AddsToNames old name fresh new
  adds_of fresh e says = record {
    is_new = λ seen h. subst (λ b. Decides b (Contains seen name → ⊥)) (sym e)
        (Decides-not (contains_by (λ k. bytes_eq name k.now) old) (h name));
    names = λ seen h q. subst (λ b. Decides b (Contains (seen ++ name ∷ []) q)) (sym (says q))
        (by seen q (bytes_eq name q) (bytes_eq-Decides name q) (h q));
  }
    where
      by : (seen : List (List ℕ)) (q : List ℕ) (b : Bool) → Decides b (name ≡ q)
          → Decides (contains_by (λ k. bytes_eq q k.now) old) (Contains seen q)
          → Decides (cond b true (contains_by (λ k. bytes_eq q k.now) old)) (Contains (seen ++ name ∷ []) q)
      by seen q true d h = (λ t. subst (Contains (seen ++ name ∷ [])) (d.0 refl) (Contains-push seen name), λ c. refl)
      by seen q false d h = (
        λ t. Contains-append_left seen (name ∷ []) q (h.0 t),
        λ c. go (Contains-push_cases seen name q c),
      )
        where
          go : Contains seen q ⊎ (name ≡ q) → contains_by (λ k. bytes_eq q k.now) old ≡ true
          go (inl c) = h.1 c
          go (inr e) = absurd (let f : false ≡ true = d.1 e in cc)

-- ---- the names before one

pub take_more : {X : Type 0} (xs : List X) (n : ℕ) (x : X) → slice_get xs n ≡ Some x
    → take (suc n) xs ≡ take n xs ++ x ∷ []
take_more [] n x e = absurd (none-some x e)
take_more (y ∷ xs) zero x e = ap (λ z. z ∷ []) (same_Some y x e)
take_more (y ∷ xs) (suc n) x e = ap (λ zs. y ∷ zs) (take_more xs n x e)

taken : {X : Type 0} (xs : List X) (n m : ℕ) → m < n → slice_get (take n xs) m ≡ slice_get xs m
taken [] zero m h = refl
taken [] (suc n) m h = refl
taken (x ∷ xs) zero m h = absurd (omega (arith, h))
taken (x ∷ xs) (suc n) zero h = refl
taken (x ∷ xs) (suc n) (suc m) h = taken xs n m (omega (arith, h))

take_length : {X : Type 0} (xs : List X) (n : ℕ) → length (take n xs) ≤ n
take_length [] zero = omega arith
take_length [] (suc n) = omega arith
take_length (x ∷ xs) zero = omega arith
take_length (x ∷ xs) (suc n) = let h = take_length xs n in omega (arith, h)

contains_at : {X : Type 0} (xs : List X) (m : ℕ) (x : X) → slice_get xs m ≡ Some x → Contains xs x
contains_at [] m x e = absurd (none-some x e)
contains_at (y ∷ xs) zero x e = (0, omega arith, same_Some y x e)
contains_at (y ∷ xs) (suc m) x e = let c = contains_at xs m x e in (suc c.0, omega (arith, c.1), c.2)

pub new_decided : (names : List (List ℕ)) (n : ℕ) (name : List ℕ) (fresh : Bool) → slice_get names n ≡ Some name
    → Decides fresh (Contains (take n names) name → ⊥) → Decides fresh (IsNew names n)
new_decided names n name fresh here d = Decides-like fresh to from d
  where
    to : (Contains (take n names) name → ⊥) → IsNew names n
    to h m other l e q =
        let same : other ≡ name = same_Some other name (sym e ∙ here) in
        h (contains_at (take n names) m name (taken names n m l ∙ q ∙ ap Some same))

    from : IsNew names n → Contains (take n names) name → ⊥
    from h (m, l, e) =
        let less : m < n = omega (arith, l, take_length names n) in
        h m name less here
        (sym (taken names n m less) ∙ slice_get-get_or (take n names) m name l ∙ ap Some e)

-- no names yet, and one more
pub no_names : {S : Type 0} (names : HashSet (Bor (List ℕ)) S) → names.keys ≡ [] → SetHasNames names []
no_names names none q =
    let e : contains_by (λ k. bytes_eq q k.now) names ≡ false = ap (list_any (λ k. bytes_eq q k.now)) none in
    (λ t. absurd (false≢true (sym e ∙ t)), λ c. absurd (omega (arith, c.1)))

pub names_next : {S : Type 0} (all : List (List ℕ)) (n : ℕ) (name : List ℕ) → slice_get all n ≡ Some name
    → (names : HashSet (Bor (List ℕ)) S) → SetHasNames names (take n all ++ name ∷ []) → SetHasNames names (take (n + 1) all)
names_next all n name here names h =
    subst (SetHasNames names) (sym (ap (λ k. take k all) (next n) ∙ take_more all n name here)) h
  where
    next : (k : ℕ) → k + 1 ≡ suc k
    next k = omega arith
