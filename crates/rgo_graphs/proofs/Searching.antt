-- How far a search has come.
use Rattle.std.proofs.Common.{◌≡◌, ◌≢◌, ◌⊎◌, inl, inr, ⊎_elim, ℕ, zero, suc, ◌<◌, ◌≤◌, ◌+◌, List, [], length, get_or, sym, ap, ◌∙◌, subst, arith, length-append}
use Rattle.std.specs.List.{Contains, All}
use Rattle.std.proofs.Math.ListN.{get_or-append}
use Rattle.std.proofs.lemmas.List.{get_or_default, get_or_past}
use Rattle.std.proofs.lemmas.List.Elements.{Contains-append_left, Contains-get_or}
use Rattle.rgo_graphs.specs.Rows.{Relates, row_at}
use Rattle.rgo_graphs.specs.Reach.{Reached, ReachedIn}
use Rattle.rgo_graphs.specs.Visits.{Visits, Bars, marked}
use Rattle.rgo_graphs.proofs.Lists.{no_member}
use Rattle.rgo_graphs.proofs.Marking.{marked_most}

pub record Searching (before : List (List ℕ)) (seeds barriers : List ℕ) (stamp : ℕ) (marks found : List ℕ)
    (next : ℕ) : Type 0 where
  pub size : length marks ≡ length before
  pub most : All (λ m. m ≤ stamp) marks
  pub come : next ≤ length found
  pub sound : (p : ℕ) → Contains found p → Reached before seeds barriers p
  pub inside : (p : ℕ) → Contains found p → p < length before
  pub whence : (p : ℕ) → get_or marks p 0 ≡ stamp → Contains found p ⊎ Contains barriers p
  pub seeded : (p : ℕ) → Contains seeds p → Contains found p
  pub barred : (p : ℕ) → Contains barriers p → get_or marks p 0 ≡ stamp
  pub closed : (k p : ℕ) → k < next → Relates before (get_or found k 0) p → get_or marks p 0 ≡ stamp
  pub few : length found ≤ marked stamp marks

less_or : (a b : ℕ) → (a < b) ⊎ (b ≤ a)
less_or a b = grind arith

abbrev pub Inside : List (List ℕ) → Type 0
Inside before = (j p : ℕ) → Relates before j p → p < length before

-- no mark is the stamp yet
pub unmarked : (marks : List ℕ) (stamp : ℕ) → 0 < stamp → All (λ m. m < stamp) marks → (p : ℕ)
    → get_or marks p 0 ≡ stamp → ⊥
unmarked marks stamp some fresh p e = ⊎_elim
    (λ l. omega (arith, fresh p 0 l))
    (λ l. omega (arith, get_or_past marks p 0 l))
    (less_or p (length marks))

pub weaker : (marks : List ℕ) (stamp : ℕ) → All (λ m. m < stamp) marks → All (λ m. m ≤ stamp) marks
weaker marks stamp fresh k d l = omega (arith, fresh k d l)

-- the search begins
pub begun : (before : List (List ℕ)) (seeds barriers : List ℕ) (stamp : ℕ) (m0 m1 m2 found : List ℕ) →
    length m0 ≡ length before → ((p : ℕ) → Contains seeds p → p < length before) → 0 < stamp
    → All (λ m. m < stamp) m0 →
    Visits stamp [] m0 found m1 seeds → Bars stamp m1 m2 barriers
    → Searching before seeds barriers stamp m2 found 0
begun before seeds barriers stamp m0 m1 m2 found size inside some fresh v b = record {
  size = b.size ∙ v.size ∙ size;
  most = b.most (v.most (weaker m0 stamp fresh));
  come = omega arith;
  sound = λ p h. (0, is_seed p h);
  inside = λ p h. inside p (is_seed p h);
  whence = λ p h. ⊎_elim
      (λ e. inl (⊎_elim (λ e0. absurd (unmarked m0 stamp some fresh p e0)) (λ i. i) (v.before p e)))
      (λ i. inr i)
      (b.before p h);
  seeded = λ p h. ⊎_elim (λ e0. absurd (unmarked m0 stamp some fresh p e0)) (λ i. i) (v.all p h);
  barred = λ p h. b.now p h;
  closed = λ k p l h. absurd (omega arith);
  few = omega (arith, v.count, b.count);
}
  where
    is_seed : (p : ℕ) → Contains found p → Contains seeds p
    is_seed p h = ⊎_elim (λ i. absurd (no_member p i)) (λ i. i.0) (v.only p h)

-- one row more
pub turn : (before : List (List ℕ)) (seeds barriers : List ℕ) (stamp : ℕ) (m1 m2 f1 f2 row : List ℕ)
    (next : ℕ) →
    Inside before → next < length f1 → row_at before (get_or f1 next 0) ≡ row →
    Searching before seeds barriers stamp m1 f1 next → Visits stamp f1 m1 f2 m2 row
    → Searching before seeds barriers stamp m2 f2 (next + 1)
turn before seeds barriers stamp m1 m2 f1 f2 row next inside l is s v = record {
  size = v.size ∙ s.size;
  most = v.most s.most;
  come = omega (arith, long);
  sound = λ p h. ⊎_elim (λ i. s.sound p i) (λ i. reached p i.0 i.1) (v.only p h);
  inside = λ p h. ⊎_elim (λ i. s.inside p i) (λ i. inside j p (relates p i.0)) (v.only p h);
  whence = λ p h. ⊎_elim
      (λ e. ⊎_elim (λ f. inl (more p f)) (λ b. inr b) (s.whence p e))
      (λ f. inl f)
      (v.before p h);
  seeded = λ p h. more p (s.seeded p h);
  barred = λ p h. v.still p (s.barred p h);
  closed = λ k p lk h. close k p lk h;
  few = omega (arith, s.few, v.count);
}
  where
    j : ℕ
    j = get_or f1 next 0

    long : length f1 ≤ length f2
    long = omega (arith, ap (λ (l : List ℕ). length l) v.kept.1, length-append f1 v.kept.0)

    more : (p : ℕ) → Contains f1 p → Contains f2 p
    more p h = subst (λ (l : List ℕ). Contains l p) (sym v.kept.1) (Contains-append_left f1 v.kept.0 p h)

    relates : (p : ℕ) → Contains row p → Relates before j p
    relates p h = subst (λ (r : List ℕ). Contains r p) (sym is) h

    from_j : Reached before seeds barriers j
    from_j = s.sound j (Contains-get_or f1 next 0 l)

    reached : (p : ℕ) → Contains row p → get_or m1 p 0 ≢ stamp → Reached before seeds barriers p
    reached p i n = (suc from_j.0, (j, λ b. n (s.barred p b), relates p i, from_j.1))

    same : (k : ℕ) → k < length f1 → get_or f2 k 0 ≡ get_or f1 k 0
    same k lk = ap (λ (l : List ℕ). get_or l k 0) v.kept.1 ∙ get_or-append f1 v.kept.0 0 k lk

    at_next : (k p : ℕ) → k ≡ next → Relates before (get_or f2 k 0) p → get_or m2 p 0 ≡ stamp
    at_next k p e h =
        let here : get_or f2 k 0 ≡ j = same k (omega arith) ∙ ap (λ i. get_or f1 i 0) e in
        v.now p (subst (λ (r : List ℕ). Contains r p) is (subst (λ i. Relates before i p) here h))

    at_less : (k p : ℕ) → k < next → Relates before (get_or f2 k 0) p → get_or m2 p 0 ≡ stamp
    at_less k p lk h = v.still p (s.closed k p lk (subst (λ i. Relates before i p) (same k (omega arith)) h))

    which : (k : ℕ) → k < next + 1 → (k < next) ⊎ (k ≡ next)
    which k lk = grind arith

    close : (k p : ℕ) → k < next + 1 → Relates before (get_or f2 k 0) p → get_or m2 p 0 ≡ stamp
    close k p lk h = ⊎_elim (λ l. at_less k p l h) (λ e. at_next k p e h) (which k lk)

-- the search is done
pub done : (before : List (List ℕ)) (seeds barriers : List ℕ) (stamp : ℕ) (marks found : List ℕ) (next : ℕ)
    → length found ≤ next →
    Searching before seeds barriers stamp marks found next → (n p : ℕ) → ReachedIn before seeds barriers n p
    → Contains found p
done before seeds barriers stamp marks found next all s zero p h = s.seeded p h
done before seeds barriers stamp marks found next all s (suc n) p h =
    let j = done before seeds barriers stamp marks found next all s n h.0 h.3 in
    let e : get_or found j.0 0 ≡ h.0 = get_or_default found j.0 0 h.0 j.1 ∙ j.2 in
    let m = s.closed j.0 p (omega (arith, j.1)) (subst (λ i. Relates before i p) (sym e) h.2) in
    ⊎_elim (λ f. f) (λ b. absurd (h.1 b)) (s.whence p m)

-- after as many turns as there are numbers, no more are found
pub enough : (before : List (List ℕ)) (seeds barriers : List ℕ) (stamp : ℕ) (marks found : List ℕ) (next : ℕ) →
    Searching before seeds barriers stamp marks found next → length found ≤ length before
enough before seeds barriers stamp marks found next s = omega (arith, s.few, marked_most stamp marks, s.size)
