-- Whether a variable is live is known: a shortest path to a reading visits no instruction twice.
use Rattle.std.proofs.Common.{◌≡◌, ◌≢◌, ◌⊎◌, inl, inr, ℕ, zero, suc, ◌<◌, ◌≤◌, Bool, true, false, List, [], ◌∷◌, length, Option, Some, None, slice_get, nat_eq, refl, sym, ap, subst, arith, Contains}
use Rattle.std.proofs.lemmas.Bool.Decides.{Decides-or, Decides-like}
use Rattle.std.proofs.lemmas.Map.Steps.{length-le_from_distinct_below}
use Rattle.std.proofs.lemmas.Option.{slice_get_within}
use Rattle.std.specs.Bool.{Decides}
use Rattle.std.specs.List.{AllByRecursion, IsDistinct, list_any}
use Rattle.rgo_tac.specs.Code.{Instr, TacFn}
use Rattle.rgo_flow.specs.Live.{read_by, written_by, led_to_by, ReadsVariable, WritesVariable, IsSuccessor, IsReadAfter, Live}
use Rattle.rgo_checker.proofs.Decided.{Decided, like, both, one_of, negated, same_number, is_some_of, some_in, contains_or_not}
use Rattle.rgo_checker.proofs.Deciding.{never, decides_same}
use Rattle.rgo_checker.proofs.Listing.{contains_none, contains_here, contains_there, contains_cases}

-- ---- different numbers

any_decided : (q : ℕ) (xs : List ℕ) → Decides (list_any (nat_eq q) xs) (Contains xs q)
any_decided q [] = never (contains_none q)
any_decided q (x ∷ xs) =
    Decides-like (list_any (nat_eq q) (x ∷ xs)) go (λ c. back (contains_cases x xs q c))
    (Decides-or (nat_eq q x) (list_any (nat_eq q) xs) (decides_same q x) (any_decided q xs))
  where
    go : (q ≡ x) ⊎ Contains xs q → Contains (x ∷ xs) q
    go (inl e) = subst (Contains (x ∷ xs)) (sym e) (contains_here x xs)
    go (inr c) = contains_there x xs q c

    back : (x ≡ q) ⊎ Contains xs q → (q ≡ x) ⊎ Contains xs q
    back (inl e) = inl (sym e)
    back (inr c) = inr c

apart : (a : ℕ) (xs : List ℕ) → ((q : ℕ) → Contains xs q → a ≢ q) → AllByRecursion (λ y. nat_eq a y ≡ false) xs
apart a [] h = tt
apart a (x ∷ xs) h =
    (by (nat_eq a x) refl (h x (contains_here x xs)), apart a xs (λ q c. h q (contains_there x xs q c)))
  where
    by : (t : Bool) → nat_eq a x ≡ t → a ≢ x → nat_eq a x ≡ false
    by true e n = absurd (n ((decides_same a x).0 e))
    by false e n = e

module _ (f : TacFn) (v : ℕ) where
  -- ---- paths of at most n steps

  reads_or_not : (at : ℕ) → Decided (ReadsVariable f at v)
  reads_or_not at = contains_or_not same_number (read_by (slice_get f.body at)) v

  writes_or_not : (at : ℕ) → Decided (WritesVariable f at v)
  writes_or_not at = is_some_of same_number (written_by (slice_get f.body at)) v

  abbrev Near : ℕ → ℕ → Type 0
  Near n at = (m : ℕ) × (m ≤ n) × IsReadAfter f m v at

  abbrev Further : ℕ → ℕ → Type 0
  Further n at = (WritesVariable f at v → ⊥) × ((next : ℕ) × IsSuccessor f at next × Near n next)

  near_or_not : (n at : ℕ) → Decided (Near n at)
  near_or_not zero at = like (λ r. (0, omega arith, r)) back (reads_or_not at)
    where
      back : Near 0 at → ReadsVariable f at v
      back (zero, l, r) = r
      back (suc m, l, r) = absurd (omega (arith, l))
  near_or_not (suc n) at =
      like go back (one_of (near_or_not n at)
      (both (negated (writes_or_not at)) (some_in (Near n) (near_or_not n) (led_to_by at (slice_get f.body at)))))
    where
      go : Near n at ⊎ Further n at → Near (suc n) at
      go (inl h) = (h.0, omega (arith, h.1), h.2)
      go (inr h) = (suc h.1.2.0, omega (arith, h.1.2.1), (h.0, h.1.0, h.1.1, h.1.2.2))

      back : Near (suc n) at → Near n at ⊎ Further n at
      back (zero, l, r) = inl (0, omega arith, r)
      back (suc m, l, r) = inr (r.0, (r.1, r.2, (m, omega (arith, l), r.3)))

  -- ---- a shortest path

  record Shortest (at : ℕ) : Type 0 where
    steps : ℕ
    path : IsReadAfter f steps v at
    least : (m : ℕ) → m < steps → IsReadAfter f m v at → ⊥

  shortest : (n at : ℕ) → Near n at → Shortest at
  shortest zero at (zero, l, r) = record { steps = 0; path = r; least = λ m h q. absurd (omega (arith, h)) }
  shortest zero at (suc m, l, r) = absurd (omega (arith, l))
  shortest (suc n) at (m, l, r) = by (near_or_not n at) (shortest n at)
    where
      by : Decided (Near n at) → (Near n at → Shortest at) → Shortest at
      by (inl h) less = less h
      by (inr none) less = record {
        steps = m;
        path = r;
        least = λ j h q. none (j, omega (arith, h, l), q);
      }

  -- its instructions, each once
  record Visits (n : ℕ) : Type 0 where
    visited : List ℕ
    count : length visited ≡ suc n
    distinct : IsDistinct nat_eq visited
    inside : (q : ℕ) → Contains visited q → q < length f.body
    near : (q : ℕ) → Contains visited q → Near n q

  reads_inside : (at : ℕ) → ReadsVariable f at v → at < length f.body
  reads_inside at r = by (slice_get f.body at) refl r
    where
      by : (o : Option Instr) → slice_get f.body at ≡ o → Contains (read_by o) v → at < length f.body
      by None e c = absurd (contains_none v c)
      by (Some i) e c = slice_get_within f.body at i e

  leads_inside : (at next : ℕ) → IsSuccessor f at next → at < length f.body
  leads_inside at next r = by (slice_get f.body at) refl r
    where
      by : (o : Option Instr) → slice_get f.body at ≡ o → Contains (led_to_by at o) next → at < length f.body
      by None e c = absurd (contains_none next c)
      by (Some i) e c = slice_get_within f.body at i e

  visits : (n at : ℕ) → IsReadAfter f n v at → ((m : ℕ) → m < n → IsReadAfter f m v at → ⊥) → Visits n
  unfolding IsDistinct
  visits zero at r least = record {
    visited = at ∷ [];
    count = refl;
    distinct = (tt, tt);
    inside = λ q c. one q (contains_cases at [] q c);
    near = λ q c. here q (contains_cases at [] q c);
  }
    where
      one : (q : ℕ) → (at ≡ q) ⊎ Contains [] q → q < length f.body
      one q (inl e) = subst (λ k. k < length f.body) e (reads_inside at r)
      one q (inr c) = absurd (contains_none q c)

      here : (q : ℕ) → (at ≡ q) ⊎ Contains [] q → Near 0 q
      here q (inl e) = subst (Near 0) e (0, omega arith, r)
      here q (inr c) = absurd (contains_none q c)
  visits (suc n) at r least =
      let rest = visits n r.1 r.3 (λ m l q. least (suc m) (omega (arith, l)) (r.0, r.1, r.2, q)) in
      by rest
    where
      by : Visits n → Visits (suc n)
      by rest = record {
        visited = at ∷ rest.visited;
        count = ap suc rest.count;
        distinct = (apart at rest.visited other, rest.distinct);
        inside = λ q c. within q (contains_cases at rest.visited q c);
        near = λ q c. close q (contains_cases at rest.visited q c);
      }
        where
          other : (q : ℕ) → Contains rest.visited q → at ≢ q
          other q c e =
              let h = rest.near q c in
              least h.0 (omega (arith, h.1)) (subst (IsReadAfter f h.0 v) (sym e) h.2)

          within : (q : ℕ) → (at ≡ q) ⊎ Contains rest.visited q → q < length f.body
          within q (inl e) = subst (λ k. k < length f.body) e (leads_inside at r.1 r.2)
          within q (inr c) = rest.inside q c

          close : (q : ℕ) → (at ≡ q) ⊎ Contains rest.visited q → Near (suc n) q
          close q (inl e) = subst (Near (suc n)) e (suc n, omega arith, r)
          close q (inr c) = let h = rest.near q c in (h.0, omega (arith, h.1), h.2)

  pub live_or_not : (at : ℕ) → Decided (Live f v at)
  live_or_not at = like (λ h. (h.0, h.2)) back (near_or_not (length f.body) at)
    where
      back : Live f v at → Near (length f.body) at
      back (n, r) =
          let s = shortest n at (n, omega arith, r) in
          let p = visits s.steps at s.path s.least in
          let few = length-le_from_distinct_below p.visited (length f.body) p.distinct
          (λ q t. p.inside q ((any_decided q p.visited).0 t)) in
          (s.steps, omega (arith, few, p.count), s.path)
