-- What follows from a search in vain for each place: it was tried, since the order goes over all numbers below n.
use Rattle.std.proofs.Common.{◌≡◌, ◌≢◌, ℕ, zero, suc, ◌+◌, ◌-◌, ◌<◌, ◌≤◌, List, [], ◌∷◌, ◌++◌, inl, inr, ⊎_elim, refl, ap, sym, subst, ◌∙◌, arith, length, length-append}
use mathlib.Core.Logic.{◌⊎◌, dite}
use mathlib.Core.Option.{some, some-injective, some-ne-none}
use native.Mathlib.Decide.{ℕ_discrete}
use lib.ListN.{get_elem?}
use Rattle.rgo_core.specs.Rule.Histories.{access, accesses_by}
use Rattle.rgo_core.specs.Rule.Passes.{ChangesNothingBy}
use Rattle.rgo_core.specs.Rule.Views.{Me, number_of}
use Rattle.rgo_core.specs.Rule.declared.accesses.Access.{Access}
use Rattle.rgo_core.specs.Rule.declared.accesses.Kind.{Kind}
use Rattle.rgo_core_steps.specs.Grown.{Found}
use Rattle.rgo_core_steps.specs.Searches.{AreTaken, Miss, TriedAll, around, misses, missing, places_of, upward}
use Rattle.rgo_core_steps.proofs.accesses.Growing.{made_found, made_still, own_count}

-- the number is in the list
abbrev pub Among : ℕ → List ℕ → Type 0
Among s [] = ⊥
Among s (x ∷ xs) = (x ≡ s) ⊎ Among s xs

among_left : (s : ℕ) (xs ys : List ℕ) → Among s xs → Among s (xs ++ ys)
among_left s [] ys a = absurd a
among_left s (x ∷ xs) ys a = ⊎_elim (λ e. inl e) (λ b. inr (among_left s xs ys b)) a

among_right : (s : ℕ) (xs ys : List ℕ) → Among s ys → Among s (xs ++ ys)
among_right s [] ys a = a
among_right s (x ∷ xs) ys a = inr (among_right s xs ys a)

upward_has : (s first n : ℕ) → first ≤ s → s < first + n → Among s (upward first n)
upward_has s first zero low high = absurd (omega arith)
upward_has s first (suc n) low high = dite (ℕ_discrete first s)
    (λ e. inl e)
    (λ ne. inr (upward_has s (suc first) n (omega (arith, ne)) (omega arith)))

order : (a b : ℕ) → (a < b) ⊎ (b ≤ a)
order a b = grind arith

-- a search goes over each place
pub around_has : (s start n : ℕ) → start ≤ n → s < n → Among s (around start n)
around_has s start n inside low = ⊎_elim
    (λ (l : s < start). among_right s (upward start (n - start)) (upward 0 start) (upward_has s 0 start (omega arith) (omega (arith, l))))
    (λ (l : start ≤ s). among_left s (upward start (n - start)) (upward 0 start) (upward_has s start (n - start) l (omega (arith, l))))
    (order s start)

upward_long : (first n : ℕ) → length (upward first n) ≡ n
upward_long first zero = refl
upward_long first (suc n) = ap suc (upward_long (suc first) n)

around_long : (start n : ℕ) → start ≤ n → length (around start n) ≡ n
around_long start n inside =
    let a = length-append (upward start (n - start)) (upward 0 start) in
    let b = upward_long start (n - start) in
    let c = upward_long 0 start in
    omega arith

module _ (kind : Kind) (at : ℕ → ℕ) (g : ℕ) where
  misses_still : (ts : List Miss) (i : ℕ) (x : Access) → get_elem? (misses kind at ts g) i ≡ some x → x.left ≡ x.found
  misses_still [] i x e = absurd (some-ne-none x (sym e))
  misses_still (t ∷ ts) zero x e = subst (λ (y : Access). y.left ≡ y.found) (some-injective (access g kind (at t.place) t.found t.found) x e) refl
  misses_still (t ∷ ts) (suc i) x e = misses_still ts i x e

  misses_long : (ts : List Miss) → length (misses kind at ts g) ≡ length (places_of ts)
  misses_long [] = refl
  misses_long (t ∷ ts) = ap suc (misses_long ts)

  misses_has : (ts : List Miss) (s : ℕ) → AreTaken ts → Among s (places_of ts)
      → (i n : ℕ) × (n ≢ 0) × (get_elem? (misses kind at ts g) i ≡ some (access g kind (at s) n n))
  misses_has [] s taken a = absurd a
  misses_has (t ∷ ts) s taken a = ⊎_elim
      (λ (e : t.place ≡ s). (0, t.found, taken.0, ap (λ p. some (access g kind (at p) t.found t.found)) e))
      (λ (b : Among s (places_of ts)). let r = misses_has ts s taken.1 b in (suc r.0, r.1, r.2, r.3))
      a

module _ {R : Type 0} (accesses : R → ℕ) (blank : R) (kind : Kind) (at : ℕ → ℕ) (missed : R → ℕ → R) (c : R) (n : ℕ) (m w : Me R)
    (t : TriedAll accesses blank kind at missed c n m w) where
  -- each place is among those that were tried
  pub tried_each : (s : ℕ) → s < n → Among s (places_of t.tried.tries)
  tried_each s low = subst (Among s) (sym t.tried.are) (around_has s t.start n t.inside low)

  pub found_each : (s : ℕ) → s < n → (k : ℕ) × (k ≢ 0) × Found (number_of m) t.tried.made.es kind (at s) k
  found_each s low =
      let r = misses_has kind at (number_of m) t.tried.tries s t.tried.taken (tried_each s low) in (
        r.1,
        r.2,
        made_found accesses blank m w (misses kind at t.tried.tries) (missing missed c t.tried.tries) t.tried.made r.0
            (access (number_of m) kind (at s) r.1 r.1) r.3,
      )

  pub tried_still : ChangesNothingBy (number_of m) t.tried.made.es
  tried_still = made_still accesses blank m w (misses kind at t.tried.tries) (missing missed c t.tried.tries) t.tried.made
      (misses_still kind at (number_of m) t.tried.tries)

  pub tried_long : accesses_by (number_of m) t.tried.made.es ≡ n
  tried_long =
      sym (own_count (number_of m) t.tried.made.es)
      ∙ (ap length t.tried.made.own
      ∙ (misses_long kind at (number_of m) t.tried.tries
      ∙ (ap length t.tried.are ∙ around_long t.start n t.inside)))
