-- Searches of a free place: a goroutine exchanges a word of one place after the other until it finds one that is 0. Each place is tried
-- once, at its own moment. A search in vain does not show that all were taken at one moment.
use Rattle.std.specs.Prelude.{◌≡◌, ◌≢◌, ◌≤◌, ◌-◌, ℕ, zero, suc, List, [], ◌∷◌, ◌++◌}
use Rattle.rgo_core.specs.Rule.Histories.{access}
use Rattle.rgo_core.specs.Rule.Views.{Me}
use Rattle.rgo_core.specs.Rule.declared.accesses.Access.{Access}
use Rattle.rgo_core.specs.Rule.declared.accesses.Kind.{Kind}
use Rattle.rgo_core_steps.specs.Grown.{Made}

-- ---- the order

-- n numbers, from `first` on
abbrev pub upward : (first n : ℕ) → List ℕ
upward first zero = []
upward first (suc n) = first ∷ upward (suc first) n

-- all numbers below n, from `start` on and then from 0 on
abbrev pub around : (start n : ℕ) → List ℕ
around start n = upward start (n - start) ++ upward 0 start

-- ---- places that are taken

-- a place whose word was found to be this number, which is not 0
pub record Miss : Type 0 where
  pub place : ℕ
  pub found : ℕ

abbrev pub places_of : List Miss → List ℕ
places_of [] = []
places_of (t ∷ ts) = t.place ∷ places_of ts

abbrev pub AreTaken : List Miss → Type 0
AreTaken [] = Unit {0}
AreTaken (t ∷ ts) = (t.found ≢ 0) × AreTaken ts

-- the exchanges of these places by goroutine g: each failed, and left what it found
abbrev pub misses : Kind → (at : ℕ → ℕ) → List Miss → (g : ℕ) → List Access
misses kind at [] g = []
misses kind at (t ∷ ts) g = access g kind (at t.place) t.found t.found ∷ misses kind at ts g

-- the record after them; `missed` is what one of them does to it
abbrev pub missing : {R : Type 0} → (missed : R → ℕ → R) → R → List Miss → R
missing missed c [] = c
missing missed c (t ∷ ts) = missing missed (missed c t.place) ts

-- ---- what a search leaves. The word of place p has the position `at p`.

module _ {R : Type 0} (accesses : R → ℕ) (blank : R) (kind : Kind) (at : ℕ → ℕ) (missed : R → ℕ → R) where
  -- the goroutine, whose record was c, has tried these places in turn, and each was taken
  pub record Tried (c : R) (places : List ℕ) (m w : Me R) : Type 0 where
    pub tries : List Miss
    pub are : places_of tries ≡ places
    pub taken : AreTaken tries
    pub made : Made accesses blank m (misses kind at tries) (missing missed c tries) w

  -- The same; and then it has found place p free, and has left `new` there. `hit` is what that does to its record.
  pub record TookFreePlace (c : R) (places : List ℕ) (p new : ℕ) (hit : R → R) (m w : Me R) : Type 0 where
    pub tries : List Miss
    pub are : places_of tries ≡ places
    pub taken : AreTaken tries
    pub made : Made accesses blank m (λ g. misses kind at tries g ++ access g kind (at p) 0 new ∷ []) (hit (missing missed c tries)) w

  -- It has tried each of n places once, beginning with any of them. Where it begins is left open, so that the code may choose.
  pub record TriedAll (c : R) (n : ℕ) (m w : Me R) : Type 0 where
    pub start : ℕ
    pub inside : start ≤ n
    pub tried : Tried c (around start n) m w

  -- in this order it has found place p free, before it tried any place twice
  pub record TookOne (c : R) (n p new : ℕ) (hit : R → R) (m w : Me R) : Type 0 where
    pub start : ℕ
    pub inside : start ≤ n
    pub before : List ℕ
    pub after : List ℕ
    pub order : around start n ≡ before ++ p ∷ after
    pub took : TookFreePlace c before p new hit m w
