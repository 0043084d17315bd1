-- The next point at or after another one; and the first use of a variable in a run of instructions, which is exactly one of three.
use Rattle.std.proofs.Common.{◌≡◌, ◌⊎◌, ⊎_elim, inl, inr, ℕ, ◌<◌, ◌≤◌, ◌+◌, ◌-◌, ◌^◌, List, length, get_or, arith, ltb, false}
use Rattle.std.proofs.lemmas.Bool.Decides.{nat_tests}
use Rattle.std.specs.List.{Contains}
use Rattle.std.proofs.lemmas.List.{get_or_default}
use Rattle.std.proofs.lemmas.List.Elements.{Contains-get_or}
use Rattle.rgo_graphs.specs.Rows.{IsAscending}
use Rattle.std.proofs.Common.{zero, suc, [], ◌∷◌, refl, subst}
use Rattle.std.proofs.lemmas.List.Elements.{Contains-push, Contains-push_cases, Contains-append_left, Contains-append_right, Contains-append_cases}
use Rattle.rgo_flow.specs.declared.uses.FirstUse.{FirstUse}
use Rattle.rgo_flow.specs.declared.uses.FirstUse.TheVariants.{Read, Written, Unused}
use Rattle.rgo_flow.specs.Uses.{IsNext, IsFirstUse, IsRead, IsWritten, IsUnused}

pub chosen : (points : List ℕ) (from p : ℕ) → (Contains points p × (from ≤ p)) ⊎ (p ≡ 2 ^ 32 - 1)
    → p + 1 < 2 ^ 32 → Contains points p × (from ≤ p)
chosen points from p w l = ⊎_elim (λ c. c) (λ e. absurd (omega arith)) w

pub value_of : (points : List ℕ) (q : ℕ) (h : Contains points q) → get_or points h.0 0 ≡ q
value_of points q h = let e = get_or_default points h.0 0 q h.1 in omega (arith, e, h.2)

-- the place of the first that is not below
pub next_at : (points : List ℕ) (from at : ℕ) → IsAscending points → at < length points
    → ((k : ℕ) → k < at → get_or points k 0 < from) → from ≤ get_or points at 0
    → IsNext points from (get_or points at 0)
next_at points from at asc l below above = record {
  is = inl (Contains-get_or points at 0 l, above);
  least = λ q h f. ⊎_elim
      (λ b. absurd (omega (arith, below h.0 b, value_of points q h)))
      (λ b. omega (arith, asc at h.0 b h.1, value_of points q h))
      (less_or h.0 at);
}
  where
    less_or : (a b : ℕ) → (a < b) ⊎ (b ≤ a)
    less_or a b = grind arith

pub next_none : (points : List ℕ) (from : ℕ) → ((k : ℕ) → k < length points → get_or points k 0 < from)
    → IsNext points from (2 ^ 32 - 1)
next_none points from below = record {
  is = inr (omega arith);
  least = λ q h f. absurd (omega (arith, below h.0 h.1, value_of points q h));
}

pub not_below : (a b : ℕ) → ltb a b ≡ false → b ≤ a
not_below a b e = grind (arith, nat_tests)

not_nil : (x : ℕ) → Contains [] x → ⊥
not_nil x h = omega (arith, h.1)

-- membership is decided
pub member_or : (xs : List ℕ) (x : ℕ) → Contains xs x ⊎ (Contains xs x → ⊥)
member_or [] x = inr (not_nil x)
member_or (y ∷ ys) x = ⊎_elim
    (λ e. inl (Contains-append_left (y ∷ []) ys x (subst (Contains (y ∷ [])) e (Contains-push [] y))))
    (λ n. ⊎_elim
    (λ m. inl (Contains-append_right (y ∷ []) ys x m))
    (λ m. inr (λ h. ⊎_elim (λ o. n (⊎_elim (λ z. absurd (not_nil x z)) (λ e. e)
    (Contains-push_cases [] y x o))) m (Contains-append_cases (y ∷ []) ys x h)))
    (member_or ys x))
    (eq_or y x)
  where
    eq_or : (p q : ℕ) → (p ≡ q) ⊎ (p ≡ q → ⊥)
    eq_or p q = grind arith

pub data FirstUses (readers writers : List ℕ) (i e : ℕ) : Type 0 where
  is_read : IsRead readers writers i e → FirstUses readers writers i e
  is_written : IsWritten readers writers i e → FirstUses readers writers i e
  is_unused : IsUnused readers writers i e → FirstUses readers writers i e

split_at : (i m : ℕ) → i ≤ m → (m ≡ i) ⊎ (i + 1 ≤ m)
split_at i m l = grind arith

first_use_further : (readers writers : List ℕ) (i e : ℕ) → i ≤ e → (Contains readers i → ⊥)
    → (Contains writers i → ⊥) → FirstUses readers writers (i + 1) e → FirstUses readers writers i e
first_use_further readers writers i e l nr nw (is_read r) = is_read (record {
  at = r.at;
  from = omega (arith, r.from);
  to = r.to;
  read = r.read;
  before = λ m a b w. ⊎_elim (λ q. nw (subst (Contains writers) q w)) (λ q. r.before m q b w) (split_at i m a);
})
first_use_further readers writers i e l nr nw (is_written r) = is_written (record {
  at = r.at;
  from = omega (arith, r.from);
  to = r.to;
  written = r.written;
  before = λ m a b w. ⊎_elim (λ q. nr (subst (Contains readers) q w)) (λ q. r.before m q b w) (split_at i m a);
})
first_use_further readers writers i e l nr nw (is_unused r) = is_unused (record {
  unread = λ m a b w. ⊎_elim (λ q. nr (subst (Contains readers) q w)) (λ q. r.unread m q b w) (split_at i m a);
  unwritten = λ m a b w. ⊎_elim
      (λ q. nw (subst (Contains writers) q w))
      (λ q. r.unwritten m q b w)
      (split_at i m a);
})

first_use_here : (readers writers : List ℕ) (i e : ℕ) → i ≤ e
    → ((Contains readers i → ⊥) → (Contains writers i → ⊥) → FirstUses readers writers i e)
    → FirstUses readers writers i e
first_use_here readers writers i e l further = ⊎_elim
    (λ r. is_read (record {
      at = i;
      from = omega arith;
      to = l;
      read = r;
      before = λ m a b. absurd (omega arith);
    }))
    (λ nr. ⊎_elim
    (λ w. is_written (record {
      at = i;
      from = omega arith;
      to = l;
      written = w;
      before = λ m a b r. let q : m ≡ i = omega arith in nr (subst (Contains readers) q r);
    }))
    (λ nw. further nr nw)
    (member_or writers i))
    (member_or readers i)

first_use_by : (readers writers : List ℕ) (d i e : ℕ) → i + d ≡ e → FirstUses readers writers i e
first_use_by readers writers zero i e q = first_use_here readers writers i e (omega arith)
    (λ nr nw. is_unused (record {
      unread = λ m a b r. let p : m ≡ i = omega arith in nr (subst (Contains readers) p r);
      unwritten = λ m a b r. let p : m ≡ i = omega arith in nw (subst (Contains writers) p r);
    }))
first_use_by readers writers (suc d) i e q = first_use_here readers writers i e (omega arith)
    (λ nr nw. first_use_further readers writers i e (omega arith) nr nw
    (first_use_by readers writers d (i + 1) e (omega arith)))

-- one of the three some_first_use it goes
pub some_first_use : (readers writers : List ℕ) (i e : ℕ) → i ≤ e → FirstUses readers writers i e
some_first_use readers writers i e l = first_use_by readers writers (e - i) i e (omega arith)

-- and no two
pub read_not_written : (readers writers : List ℕ) (i e : ℕ) → IsRead readers writers i e
    → IsWritten readers writers i e → ⊥
read_not_written readers writers i e r w = ⊎_elim
    (λ l. r.before w.at w.from l w.written)
    (λ l. w.before r.at r.from l r.read)
    (less_or_not w.at r.at)
  where
    less_or_not : (a b : ℕ) → (a < b) ⊎ (b ≤ a)
    less_or_not a b = grind arith

pub same_first_use : (readers writers : List ℕ) (i e : ℕ) (a b : FirstUse) → IsFirstUse readers writers i e a
    → IsFirstUse readers writers i e b → a ≡ b
same_first_use readers writers i e Read Read p q = refl
same_first_use readers writers i e Read Written p q = absurd (read_not_written readers writers i e p q)
same_first_use readers writers i e Read Unused p q = absurd (q.unread p.at p.from p.to p.read)
same_first_use readers writers i e Written Read p q = absurd (read_not_written readers writers i e q p)
same_first_use readers writers i e Written Written p q = refl
same_first_use readers writers i e Written Unused p q = absurd (q.unwritten p.at p.from p.to p.written)
same_first_use readers writers i e Unused Read p q = absurd (p.unread q.at q.from q.to q.read)
same_first_use readers writers i e Unused Written p q = absurd (p.unwritten q.at q.from q.to q.written)
same_first_use readers writers i e Unused Unused p q = refl
