-- The rows of a view: what is in a list of rows, and in what a cut leaves of it.
use Rattle.std.proofs.Common.{◌≡◌, ℕ, zero, suc, ◌≢◌, ◌<◌, ◌⊎◌, ◌==◌, Bool, true, false, [], ◌∷◌, ◌++◌, if◌then◌else◌, refl, ap, sym, subst, ◌∙◌, inl, inr, ⊎_elim, arith}
use mathlib.Core.Logic.{dite}
use native.Mathlib.Decide.{ℕ_discrete}
use mathlib.Core.Option.{some, some-injective, some-ne-none}
use lib.ListN.{get_elem?}
use Rattle.std.proofs.lemmas.Bool.Decides.{nat_tests}
use Rattle.rgo_core_rule.specs.Views.{Rows, HasRow, rows_for, rows_but}

module _ {R : Type 0} where
  pub none : (h : ℕ) (x : R) → HasRow [] h x → ⊥
  none h x has = let r : ℕ × R = (h, x) in some-ne-none r (sym has.1)

  pub first : (r : ℕ × R) (rs : Rows R) (h : ℕ) (x : R) → HasRow (r ∷ rs) h x → ((r.0 ≡ h) × (r.1 ≡ x)) ⊎ HasRow rs h x
  first r rs h x has = go has.0 has.1
    where
      go : (k : ℕ) → get_elem? {A = ℕ × R} (r ∷ rs) k ≡ some (h, x) → ((r.0 ≡ h) × (r.1 ≡ x)) ⊎ HasRow rs h x
      go zero e = let q : ℕ × R = (h, x) in let p : r ≡ q = some-injective r q e in inl (ap (λ (z : ℕ × R). z.0) p, ap (λ (z : ℕ × R). z.1) p)
      go (suc k) e = inr (k, e)

  pub here_first : (r : ℕ × R) (rs : Rows R) (h : ℕ) (x : R) → r.0 ≡ h → r.1 ≡ x → HasRow (r ∷ rs) h x
  here_first r rs h x e e' = (0, ap (λ (z : ℕ × R). some z) (λ i. (e i, e' i)))

  pub here_later : (r : ℕ × R) (rs : Rows R) (h : ℕ) (x : R) → HasRow rs h x → HasRow (r ∷ rs) h x
  here_later r rs h x has = (suc has.0, has.1)

  pub picks : (g : ℕ) (r : ℕ × R) (rs : Rows R) → r.0 ≡ g → (rows_for g (r ∷ rs) ≡ r ∷ rows_for g rs) × (rows_but g (r ∷ rs) ≡ rows_but g rs)
  picks g r rs e = (yes (r.0 == g) (grind (arith, nat_tests)), no (r.0 == g) (grind (arith, nat_tests)))
    where
      yes : (b : Bool) → b ≡ true → (if b then r ∷ rows_for g rs else rows_for g rs) ≡ r ∷ rows_for g rs
      yes b e = rw e refl

      no : (b : Bool) → b ≡ true → (if b then rows_but g rs else r ∷ rows_but g rs) ≡ rows_but g rs
      no b e = rw e refl

  pub skips : (g : ℕ) (r : ℕ × R) (rs : Rows R) → r.0 ≢ g → (rows_for g (r ∷ rs) ≡ rows_for g rs) × (rows_but g (r ∷ rs) ≡ r ∷ rows_but g rs)
  skips g r rs e = (yes (r.0 == g) (grind (arith, nat_tests)), no (r.0 == g) (grind (arith, nat_tests)))
    where
      yes : (b : Bool) → b ≡ false → (if b then r ∷ rows_for g rs else rows_for g rs) ≡ rows_for g rs
      yes b e = rw e refl

      no : (b : Bool) → b ≡ false → (if b then rows_but g rs else r ∷ rows_but g rs) ≡ r ∷ rows_but g rs
      no b e = rw e refl

  pub in_rows_of : (g : ℕ) (rs : Rows R) (h : ℕ) (x : R) → HasRow (rows_for g rs) h x → (h ≡ g) × HasRow rs h x
  in_rows_of g [] h x has = absurd (none h x has)
  in_rows_of g (r ∷ rs) h x has = dite (ℕ_discrete r.0 g)
      (λ e. ⊎_elim (λ t. (
        sym t.0
            ∙ e,
        here_first r rs h x t.0 t.1,
      )) (λ t. let q = in_rows_of g rs h x t in (q.0, here_later r rs h x q.1)) (first r (rows_for g rs) h x
      (subst (λ (l : Rows R). HasRow l h x) (picks g r rs e).0 has)))
      (λ ne. let q = in_rows_of g rs h x (subst (λ (l : Rows R). HasRow l h x) (skips g r rs ne).0 has) in (q.0, here_later r rs h x q.1))

  pub in_rows_but : (g : ℕ) (rs : Rows R) (h : ℕ) (x : R) → HasRow (rows_but g rs) h x → (h ≢ g) × HasRow rs h x
  in_rows_but g [] h x has = absurd (none h x has)
  in_rows_but g (r ∷ rs) h x has = dite (ℕ_discrete r.0 g)
      (λ e. let q = in_rows_but g rs h x (subst (λ (l : Rows R). HasRow l h x) (picks g r rs e).1 has) in (q.0, here_later r rs h x q.1))
      (λ ne. ⊎_elim (λ t. (
        (λ e. ne (t.0
            ∙ e)),
        here_first r rs h x t.0 t.1,
      )) (λ t. let q = in_rows_but g rs h x t in (q.0, here_later r rs h x q.1)) (first r (rows_but g rs) h x
      (subst (λ (l : Rows R). HasRow l h x) (skips g r rs ne).1 has)))

  pub to_rows_of : (g : ℕ) (rs : Rows R) (x : R) → HasRow rs g x → HasRow (rows_for g rs) g x
  to_rows_of g [] x has = has
  to_rows_of g (r ∷ rs) x has = dite (ℕ_discrete r.0 g)
      (λ e. subst (λ (l : Rows R). HasRow l g x) (sym (picks g r rs e).0) (⊎_elim (λ t. here_first r (rows_for g rs) g x t.0 t.1) (λ t. here_later r
      (rows_for g rs) g x (to_rows_of g rs x t)) (first r rs g x has)))
      (λ ne. subst (λ (l : Rows R). HasRow l g x) (sym (skips g r rs ne).0) (⊎_elim (λ t. absurd (ne t.0)) (λ t. to_rows_of g rs x t)
      (first r rs g x has)))

  pub to_rows_but : (g : ℕ) (rs : Rows R) (h : ℕ) (x : R) → h ≢ g → HasRow rs h x → HasRow (rows_but g rs) h x
  to_rows_but g [] h x n has = has
  to_rows_but g (r ∷ rs) h x n has = dite (ℕ_discrete r.0 g)
      (λ e. subst (λ (l : Rows R). HasRow l h x) (sym (picks g r rs e).1) (⊎_elim (λ t. absurd (n (sym t.0
      ∙ e))) (λ t. to_rows_but g rs h x n t) (first r rs h x has)))
      (λ ne. subst (λ (l : Rows R). HasRow l h x) (sym (skips g r rs ne).1) (⊎_elim (λ t. here_first r (rows_but g rs) h x t.0 t.1) (λ t. here_later r
      (rows_but g rs) h x (to_rows_but g rs h x n t)) (first r rs h x has)))

  pub in_both : (xs ys : Rows R) (h : ℕ) (x : R) → HasRow (xs ++ ys) h x → HasRow xs h x ⊎ HasRow ys h x
  in_both [] ys h x has = inr has
  in_both (r ∷ xs) ys h x has = ⊎_elim (λ t. inl (here_first r xs h x t.0 t.1)) (λ t. ⊎_elim (λ u. inl (here_later r xs h x u)) (λ u. inr u)
      (in_both xs ys h x t)) (first r (xs ++ ys) h x has)

  pub to_left : (xs ys : Rows R) (h : ℕ) (x : R) → HasRow xs h x → HasRow (xs ++ ys) h x
  to_left [] ys h x has = absurd (none h x has)
  to_left (r ∷ xs) ys h x has = ⊎_elim (λ t. here_first r (xs ++ ys) h x t.0 t.1) (λ t. here_later r (xs ++ ys) h x (to_left xs ys h x t))
      (first r xs h x has)

  pub to_right : (xs ys : Rows R) (h : ℕ) (x : R) → HasRow ys h x → HasRow (xs ++ ys) h x
  to_right [] ys h x has = has
  to_right (r ∷ xs) ys h x has = here_later r (xs ++ ys) h x (to_right xs ys h x has)

  -- the rows of a goroutine that has just started, and those of the one that started it
  pub two_rows : (g n : ℕ) (c d : R) → g < n → (rows_for n ((g, c) ∷ (n, d) ∷ []) ≡ (n, d) ∷ []) × (rows_but n ((g, c) ∷ (n, d) ∷ []) ≡ (g, c) ∷ [])
  two_rows g n c d h =
      let one = skips n (g, c) ((n, d) ∷ []) (λ e. omega arith) in
      let two = picks n (n, d) [] refl in
      (one.0 ∙ two.0, one.1 ∙ ap (λ (l : Rows R). (g, c) ∷ l) two.1)
