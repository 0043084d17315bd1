-- Which seat has which record, after an access and when views are cut and joined. Only the views of the seats that act change. For
-- another view it is enough that it does not have a row of their goroutines, by the old owner.
use Rattle.std.proofs.Common.{◌≡◌, ℕ, ◌<◌, ◌≢◌, ◌⊎◌, ◌==◌, List, [], ◌∷◌, ◌++◌, length, set, if◌then◌else◌, refl, ap, sym, subst, ◌∙◌, inl, inr, ⊎_elim, arith}
use mathlib.Core.Logic.{dite}
use native.Mathlib.Decide.{ℕ_discrete}
use mathlib.Core.Option.{some, some-injective}
use lib.ListN.{get_elem?}
use Rattle.std.proofs.Math.ListN.{length-set}
use Rattle.atomic_table.proofs.Lists.{at_set, set_here, set_else, at_last, at_longer}
use Rattle.rgo_core_rule.specs.Views.{HasRow, Owned, Rows, rows_for, rows_but, view}
use Rattle.rgo_core_rule.specs.declared.accesses.Access.{Access}
use Rattle.rgo_core_rule.specs.declared.accesses.View.{View}
use Rattle.rgo_core_rule.proofs.Lists.{at_below, snoc_at, if_same, if_other}
use Rattle.rgo_core_rule.proofs.Rows.{none, first, here_first, here_later, in_rows_of, in_rows_but, to_rows_of, to_rows_but, in_both, to_left, to_right}

module _ {R : Type 0} where
  -- a view with these rows
  shown : (v : View R) (rows : Rows R) → v.records ≡ rows → (g : ℕ) (c : R) → HasRow v.records g c → HasRow rows g c
  shown v rows is g c has = subst (λ (l : Rows R). HasRow l g c) is has

  pub only_one : (g : ℕ) (c : R) (h : ℕ) (x : R) → HasRow ((g, c) ∷ []) h x → (h ≡ g) × (x ≡ c)
  only_one g c h x has = ⊎_elim (λ t. (sym t.0, sym t.1)) (λ t. absurd (none h x t)) (first (g, c) [] h x has)

  -- ---- a step of the seat `id`, which has the record c of goroutine g

  module _ (views : List (View R)) (recs : List R) (owner : ℕ
      → ℕ) (o : Owned views recs owner) (id g : ℕ) (c : R) (v : View R) (at : get_elem? views id ≡ some v) (one : v.records ≡ (g, c) ∷ []) where
    pub its : (owner g ≡ id) × (get_elem? recs g ≡ some c)
    its = o.here id v g c at (0, ap (λ (rs : Rows R). get_elem? rs 0) one)

    in_recs : g < length recs
    in_recs = at_below recs g c its.1

    in_views : id < length views
    in_views = at_below views id v at

    -- a record of another goroutine is in another view
    elsewhere : (h : ℕ) (x : R) → h ≢ g → get_elem? recs h ≡ some x → owner h ≢ id
    elsewhere h x ne e is =
        let t = o.there h x e in
        let same : t.0 ≡ v = some-injective t.0 v (sym t.1 ∙ (ap (get_elem? views) is ∙ at)) in
        ne (only_one g c h x (subst (λ (l : Rows R). HasRow l h x) (ap (λ (u : View R). u.records) same ∙ one) t.2)).0

    module _ (d : R) (w : View R) where
      pub owned_step : w.records ≡ (g, d) ∷ [] → Owned (set views id w) (set recs g d) owner
      owned_step new = record {
        here = λ j u h x q has. ⊎_elim
            (λ (t : (j ≡ id) × (w ≡ u)).
            let p = only_one g d h x (subst (λ (l : Rows R). HasRow l h x) (ap (λ (y : View R). y.records) (sym t.1) ∙ new) has) in
            (ap owner p.0 ∙ (its.0 ∙ sym t.0), rw (p.0, p.1) (set_here recs g d in_recs)))
            (λ (t : (j ≢ id) × (get_elem? views j ≡ some u)).
            let p = o.here j u h x t.1 has in
            let other : h ≢ g = λ e. t.0 (sym p.0 ∙ (ap owner e ∙ its.0)) in
            (p.0, rw (set_else recs g h d other) p.1))
            (at_set views id j w u q);
        there = λ h x q. ⊎_elim
            (λ (t : (h ≡ g) × (d ≡ x)). (w, rw (t.0, its.0) (set_here views id w in_views), (0, rw (t.0, ← t.1, new) refl)))
            (λ (t : (h ≢ g) × (get_elem? recs h ≡ some x)).
            let p = o.there h x t.1 in
            (p.0, rw (set_else views id (owner h) w (elsewhere h x t.0 t.1)) p.1, p.2))
            (at_set recs g h d x q);
      }

      -- the same if goroutine n begins, with the record `child`
      pub owned_child : (n : ℕ) (child : R) → n ≡ length recs → w.records ≡ (g, d) ∷ (n, child) ∷ []
          → Owned (set views id w) (set recs g d ++ child ∷ []) (λ h. if h == n then id else owner h)
      owned_child n child is new = record {
        here = λ j u h x q has. ⊎_elim
            (λ (t : (j ≡ id) × (w ≡ u)). ⊎_elim
            (λ z. (if_other h n id (owner h) (λ e. old_g (z.0 ∙ e)) ∙ (ap owner (sym z.0) ∙ (its.0 ∙ sym t.0)), rw (← z.0, ← z.1) at_g))
            (λ z. (if_same h n id (owner h) (sym z.0) ∙ sym t.0, rw (← z.0, ← z.1) at_n))
            (two h x (subst (λ (y : View R). HasRow y.records h x) (sym t.1) has)))
            (λ (t : (j ≢ id) × (get_elem? views j ≡ some u)).
            let p = o.here j u h x t.1 has in
            let other : h ≢ g = λ e. t.0 (sym p.0 ∙ (ap owner e ∙ its.0)) in
            (if_other h n id (owner h) (old h x p.1) ∙ p.0, at_longer (set recs g d) (child ∷ []) h x (set_else recs g h d other ∙ p.1)))
            (at_set views id j w u q);
        there = λ h x q. ⊎_elim
            (λ (t : get_elem? (set recs g d) h ≡ some x). ⊎_elim
            (λ (u : (h ≡ g) × (d ≡ x)). (
              w,
              goes h (if_other h n id (owner h) (λ e. old_g (sym u.0 ∙ e)) ∙ (ap owner u.0
                  ∙ its.0)),
              rw new (here_first (g, d) ((n, child) ∷ []) h x (sym u.0) u.1),
            ))
            (λ (u : (h ≢ g) × (get_elem? recs h ≡ some x)).
            let p = o.there h x u.1 in (
              p.0,
              subst (λ (y : ℕ). get_elem? (set views id w) y ≡ some p.0) (sym (if_other h n id (owner h) (old h x u.1))) (set_else views id
                  (owner h) w (elsewhere h x u.0 u.1) ∙ p.1),
              p.2,
            ))
            (at_set recs g h d x t))
            (λ (t : (h ≡ length (set recs g d)) × (child ≡ x)).
            let is_n : h ≡ n = t.0 ∙ long in (
              w,
              goes h (if_same h n id (owner h) is_n),
              rw new (here_later (g, d) ((n, child) ∷ []) h x (here_first (n, child) [] h x
                  (sym is_n) t.1)),
            ))
            (snoc_at (set recs g d) child x h q);
      }
        where
          long : length (set recs g d) ≡ n
          long = length-set recs g d ∙ sym is

          old_g : g ≢ n
          old_g e = let h = in_recs in omega arith

          old : (h : ℕ) (x : R) → get_elem? recs h ≡ some x → h ≢ n
          old h x e q = let b = at_below recs h x e in omega arith

          at_g : get_elem? (set recs g d ++ child ∷ []) g ≡ some d
          at_g = at_longer (set recs g d) (child ∷ []) g d (set_here recs g d in_recs)

          at_n : get_elem? (set recs g d ++ child ∷ []) n ≡ some child
          at_n = at_last (set recs g d) child n long

          goes : (h : ℕ) → (if h == n then id else owner h) ≡ id → get_elem? (set views id w) (if h == n then id else owner h) ≡ some w
          goes h e = subst (λ (y : ℕ). get_elem? (set views id w) y ≡ some w) (sym e) (set_here views id w in_views)

          two : (h : ℕ) (x : R) → HasRow w.records h x → ((g ≡ h) × (d ≡ x)) ⊎ ((n ≡ h) × (child ≡ x))
          two h x has = ⊎_elim (λ t. inl t) (λ t. ⊎_elim (λ u. inr u) (λ u. absurd (none h x u)) (first (n, child) [] h x t)) (first (g, d)
              ((n, child) ∷ []) h x (subst (λ (l : Rows R). HasRow l h x) new has))

  -- ---- a view that has the same records and has seen more

  pub owned_same : (views : List (View R)) (recs : List R) (owner : ℕ → ℕ) → Owned views recs owner → (id : ℕ) (v w : View R)
      → get_elem? views id ≡ some v → w.records ≡ v.records → Owned (set views id w) recs owner
  owned_same views recs owner o id v w at same = record {
    here = λ j u h x q has. ⊎_elim
        (λ (t : (j ≡ id) × (w ≡ u)). let p = o.here id v h x at (subst (λ (l : Rows R). HasRow l h x) (ap (λ (y : View R). y.records) (sym t.1)
        ∙ same) has) in (p.0 ∙ sym t.0, p.1))
        (λ (t : (j ≢ id) × (get_elem? views j ≡ some u)). o.here j u h x t.1 has)
        (at_set views id j w u q);
    there = λ h x q. let p = o.there h x q in dite (ℕ_discrete (owner h) id)
        (λ e.
        let was : p.0 ≡ v = some-injective p.0 v (sym p.1 ∙ (ap (get_elem? views) e ∙ at)) in (
          w,
          rw e (set_here views id w (at_below views id v at)),
          subst (λ (l : Rows R). HasRow l h x) (ap (λ (y : View R). y.records) was
              ∙ sym same) p.2,
        ))
        (λ ne. (p.0, set_else views id (owner h) w ne ∙ p.1, p.2));
  }

  -- ---- a new seat with no record

  pub owned_empty : (views : List (View R)) (recs : List R) (owner : ℕ → ℕ) → Owned views recs owner → (seen : List Access)
      → Owned (views ++ view [] seen ∷ []) recs owner
  owned_empty views recs owner o seen = record {
    here = λ j u h x q has. ⊎_elim
        (λ t. o.here j u h x t has)
        (λ t. absurd (none h x (subst (λ (y : View R). HasRow y.records h x) (sym t.1) has)))
        (snoc_at views (view [] seen) u j q);
    there = λ h x q. let p = o.there h x q in (p.0, at_longer views (view [] seen ∷ []) (owner h) p.0 p.1, p.2);
  }

  -- ---- the record of goroutine g goes to a new seat

  module _ (views : List (View R)) (recs : List R) (owner : ℕ
      → ℕ) (o : Owned views recs owner) (id : ℕ) (v : View R) (at : get_elem? views id ≡ some v) (g : ℕ) (c : R) (has_g : HasRow v.records g c)
      (seen : List Access) where
    abbrev left : View R
    left = view (rows_but g v.records) seen

    abbrev right : View R
    right = view (rows_for g v.records) seen

    abbrev split_views : List (View R)
    split_views = set views id left ++ right ∷ []

    abbrev pub owner_split : ℕ → ℕ
    owner_split h = if h == g then length views else owner h

    pub owned_split : Owned split_views recs owner_split
    owned_split = record {
      here = λ j u h x q has. ⊎_elim
          (λ (s : get_elem? (set views id left) j ≡ some u). ⊎_elim
          (λ (t : (j ≡ id) × (left ≡ u)).
          let z = in_rows_but g v.records h x (subst (λ (y : View R). HasRow y.records h x) (sym t.1) has) in
          let p = o.here id v h x at z.1 in
          (if_other h g (length views) (owner h) z.0 ∙ (p.0 ∙ sym t.0), p.1))
          (λ (t : (j ≢ id) × (get_elem? views j ≡ some u)).
          let p = o.here j u h x t.1 has in
          (if_other h g (length views) (owner h) (λ e. t.0 (sym p.0 ∙ (ap owner e ∙ mine.0))) ∙ p.0, p.1))
          (at_set views id j left u s))
          (λ (t : (j ≡ length (set views id left)) × (right ≡ u)).
          let z = in_rows_of g v.records h x (subst (λ (y : View R). HasRow y.records h x) (sym t.1) has) in
          let p = o.here id v h x at z.1 in
          (if_same h g (length views) (owner h) z.0 ∙ sym (t.0 ∙ long), p.1))
          (snoc_at (set views id left) right u j q);
      there = λ h x q. let p = o.there h x q in dite (ℕ_discrete h g)
          (λ e.
          let same : p.0 ≡ v = some-injective p.0 v (sym p.1 ∙ (ap (get_elem? views) (ap owner e ∙ mine.0) ∙ at)) in (
            right,
            subst (λ (k : ℕ). get_elem? split_views k ≡ some right) (sym (if_same h g (length views) (owner h) e)) (at_last
                (set views id left) right (length views) long),
            subst (λ (k : ℕ). HasRow (rows_for g v.records) k x) (sym e) (to_rows_of g v.records x (subst (λ (k : ℕ). HasRow v.records k x) e (subst (λ
                (y : View R). HasRow y.records h x) same p.2))),
          ))
          (λ ne. dite (ℕ_discrete (owner h) id)
          (λ e.
          let same : p.0 ≡ v = some-injective p.0 v (sym p.1 ∙ (ap (get_elem? views) e ∙ at)) in (
            left,
            subst (λ (k : ℕ). get_elem? split_views k ≡ some left) (sym (if_other h g (length views) (owner h) ne
                ∙ e)) (at_longer (set views id left) (right ∷ []) id left (set_here views id left (at_below views id v at))),
            to_rows_but g v.records h x ne (subst (λ (y : View R). HasRow y.records h x) same p.2),
          ))
          (λ other. (
            p.0,
            subst (λ (k : ℕ). get_elem? split_views k ≡ some p.0) (sym (if_other h g (length views) (owner h) ne)) (at_longer (set views id left)
                (right ∷ []) (owner h) p.0 (set_else views id (owner h) left other ∙ p.1)),
            p.2,
          )));
    }
      where
        mine : (owner g ≡ id) × (get_elem? recs g ≡ some c)
        mine = o.here id v g c at has_g

        long : length (set views id left) ≡ length views
        long = length-set views id left

  -- ---- all records of one seat go to another

  module _ (views : List (View R)) (recs : List R) (owner : ℕ
      → ℕ) (o : Owned views recs owner) (id : ℕ) (v : View R) (at : get_elem? views id ≡ some v) (other : ℕ) (w : View R) (ne : other ≢ id)
      (at_other : get_elem? views other ≡ some w) (seen seen_spent : List Access) where
    abbrev both : View R
    both = view (v.records ++ w.records) seen

    abbrev spent : View R
    spent = view [] seen_spent

    abbrev joined_views : List (View R)
    joined_views = set (set views id both) other spent

    abbrev pub owner_joined : ℕ → ℕ
    owner_joined h = if owner h == other then id else owner h

    pub owned_joined : Owned joined_views recs owner_joined
    owned_joined = record {
      here = λ j u h x q has. ⊎_elim
          (λ (t : (j ≡ other) × (spent ≡ u)). absurd (none h x (subst (λ (y : View R). HasRow y.records h x) (sym t.1) has)))
          (λ (s : (j ≢ other) × (get_elem? (set views id both) j ≡ some u)). ⊎_elim
          (λ (t : (j ≡ id) × (both ≡ u)). ⊎_elim
          (λ z. let p = o.here id v h x at z in (if_other (owner h) other id (owner h) (λ e. ne (sym e ∙ p.0)) ∙ (p.0 ∙ sym t.0), p.1))
          (λ z. let p = o.here other w h x at_other z in (if_same (owner h) other id (owner h) p.0 ∙ sym t.0, p.1))
          (in_both v.records w.records h x (subst (λ (y : View R). HasRow y.records h x) (sym t.1) has)))
          (λ (t : (j ≢ id) × (get_elem? views j ≡ some u)). let p = o.here j u h x t.1 has in (
            if_other (owner h) other id (owner h) (λ e. s.0
                (sym p.0 ∙ e)) ∙ p.0,
            p.1,
          ))
          (at_set views id j both u s.1))
          (at_set (set views id both) other j spent u q);
      there = λ h x q. let p = o.there h x q in dite (ℕ_discrete (owner h) other)
          (λ e.
          let same : p.0 ≡ w = some-injective p.0 w (sym p.1 ∙ (ap (get_elem? views) e ∙ at_other)) in (
            both,
            subst (λ (k : ℕ). get_elem? joined_views k ≡ some both) (sym (if_same (owner h) other id (owner h) e)) (set_else
                (set views id both) other id spent (λ y. ne (sym y)) ∙ set_here views id both (at_below views id v at)),
            to_right v.records w.records h x (subst (λ (y : View R). HasRow y.records h x) same p.2),
          ))
          (λ n. dite (ℕ_discrete (owner h) id)
          (λ e.
          let same : p.0 ≡ v = some-injective p.0 v (sym p.1 ∙ (ap (get_elem? views) e ∙ at)) in (
            both,
            subst (λ (k : ℕ). get_elem? joined_views k ≡ some both) (sym (if_other (owner h) other id (owner h) n
                ∙ e)) (set_else (set views id both) other id spent (λ y. ne (sym y)) ∙ set_here views id both (at_below views id v at)),
            to_left v.records w.records h x (subst (λ (y : View R). HasRow y.records h x) same p.2),
          ))
          (λ m. (
            p.0,
            subst (λ (k : ℕ). get_elem? joined_views k ≡ some p.0) (sym (if_other (owner h) other id (owner h) n)) (set_else
                (set views id both) other (owner h) spent n ∙ (set_else views id (owner h) both m ∙ p.1)),
            p.2,
          )));
    }
