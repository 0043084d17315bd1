-- What views have seen, when one changes, one is added, or the history is longer. A view that has seen a beginning of a history has
-- seen a beginning of a longer one, so only the view of the seat that acts needs a proof.
use Rattle.std.proofs.Common.{◌≡◌, ℕ, suc, ◌<◌, ◌≤◌, ◌≢◌, List, [], ◌∷◌, ◌++◌, Some, length, set, ap, sym, subst, ◌∙◌, ⊎_elim, arith}
use mathlib.Core.Option.{some}
use mathlib.Core.List.{IsPrefix}
use lib.ListN.{get_elem?}
use Rattle.std.proofs.Math.ListN.{length-set}
use Rattle.atomic_table.proofs.Lists.{at_set}
use Rattle.rgo_core_rule.specs.Histories.{access, glance, accesses_by}
use Rattle.rgo_core_rule.specs.Rule.{Aware}
use Rattle.rgo_core_rule.specs.Views.{HasRow}
use Rattle.rgo_core_rule.specs.declared.accesses.Access.{Access}
use Rattle.rgo_core_rule.specs.declared.accesses.Kind.{Kind}
use Rattle.rgo_core_rule.specs.declared.accesses.View.{View}
use Rattle.rgo_core_rule.proofs.Histories.{by_append, by_own, by_another, by_none, by_nobody, seen_more}
use Rattle.rgo_core_rule.proofs.Lists.{at_below, snoc_at}

module _ {R : Type 0} (accesses : R → ℕ) where
  pub aware_longer : (views : List (View R)) (history : List Access) (a : Access) → Aware accesses views history
      → Aware accesses views (history ++ a ∷ [])
  aware_longer views history a w = record {
    seen = λ id v at. seen_more v.seen history a (w.seen id v at);
    own = w.own;
  }

  pub aware_set : (views : List (View R)) (history : List Access) (id : ℕ) (v : View R) → Aware accesses views history → IsPrefix v.seen history
      → ((g : ℕ) (c : R) → HasRow v.records g c → accesses c ≡ accesses_by g v.seen) → Aware accesses (set views id v) history
  aware_set views history id v old seen own = record {
    seen = λ j u at. ⊎_elim
        (λ (t : (j ≡ id) × (v ≡ u)). subst (λ (y : View R). IsPrefix y.seen history) t.1 seen)
        (λ (t : (j ≢ id) × (get_elem? views j ≡ some u)). old.seen j u t.1)
        (at_set views id j v u at);
    own = λ j u g c at has. ⊎_elim
        (λ (t : (j ≡ id) × (v ≡ u)). subst (λ (y : View R). accesses c ≡ accesses_by g y.seen) t.1 (own g c (subst (λ
        (y : View R). HasRow y.records g c) (sym t.1) has)))
        (λ (t : (j ≢ id) × (get_elem? views j ≡ some u)). old.own j u g c t.1 has)
        (at_set views id j v u at);
  }

  pub aware_snoc : (views : List (View R)) (history : List Access) (v : View R) → Aware accesses views history → IsPrefix v.seen history
      → ((g : ℕ) (c : R) → HasRow v.records g c → accesses c ≡ accesses_by g v.seen) → Aware accesses (views ++ v ∷ []) history
  aware_snoc views history v old seen own = record {
    seen = λ j u at. ⊎_elim
        (λ t. old.seen j u t)
        (λ t. subst (λ (y : View R). IsPrefix y.seen history) t.1 seen)
        (snoc_at views v u j at);
    own = λ j u g c at has. ⊎_elim
        (λ t. old.own j u g c t has)
        (λ t. subst (λ (y : View R). accesses c ≡ accesses_by g y.seen) t.1 (own g c (subst (λ (y : View R). HasRow y.records g c) (sym t.1) has)))
        (snoc_at views v u j at);
  }

  -- ---- what records count

  module _ (recs : List R) (history : List Access) (counted : (h : ℕ) (x : R) → get_elem? recs h ≡ some x → accesses x ≡ accesses_by h history) where
    -- a goroutine that does not exist has made no access
    pub by_new : (n : ℕ) → length recs ≤ n → ((i : ℕ) (a : Access) (g : ℕ) → get_elem? history i ≡ some a → a.by ≡ Some g → g < length recs)
        → accesses_by n history ≡ 0
    by_new n h makers = by_nobody history n (λ i a at is. let m = makers i a n at is in omega arith)

    module _ (g : ℕ) (kind : Kind) (i n x : ℕ) (c d : R) (at : get_elem? recs g ≡ some c) (more : accesses d ≡ suc (accesses c)) where
      abbrev pub longer : List Access
      longer = history ++ access g kind i n x ∷ []

      pub counts_own : accesses d ≡ accesses_by g longer
      counts_own = let b = counted g c at in let a = by_append g history (access g kind i n x ∷ []) in let z = by_own g kind i n x in omega arith

      pub counts_other : (h : ℕ) (y : R) → h ≢ g → get_elem? recs h ≡ some y → accesses y ≡ accesses_by h longer
      counts_other h y ne e = let b = counted h y e in let a = by_append h history (access g kind i n x ∷ []) in let z = by_another g h kind i n x
          (λ q. ne (sym q)) in omega arith

      pub counted_step : (h : ℕ) (y : R) → get_elem? (set recs g d) h ≡ some y → accesses y ≡ accesses_by h longer
      counted_step h y e = ⊎_elim
          (λ (t : (h ≡ g) × (d ≡ y)). rw (t.0, ← t.1) counts_own)
          (λ (t : (h ≢ g) × (get_elem? recs h ≡ some y)). counts_other h y t.0 t.1)
          (at_set recs g h d y e)

      module _ (child : R) (new : accesses child ≡ 0) (makers : (i : ℕ) (a : Access) (g : ℕ) → get_elem? history i ≡ some a → a.by ≡ Some g
          → g < length recs) where
        pub by_child : (k : ℕ) → k ≡ length recs → accesses_by k longer ≡ 0
        by_child k is =
            let b = by_new k (omega arith) makers in
            let a = by_append k history (access g kind i n x ∷ []) in
            let m = at_below recs g c at in
            let z = by_another g k kind i n x (λ q. omega arith) in
            omega arith

        pub counted_child : (h : ℕ) (y : R) → get_elem? (set recs g d ++ child ∷ []) h ≡ some y → accesses y ≡ accesses_by h longer
        counted_child h y e = ⊎_elim
            (λ t. counted_step h y t)
            (λ t. let b = by_child h (t.0 ∙ length-set recs g d) in ap accesses (sym t.1) ∙ (new ∙ sym b))
            (snoc_at (set recs g d) child y h e)

    pub counted_glance : (kind : Kind) (n : ℕ) (h : ℕ) (y : R) → get_elem? recs h ≡ some y
        → accesses y ≡ accesses_by h (history ++ glance kind n ∷ [])
    counted_glance kind n h y e = counted h y e ∙ sym (by_none h history kind n)
