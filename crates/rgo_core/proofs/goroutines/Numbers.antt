-- Numbers of goroutines after a draw, and after any other step. Below the limit the number found is the length of the list, so the new
-- goroutine gets its own position. At the limit it is not, and the record remembers the refusal.
use Rattle.std.proofs.Common.{◌≡◌, ◌≢◌, ℕ, suc, ◌+◌, ◌<◌, ◌≤◌, ◌==◌, true, false, List, [], ◌∷◌, ◌++◌, length, Some, slice_get, slice_set, sum_by, count_by, ap, sym, subst, ◌∙◌, ⊎_elim, arith, length-append}
use Rattle.std.proofs.lemmas.List.Sums.{count_by-le-length, sum_by_push}
use mathlib.Core.Logic.{dite}
use native.Mathlib.Decide.{ℕ_discrete}
use Rattle.rgo_core_memory.proofs.Rows.{at_set, below}
use Rattle.rgo_sound.proofs.Places.{get_snoc, length_set}
use Rattle.rgo_core.specs.ties.Numbers.{Numbers, has_child, was_refused}
use Rattle.rgo_core.specs.Records.{ClockRec}
use Rattle.rgo_core.proofs.Lists.{cond_other, cond_same, count_first, one_if, sum_same, sum_set}

-- how far the number in the word may be
pub drawn_low : (limit drawn : ℕ) (recs : List ClockRec) → Numbers limit drawn recs → drawn ≤ limit + length recs
drawn_low limit drawn recs k = let d = k.draws in let c = count_by-le-length was_refused recs in omega arith

abbrev refusals : ClockRec → ℕ
refusals c = one_if c.refused

module _ (limit drawn : ℕ) (recs : List ClockRec) (k : Numbers limit drawn recs) (g : ℕ) (c d : ClockRec) (at : slice_get recs g ≡ Some c) where
  -- a step that draws no number
  pub numbers_same : d.children ≡ c.children → d.refused ≡ c.refused → Numbers limit drawn (slice_set recs g d)
  numbers_same children refused =
      let l = length_set recs g d in
      let same : (h : ℕ) → sum_by (has_child h) (slice_set recs g d) ≡ sum_by (has_child h) recs = λ h.
      sum_same (has_child h) recs g c d at (ap (count_by (λ n. n == h)) children) in
      record {
        low = λ h. let z = k.low h in omega arith;
        high = λ h. let z = k.high h in omega arith;
        draws = let z = k.draws in let s : count_by was_refused (slice_set recs g d) ≡ count_by was_refused recs =
            sum_same refusals recs g c d at (ap one_if refused) in omega arith;
        full = λ h y e r. ⊎_elim
            (λ (t : (h ≡ g) × (d ≡ y)). k.full g c at (sym refused ∙ (ap (λ (u : ClockRec). u.refused) t.1 ∙ r)))
            (λ (t : (h ≢ g) × (slice_get recs h ≡ Some y)). k.full h y t.1 r)
            (at_set recs g h d y e);
        none = λ h q. same h ∙ k.none h (omega arith);
        first = same 0 ∙ k.first;
        one = λ h p q. same h ∙ k.one h p (omega arith);
        smaller = λ j h y e p. ⊎_elim
            (λ (t : (j ≡ g) × (d ≡ y)).
            let w : 0 < has_child h c = subst (λ (l : List ℕ). 0 < count_by (λ n. n == h) l) (ap (λ (u : ClockRec). u.children) (sym t.1) ∙ children) p in
            let q = k.smaller g h c at w in let i = t.0 in omega arith)
            (λ (t : (j ≢ g) × (slice_get recs j ≡ Some y)). k.smaller j h y t.1 p)
            (at_set recs g j d y e);
      }

  -- at the limit or above: a refusal, and the record had none
  pub numbers_refused : limit ≤ drawn → c.refused ≡ false → d.children ≡ c.children → d.refused ≡ true
      → Numbers limit (suc drawn) (slice_set recs g d)
  numbers_refused le never children now =
      let l = length_set recs g d in
      let same : (h : ℕ) → sum_by (has_child h) (slice_set recs g d) ≡ sum_by (has_child h) recs = λ h.
      sum_same (has_child h) recs g c d at (ap (count_by (λ n. n == h)) children) in
      record {
        low = λ h. absurd (omega arith);
        high = λ h. let z = k.high le in omega arith;
        draws =
            let b = sum_set refusals recs g c d at in
            let old : refusals c ≡ 0 = ap one_if never in
            let new : refusals d ≡ 1 = ap one_if now in
            let z = k.draws in
            omega arith;
        full = λ h y e r. omega arith;
        none = λ h q. same h ∙ k.none h (omega arith);
        first = same 0 ∙ k.first;
        one = λ h p q. same h ∙ k.one h p (omega arith);
        smaller = λ j h y e p. ⊎_elim
            (λ (t : (j ≡ g) × (d ≡ y)).
            let w : 0 < has_child h c = subst (λ (l : List ℕ). 0 < count_by (λ n. n == h) l) (ap (λ (u : ClockRec). u.children) (sym t.1) ∙ children) p in
            let q = k.smaller g h c at w in let i = t.0 in omega arith)
            (λ (t : (j ≢ g) × (slice_get recs j ≡ Some y)). k.smaller j h y t.1 p)
            (at_set recs g j d y e);
      }

  -- below the limit: the number found is that of a new goroutine
  module _ (child : ClockRec) (no_children : child.children ≡ []) (no_refusal : child.refused ≡ false)
      (children : d.children ≡ drawn ∷ c.children) (refused : d.refused ≡ c.refused) (low : drawn < limit) where
    abbrev after : List ClockRec
    after = slice_set recs g d ++ child ∷ []

    as_many : drawn ≡ length recs
    as_many = sym (k.low (omega arith))

    count : (h : ℕ) → sum_by (has_child h) after ≡ sum_by (has_child h) recs + one_if (drawn == h)
    count h =
        let a = sum_by_push (has_child h) (slice_set recs g d) child in
        let b = sum_set (has_child h) recs g c d at in
        let z : has_child h child ≡ 0 = ap (count_by (λ n. n == h)) no_children in
        let e : has_child h d ≡ one_if (drawn == h) + has_child h c = ap (count_by (λ n. n == h)) children ∙ count_first (λ n. n == h) drawn c.children in
        omega arith

    same : (h : ℕ) → h ≢ drawn → sum_by (has_child h) after ≡ sum_by (has_child h) recs
    same h ne = let a = count h in let t = cond_other drawn h (λ q. ne (sym q)) in omega arith

    pub numbers_child : (drawn ≡ length recs) × Numbers limit (suc drawn) after
    numbers_child =
        let is = as_many in
        let mine = below recs g c at in
        let l1 = length-append (slice_set recs g d) (child ∷ []) in
        let l2 = length_set recs g d in (
          is,
          record {
            low = λ h. omega arith;
            high = λ h. omega arith;
            draws = omega arith;
            full = λ h y e r. ⊎_elim
                (λ t. ⊎_elim
                (λ (u : (h ≡ g) × (d ≡ y)). let z = k.full g c at (sym refused ∙ (ap (λ (x : ClockRec). x.refused) u.1 ∙ r)) in omega arith)
                (λ (u : (h ≢ g) × (slice_get recs h ≡ Some y)). let z = k.full h y u.1 r in omega arith)
                (at_set recs g h d y t))
                (λ (t : (h ≡ length (slice_set recs g d)) × (y ≡ child)). absurd (not_both (sym no_refusal ∙ (ap (λ (x : ClockRec). x.refused) (sym t.1) ∙ r))))
                (get_snoc (slice_set recs g d) child h y e);
            none = λ h le. same h (λ q. omega arith) ∙ k.none h (omega arith);
            first = same 0 (λ q. omega arith) ∙ k.first;
            one = λ h p q. dite (ℕ_discrete h drawn)
                (λ e. let a = count h in let t = cond_same drawn h (sym e) in let z = k.none h (omega arith) in omega arith)
                (λ ne. same h ne ∙ k.one h p (omega arith));
            smaller = λ j h y e p. ⊎_elim
                (λ t. ⊎_elim
                (λ (u : (j ≡ g) × (d ≡ y)). parent j h y u.0 (sym u.1) p)
                (λ (u : (j ≢ g) × (slice_get recs j ≡ Some y)). k.smaller j h y u.1 p)
                (at_set recs g j d y t))
                (λ (t : (j ≡ length (slice_set recs g d)) × (y ≡ child)).
                let w : has_child h y ≡ 0 = ap (count_by (λ n. n == h)) (ap (λ (x : ClockRec). x.children) t.1 ∙ no_children) in absurd (omega arith))
                (get_snoc (slice_set recs g d) child j y e);
          },
        )
      where
        not_both : false ≡ true → ⊥
        not_both e = cc e

        parent : (j h : ℕ) (y : ClockRec) → j ≡ g → y ≡ d → 0 < has_child h y → j < h
        parent j h y is q p =
            let e : has_child h y ≡ one_if (drawn == h) + has_child h c = ap (count_by (λ n. n == h)) (ap (λ (x : ClockRec). x.children) q ∙ children) ∙ count_first (λ n. n == h) drawn c.children in
            let m = as_many in
            let mine = below recs g c at in
            dite (ℕ_discrete drawn h)
            (λ f. omega arith)
            (λ ne. let t = cond_other drawn h ne in let s = k.smaller g h c at (omega arith) in omega arith)
