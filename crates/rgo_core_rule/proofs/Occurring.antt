-- The record after an access, or after a change without one, is possible. The law has this already: it leads to an explained table
-- that has the record. It has to be kept with what the access tells (`Also`), since afterwards that table is gone.
use Rattle.std.proofs.Common.{◌⊎◌, ℕ, List, [], ◌∷◌, ◌++◌, set, inl, inr, ⊎_elim, ap, sym, subst, ◌∙◌}
use Rattle.std.proofs.Math.ListN.{length-set}
use Rattle.atomic_table.proofs.Lists.{at_last, at_longer, set_here}
use Rattle.rgo_core_rule.specs.Steps.{Move, MoveEither, Occurs, Still, Told, ToldChild}
use Rattle.rgo_core_rule.specs.Views.{HasRow, Me, Rows, number_in, number_of, record_in, record_of}
use Rattle.rgo_core_rule.specs.declared.accesses.Kind.{Kind}
use Rattle.rgo_core_rule.proofs.Lists.{at_below}
use Rattle.rgo_core_rule.proofs.Rows.{first, none}

module _ {E R : Type 0} (accesses : R → ℕ) (Explains : List ℕ → List R → List E → Type 0) where
  -- what holds after every access: this, and that the record after it is possible
  abbrev pub Also : ℕ → (ℕ → R → Type 0) → ℕ → R → Type 0
  Also g tells n d = tells n d × Occurs Explains g d

  -- the same of one that has started goroutine n
  abbrev pub AlsoBoth : ℕ → (ℕ → R → R → Type 0) → ℕ → R → R → Type 0
  AlsoBoth g tells n d e = tells n d e × Occurs Explains g d × Occurs Explains n e

  pub still_occurs : (g : ℕ) (c d : R) → Still accesses Explains g c d → Occurs Explains g c → Occurs Explains g d
  still_occurs g c d still o =
      let r = still o.words o.recs o.run o.explains o.its in
      record {
        words = o.words;
        recs = set o.recs g d;
        run = o.run ++ r.0;
        explains = r.1;
        its = set_here o.recs g d (at_below o.recs g c o.its);
      }

  pub also : (g : ℕ) (c : R) (i : ℕ) (f : ℕ → ℕ) (tells : ℕ → R → Type 0) → Move accesses Explains g c i f tells
      → Move accesses Explains g c i f (Also g tells)
  also g c i f tells move words recs run explains at small =
      let m = move words recs run explains at small in
      record {
        after = m.after;
        gain = m.gain;
        explains = m.explains;
        counts = m.counts;
        tells_so = (
          m.tells_so,
          record {
            words = _;
            recs = set recs g m.after;
            run = run ++ m.gain;
            explains = m.explains;
            its = set_here recs g m.after (at_below recs g c at);
          },
        );
      }

  pub also_either : (g : ℕ) (c : R) (i : ℕ) (f : ℕ → ℕ) (tells : ℕ → R → Type 0) (tells_child : ℕ → R → R → Type 0)
      → MoveEither accesses Explains g c i f tells tells_child
      → MoveEither accesses Explains g c i f (Also g tells) (AlsoBoth g tells_child)
  also_either g c i f tells tells_child move words recs run explains at small =
      ⊎_elim
      (λ m. inl (record {
        after = m.after;
        gain = m.gain;
        explains = m.explains;
        counts = m.counts;
        tells_so = (
          m.tells_so,
          record {
            words = _;
            recs = set recs g m.after;
            run = run ++ m.gain;
            explains = m.explains;
            its = set_here recs g m.after (at_below recs g c at);
          },
        );
      }))
      (λ m. inr (record {
        after = m.after;
        child = m.child;
        gain = m.gain;
        explains = m.explains;
        counts = m.counts;
        new = m.new;
        number = m.number;
        tells_so = (
          m.tells_so,
          record {
            words = _;
            recs = set recs g m.after ++ m.child ∷ [];
            run = run ++ m.gain;
            explains = m.explains;
            its = at_longer (set recs g m.after) (m.child ∷ []) g m.after (set_here recs g m.after (at_below recs g c at));
          },
          record {
            words = _;
            recs = set recs g m.after ++ m.child ∷ [];
            run = run ++ m.gain;
            explains = m.explains;
            its = at_last (set recs g m.after) m.child _ (length-set recs g m.after ∙ sym m.number);
          },
        );
      }))
      (move words recs run explains at small)

  module _ (g : ℕ) (kind : Kind) (i : ℕ) (f : ℕ → ℕ) (m : Me R) (n : ℕ) (w : Me R) where
    pub told : (tells : ℕ → R → Type 0) → Told accesses g kind i f (Also g tells) m n w → Told accesses g kind i f tells m n w
    told tells t = record {
      after = t.after;
      between = t.between;
      tells_so = t.tells_so.0;
      alone = t.alone;
      seen = t.seen;
      others = t.others;
      counts = t.counts;
    }

    pub told_child : (tells : ℕ → R → R → Type 0) → ToldChild accesses g kind i f (AlsoBoth g tells) m n w
        → ToldChild accesses g kind i f tells m n w
    told_child tells t = record {
      after = t.after;
      child = t.child;
      between = t.between;
      tells_so = t.tells_so.0;
      later = t.later;
      both = t.both;
      seen = t.seen;
      others = t.others;
      counts = t.counts;
      new = t.new;
    }

    -- the row of the seat is possible
    pub told_occurs : (blank : R) (tells : ℕ → R → Type 0) → Told accesses g kind i f (Also g tells) m n w
        → Occurs Explains (number_of w) (record_of blank w)
    told_occurs blank tells t =
        subst (λ h. Occurs Explains h (record_of blank w)) (sym (ap number_in t.alone.0))
        (subst (Occurs Explains g) (sym (ap (record_in blank) t.alone.0)) t.tells_so.1)

    -- so is each of its rows
    one_occurs : (tells : ℕ → R → Type 0) → Told accesses g kind i f (Also g tells) m n w
        → (h : ℕ) (c : R) → HasRow w.0.records h c → Occurs Explains h c
    one_occurs tells t h c has =
        ⊎_elim
        (λ e. subst (λ k. Occurs Explains k c) e.0 (subst (Occurs Explains g) e.1 t.tells_so.1))
        (λ e. absurd (none h c e))
        (first (g, t.after) [] h c (subst (λ (rs : Rows R). HasRow rs h c) t.alone.0 has))

    both_occur : (tells : ℕ → R → R → Type 0) → ToldChild accesses g kind i f (AlsoBoth g tells) m n w
        → (h : ℕ) (c : R) → HasRow w.0.records h c → Occurs Explains h c
    both_occur tells t h c has =
        ⊎_elim
        (λ e. subst (λ k. Occurs Explains k c) e.0 (subst (Occurs Explains g) e.1 t.tells_so.1))
        (λ e. ⊎_elim
        (λ q. subst (λ k. Occurs Explains k c) q.0 (subst (Occurs Explains n) q.1 t.tells_so.2))
        (λ q. absurd (none h c q))
        (first (n, t.child) [] h c e))
        (first (g, t.after) ((n, t.child) ∷ []) h c (subst (λ (rs : Rows R). HasRow rs h c) t.both.0 has))

    pub either_told : (tells : ℕ → R → Type 0) (tells_child : ℕ → R → R → Type 0)
        → (Told accesses g kind i f (Also g tells) m n w ⊎ ToldChild accesses g kind i f (AlsoBoth g tells_child) m n w)
        → (Told accesses g kind i f tells m n w ⊎ ToldChild accesses g kind i f tells_child m n w)
    either_told tells tells_child = ⊎_elim (λ t. inl (told tells t)) (λ t. inr (told_child tells_child t))

    pub either_occurs : (tells : ℕ → R → Type 0) (tells_child : ℕ → R → R → Type 0)
        → (Told accesses g kind i f (Also g tells) m n w ⊎ ToldChild accesses g kind i f (AlsoBoth g tells_child) m n w)
        → (h : ℕ) (c : R) → HasRow w.0.records h c → Occurs Explains h c
    either_occurs tells tells_child = ⊎_elim (λ t. one_occurs tells t) (λ t. both_occur tells_child t)
