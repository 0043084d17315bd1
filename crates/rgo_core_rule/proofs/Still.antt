-- A change of a record without an access is in the run before the goroutine's next access. The gains of both are appended, so it
-- is only a matter of setting one record twice.
use Rattle.std.proofs.Common.{◌≡◌, ℕ, suc, List, [], ◌++◌, set, ap, ◌∙◌, append_assoc}
use Rattle.std.proofs.lemmas.List.{append-nil}
use Rattle.atomic_table.proofs.Lists.{set_here, set_again}
use Rattle.rgo_core_rule.specs.Steps.{Move, Still}
use Rattle.rgo_core_rule.proofs.Lists.{at_below, set_twice}

module _ {E R : Type 0} (accesses : R → ℕ) (Explains : List ℕ → List R → List E → Type 0) where
  pub still_same : (g : ℕ) (c : R) → Still accesses Explains g c c
  still_same g c words recs run explains at = ([], rw (append-nil run, set_again recs g c at) explains)

  pub still_then : (g : ℕ) (c d e : R) → Still accesses Explains g c d → Still accesses Explains g d e → Still accesses Explains g c e
  still_then g c d e one more words recs run explains at =
      let r = one words recs run explains at in
      let q = more words (set recs g d) (run ++ r.0) r.1 (set_here recs g d (at_below recs g c at)) in
      (r.0 ++ q.0, rw (← set_twice recs g d e, ← append_assoc run r.0 q.0) q.1)

  pub still_move : (g : ℕ) (c d : R) (i : ℕ) (f : ℕ → ℕ) (tells : ℕ → R → Type 0) → Still accesses Explains g c d → accesses d ≡ accesses c
      → Move accesses Explains g d i f tells → Move accesses Explains g c i f tells
  still_move g c d i f tells still same move words recs run explains at fits =
      let r = still words recs run explains at in
      let q = move words (set recs g d) (run ++ r.0) r.1 (set_here recs g d (at_below recs g c at)) fits in
      record {
        after = q.after;
        gain = r.0 ++ q.gain;
        explains = rw (← set_twice recs g d q.after, ← append_assoc run r.0 q.gain) q.explains;
        counts = q.counts ∙ ap suc same;
        tells_so = q.tells_so;
      }
