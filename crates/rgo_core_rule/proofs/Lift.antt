-- An access that a goroutine may make is one that the table allows its seat. `lift_at` is the one place where a law meets the rule,
-- in one state of the table. The other lemmas quantify over all states, as the table requires. The two outcomes of a draw are
-- decided in that state, so both need no lemma of their own there.
use Rattle.std.proofs.Common.{◌≡◌, ℕ, suc, ◌⊎◌, ◌==◌, if◌then◌else◌, List, [], ◌∷◌, ◌++◌, Some, None, length, set, slice_index, refl, ap, sym, subst, ◌∙◌, inl, inr, ⊎_elim, arith, length-append}
use mathlib.Core.Option.{some}
use lib.ListN.{get_elem?}
use Rattle.std.proofs.lemmas.List.{append-nil}
use Rattle.std.proofs.Math.ListN.{length-set}
use Rattle.atomic_table.specs.Table as table
use Rattle.rgo_core_rule.specs.Histories.{access, glance, accesses_by}
use Rattle.rgo_core_rule.specs.Lists.{flattened}
use Rattle.rgo_core_rule.specs.Rule.{Account, Explained}
use Rattle.rgo_core_rule.specs.Steps.{Moved, MovedChild, Move, MoveEither, Told, ToldChild, Glanced}
use Rattle.rgo_core_rule.specs.Views.{HasRow, TableState, Me, Alone, Rows, view}
use Rattle.rgo_core_rule.specs.declared.accesses.Access.{Access}
use Rattle.rgo_core_rule.specs.declared.accesses.Kind.{Kind}
use Rattle.rgo_core_rule.specs.declared.accesses.Kind.TheVariants.{Load}
use Rattle.rgo_core_rule.specs.declared.accesses.View.{View}
use Rattle.rgo_core_rule.proofs.Accounts.{account_more}
use Rattle.rgo_core_rule.proofs.Awareness.{aware_longer, aware_set, counts_own, counted_step, counted_child, counted_glance, by_child}
use Rattle.rgo_core_rule.proofs.Histories.{by_append, by_none}
use Rattle.rgo_core_rule.proofs.Lists.{at_below, set_own}
use Rattle.rgo_core_rule.proofs.Owning.{its, only_one, owned_step, owned_child, owned_same}
use Rattle.rgo_core_rule.proofs.Rows.{none, first}

module _ {E R : Type 0} (accesses : R → ℕ) (Explains : List ℕ → List R → List E → Type 0) (opening : List ℕ) where
  abbrev pub Holds : TableState R → Type 0
  Holds = Explained accesses Explains opening

  -- what the table requires of a step, in one of its states
  abbrev pub AllowsAt : (s : TableState R) → ℕ → Me R → ℕ → (ℕ → ℕ) → (ℕ → Me R → Type 0) → Type 0
  AllowsAt s id m i f told =
      (w : View R) × (a : table.Act (Unit {0})) × table.Valid s.homes m.1 a
      × Holds (table.stepped s i (f (slice_index s.words i)) id m.1 w a) × told (slice_index s.words i) (w, table.carried_after m.1 a)

  -- an account in which a load of word 0 is the last access
  pub account_glance : (words : List ℕ) (recs : List R) (history : List Access) → Account accesses Explains opening words recs history
      → (kind : Kind) → Account accesses Explains opening words recs (history ++ glance kind (slice_index words 0) ∷ [])
  account_glance words recs history old kind =
      let a = glance kind (slice_index words 0) in
      subst (λ (l : List ℕ). Account accesses Explains opening l recs (history ++ a ∷ [])) (set_own words 0)
      (account_more accesses Explains opening words recs history old a recs [] refl
      (rw (set_own words 0, append-nil (flattened old.gains)) old.explains)
      (counted_glance accesses recs history old.counted kind (slice_index words 0))
      (λ g is. absurd (none_some g is)) (omega arith) (λ e. refl))
    where
      none_some : (g : ℕ) → None ≡ Some g → ⊥
      none_some g e = cc

  module _ (s : TableState R) (kept : Holds s) (id g : ℕ) (c : R) (m : Me R) (i : ℕ) (f : ℕ
      → ℕ) (kind : Kind) (alone : Alone g c m) (at : get_elem? s.views id ≡ some m.0) where
    abbrev n : ℕ
    n = slice_index s.words i

    abbrev its_access : Access
    its_access = access g kind i n (f n)

    abbrev after : List Access
    after = kept.history ++ its_access ∷ []

    pub its_record : get_elem? kept.recs g ≡ some c
    its_record = (its s.views kept.recs kept.owner kept.owned id g c m.0 at alone.0).1

    -- Since its last access no access of its own was made: the record counts as many in the whole history as in what the seat has seen.
    others : accesses_by g (kept.aware.seen id m.0 at).0 ≡ 0
    others =
        let p = kept.aware.seen id m.0 at in
        let a = kept.aware.own id m.0 g c at (0, ap (λ (rs : Rows R). get_elem? rs 0) alone.0) in
        let b = kept.account.counted g c its_record in
        let parts = by_append g m.0.seen p.0 in
        let whole : accesses_by g (m.0.seen ++ p.0) ≡ accesses_by g kept.history = ap (accesses_by g) p.1 in
        omega arith

    seen : after ≡ (m.0.seen ++ (kept.aware.seen id m.0 at).0) ++ its_access ∷ []
    seen = ap (λ (z : List Access). z ++ its_access ∷ []) (sym (kept.aware.seen id m.0 at).1)

    pub lift_at : (tells : ℕ → R → Type 0) → Moved accesses Explains s.words kept.recs (flattened kept.account.gains) g c i f tells
        → AllowsAt s id m i f (Told accesses g kind i f tells m)
    lift_at tells r =
        let w : View R = view ((g, r.after) ∷ []) after in
        let counts = counts_own accesses kept.recs kept.history kept.account.counted g kind i n (f n) c r.after its_record r.counts in (
          w,
          table.keeps,
          tt,
          record {
            recs = set kept.recs g r.after;
            history = after;
            account = account_more accesses Explains opening s.words kept.recs kept.history kept.account its_access
                (set kept.recs g r.after) r.gain refl r.explains
                (counted_step accesses kept.recs kept.history kept.account.counted g kind i n (f n) c r.after its_record r.counts)
                (λ h is. let b = at_below kept.recs g c its_record in let l = length-set kept.recs g r.after in let e = same_number g h is in omega arith)
                (let l = length-set kept.recs g r.after in omega arith)
                (λ e. absurd (some_none g e));
            owner = kept.owner;
            owned = owned_step s.views kept.recs kept.owner kept.owned id g c m.0 at alone.0 r.after w refl;
            aware = aware_set accesses s.views after id w (aware_longer accesses s.views kept.history its_access kept.aware) ([], append-nil after)
                (λ h x has. let e = only_one g r.after h x has in rw (e.0, e.1) counts);
          },
          record {
            after = r.after;
            between = (kept.aware.seen id m.0 at).0;
            tells_so = r.tells_so;
            alone = (refl, alone.1);
            seen = seen;
            others = others;
            counts = counts;
          },
        )
      where
        same_number : (a b : ℕ) → Some a ≡ Some b → a ≡ b
        same_number a b e = cc

        some_none : (a : ℕ) → Some a ≡ None → ⊥
        some_none a e = cc

    pub lift_child_at : (tells : ℕ → R → R → Type 0) → MovedChild accesses Explains s.words kept.recs (flattened kept.account.gains) g c i f tells
        → AllowsAt s id m i f (ToldChild accesses g kind i f tells m)
    lift_child_at tells r =
        let w : View R = view ((g, r.after) ∷ (n, r.child) ∷ []) after in
        let recs : List R = set kept.recs g r.after ++ r.child ∷ [] in
        let old = kept.account in
        let counts = counts_own accesses kept.recs kept.history old.counted g kind i n (f n) c r.after its_record r.counts in
        let born = by_child accesses kept.recs kept.history old.counted g kind i n
        (f n) c r.after its_record r.counts r.child r.new old.makers n r.number in (
          w,
          table.keeps,
          tt,
          record {
            recs = recs;
            history = after;
            account = account_more accesses Explains opening s.words kept.recs kept.history old its_access recs r.gain refl r.explains
                (counted_child accesses kept.recs kept.history old.counted g kind i n (f n) c r.after its_record r.counts r.child r.new old.makers)
                (λ h is. let b = at_below kept.recs g c its_record in let l = longer r.after r.child in let e = same_number g h is in omega arith)
                (let l = longer r.after r.child in omega arith)
                (λ e. absurd (some_none g e));
            owner = (λ h. if h == n then id else kept.owner h);
            owned = owned_child s.views kept.recs kept.owner kept.owned id g c m.0 at alone.0 r.after w n r.child r.number refl;
            aware = aware_set accesses s.views after id w (aware_longer accesses s.views kept.history its_access kept.aware) ([], append-nil after)
                (λ h x has. ⊎_elim
                (λ t. rw (← t.0, ← t.1) counts)
                (λ t. ⊎_elim (λ u. rw (← u.0, ← u.1) (r.new ∙ sym born)) (λ u. absurd (none h x u)) (first (n, r.child) [] h x t))
                (first (g, r.after) ((n, r.child) ∷ []) h x has));
          },
          record {
            after = r.after;
            child = r.child;
            between = (kept.aware.seen id m.0 at).0;
            tells_so = r.tells_so;
            later = let b = at_below kept.recs g c its_record in let e = r.number in omega arith;
            both = (refl, alone.1);
            seen = seen;
            others = others;
            counts = counts;
            new = born;
          },
        )
      where
        same_number : (a b : ℕ) → Some a ≡ Some b → a ≡ b
        same_number a b e = cc

        some_none : (a : ℕ) → Some a ≡ None → ⊥
        some_none a e = cc

        longer : (d x : R) → length (set kept.recs g d ++ x ∷ []) ≡ suc (length kept.recs)
        longer d x = let a = length-append (set kept.recs g d) (x ∷ []) in let b = length-set kept.recs g d in omega arith

  -- an access that its goroutine may make
  pub lifts : (cells id g : ℕ) (c : R) (m : Me R) (i : ℕ) (f : ℕ → ℕ) (tells : ℕ → R → Type 0) (kind : Kind) → Alone g c m
      → Move accesses Explains g c i f tells → table.Allows Holds cells id m i f (Told accesses g kind i f tells m)
  lifts cells id g c m i f tells kind alone move s kept homes at fits = lift_at s kept id g c m i f kind alone at tells (move s.words kept.recs
      (flattened kept.account.gains) kept.account.explains (its_record s kept id g c m i f kind alone at) fits)

  -- the same of a store, which does not show what was found
  pub untold : (cells id g : ℕ) (c : R) (m : Me R) (i : ℕ) (f : ℕ → ℕ) (tells : ℕ → R → Type 0) (kind : Kind) → Alone g c m
      → Move accesses Explains g c i f tells
      → table.Allows Holds cells id m i f (λ _ w. (n : ℕ) × Told accesses g kind i f tells m n w)
  untold cells id g c m i f tells kind alone move s kept homes at fits =
      let r = lifts cells id g c m i f tells kind alone move s kept homes at fits in
      (r.0, r.1, r.2, r.3, (slice_index s.words i, r.4))

  -- one that may start a goroutine
  pub lifts_either : (cells id g : ℕ) (c : R) (m : Me R) (i : ℕ) (f : ℕ → ℕ) (tells : ℕ → R → Type 0) (tells_child : ℕ → R → R
      → Type 0) (kind : Kind) → Alone g c m → MoveEither accesses Explains g c i f tells tells_child
      → table.Allows Holds cells id m i f (λ n w. Told accesses g kind i f tells m n w ⊎ ToldChild accesses g kind i f tells_child m n w)
  lifts_either cells id g c m i f tells tells_child kind alone move s kept homes at fits = ⊎_elim
      (λ one. let r = lift_at s kept id g c m i f kind alone at tells one in (r.0, r.1, r.2, r.3, inl r.4))
      (λ two. let r = lift_child_at s kept id g c m i f kind alone at tells_child two in (r.0, r.1, r.2, r.3, inr r.4))
      (move s.words kept.recs (flattened kept.account.gains) kept.account.explains (its_record s kept id g c m i f kind alone at) fits)

  -- a load of word 0 by any seat
  pub lifts_glance : (cells id : ℕ) (m : Me R) → table.Allows Holds cells id m 0 (λ n. n) (Glanced accesses m)
  lifts_glance cells id m s kept homes at fits =
      let n : ℕ = slice_index s.words 0 in
      let p = kept.aware.seen id m.0 at in
      let history = kept.history ++ glance Load n ∷ [] in
      let w : View R = view m.0.records history in
      let own : (h : ℕ) (x : R) → HasRow m.0.records h x → accesses x ≡ accesses_by h history =
      λ h x has. kept.account.counted h x (kept.owned.here id m.0 h x at has).1 ∙ sym (by_none h kept.history Load n) in (
        w,
        table.keeps,
        tt,
        record {
          recs = kept.recs;
          history = history;
          account = rw (set_own s.words 0) (account_glance s.words kept.recs kept.history kept.account Load);
          owner = kept.owner;
          owned = owned_same s.views kept.recs kept.owner kept.owned id m.0 w at refl;
          aware = aware_set accesses s.views history id w (aware_longer accesses s.views kept.history (glance Load n) kept.aware)
              ([], append-nil history)
              own;
        },
        record {
          between = p.0;
          records = refl;
          slots = refl;
          seen = ap (λ (z : List Access). z ++ glance Load n ∷ []) (sym p.1);
          own = own;
        },
      )
