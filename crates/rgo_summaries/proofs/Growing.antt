-- Nodes that are added, each by itself.
use Rattle.std.proofs.Common.{◌≡◌, ◌≢◌, ◌⊎◌, inl, inr, ⊎_elim, ℕ, ◌<◌, ◌+◌, min, Bool, false, ltb, List, [], ◌∷◌, ◌++◌, Some, length, set, get_or, slice_get, sym, ap, ◌∙◌, subst, arith, length-append}
use Rattle.std.specs.Prelude.{if◌then◌else◌}
use Rattle.std.specs.List.{Contains}
use Rattle.std.proofs.lemmas.Bool.{cases_lt}
use Rattle.std.proofs.lemmas.Bool.Decides.{nat_tests}
use Rattle.std.proofs.lemmas.List.{get_or_append_left, get_or_push, length-set}
use Rattle.std.proofs.lemmas.Option.{same_Some, slice_get_past}
use Rattle.rgo_classes.specs.Moves.{member_rows}
use Rattle.rgo_classes.specs.Same.{AreSame}
use Rattle.rgo_classes.proofs.Chains as chain
use Rattle.rgo_classes.proofs.Rows.{label_below}
use Rattle.rgo_summaries.specs.declared.nodes.Nodes.{Nodes}
use Rattle.rgo_summaries.specs.declared.progress.Event.{Event}
use Rattle.rgo_summaries.specs.declared.progress.Progress.{Progress}
use Rattle.rgo_summaries.specs.Beginning.{Unchanged}
use Rattle.rgo_summaries.specs.Joining.{Grows, GrowsBy, IsNodes, AreJoinedNodes, label_at, size_of}
use Rattle.rgo_summaries.specs.Progress.{GrowsIn, Inside, IsProgress, Logged, SameIn, same_at, size_at, width_at, width_in}
use Rattle.rgo_summaries.proofs.Outer.{get_last, get_left}
use Rattle.rgo_summaries.proofs.Progressing.{by_number, get_set_here, get_set_other}

-- ---- one node more

module _ (old new : Nodes) (is_seen : Bool) (o : IsNodes old) (g : Grows old new is_seen) where
  pub grown_size : size_of new ≡ size_of old + 1
  grown_size = ap (λ (l : List ℕ). length l) g.labels ∙ length-append old.labels.items (size_of old ∷ [])

  grown_label : (x : ℕ) → x < size_of old → label_at new x ≡ label_at old x
  grown_label x l =
      ap (λ (s : List ℕ). get_or s x 0) g.labels ∙ get_or_append_left old.labels.items (size_of old ∷ []) 0 x l

  new_label : (x : ℕ) → x ≡ size_of old → label_at new x ≡ size_of old
  new_label x e =
      ap (λ (s : List ℕ). get_or s x 0) g.labels ∙ get_or_push old.labels.items (size_of old) 0 x (sym e)

  below : (x : ℕ) → x < size_of old → label_at old x < size_of old
  below x l = label_below old.labels.items (member_rows old.rows.items) x o.rows l

  apart : (x y : ℕ) → x < size_of old → y ≡ size_of old → label_at new x ≡ label_at new y → ⊥
  apart x y l e same = omega (arith, below x l, grown_label x l, new_label y e, same)

  pub grown_kept : (x y : ℕ) → AreJoinedNodes old x y → AreJoinedNodes new x y
  grown_kept x y s = (
    omega (arith, s.0, grown_size),
    omega (arith, s.1, grown_size),
    grown_label x s.0 ∙ s.2
        ∙ sym (grown_label y s.1),
  )

  abbrev Either : ℕ → ℕ → Type 0
  Either x y = (x ≡ y) ⊎ AreJoinedNodes old x y

  from_old : (x y : ℕ) → x < size_of old → AreJoinedNodes new x y → Either x y
  from_old x y lx s = ⊎_elim
      (λ ly. inr (lx, ly, sym (grown_label x lx) ∙ s.2 ∙ grown_label y ly))
      (λ b. absurd (apart x y lx (omega (arith, b, s.1, grown_size)) s.2))
      (cases_lt y (size_of old))

  from_new : (x y : ℕ) → x ≡ size_of old → AreJoinedNodes new x y → Either x y
  from_new x y ex s = ⊎_elim
      (λ ly. absurd (apart y x ly ex (sym s.2)))
      (λ b. let e : x ≡ y = omega (arith, b, ex, s.1, grown_size) in inl e)
      (cases_lt y (size_of old))

  pub grown_only : (x y : ℕ) → AreJoinedNodes new x y → Either x y
  grown_only x y s = ⊎_elim
      (λ lx. from_old x y lx s)
      (λ b. from_new x y (omega (arith, b, s.0, grown_size)) s)
      (cases_lt x (size_of old))

pub grows_by_more : (old mid new : Nodes) (k : ℕ) → IsNodes mid → GrowsBy old mid k → Grows mid new false
    → GrowsBy old new (k + 1)
grows_by_more old mid new k is g one = record {
  size = omega (arith, grown_size mid new false is one, g.size);
  width = one.width ∙ g.width;
  kept = λ x y s. grown_kept mid new false is one x y (g.kept x y s);
  only = λ x y s. ⊎_elim (λ e. inl e) (λ t. g.only x y t) (grown_only mid new false is one x y s);
}

-- how many of the nodes so far are seen
pub min_more : (n w : ℕ) → (if ltb n w then min n w + 1 else min n w) ≡ min (n + 1) w
min_more n w = grind (arith, nat_tests)

-- ---- in a function

module _ (old new : Progress) (f count : ℕ) (n m : Nodes) (o : IsProgress old)
    (was : slice_get old.nodes.items f ≡ Some n)
    (nodes : new.nodes.items ≡ set old.nodes.items f m) (log : new.log.items ≡ old.log.items) (is : IsNodes m)
    (g : GrowsBy n m count) where
  here : slice_get new.nodes.items f ≡ Some m
  here = ap (λ (l : List Nodes). slice_get l f) nodes ∙ get_set_here old.nodes.items f m n was

  there : (h : ℕ) → h ≢ f → slice_get new.nodes.items h ≡ slice_get old.nodes.items h
  there h e = ap (λ (l : List Nodes). slice_get l h) nodes ∙ get_set_other old.nodes.items f h m e

  grow_kept : (h x y : ℕ) → SameIn old.nodes.items h x y → SameIn new.nodes.items h x y
  grow_kept = by_number f (λ h. (x y : ℕ) → SameIn old.nodes.items h x y → SameIn new.nodes.items h x y)
      (λ x y s. subst (λ k. same_at k x y) (sym here) (g.kept x y (subst (λ k. same_at k x y) was s)))
      (λ h e x y s. subst (λ k. same_at k x y) (sym (there h e)) s)

  grow_only : (h x y : ℕ) → SameIn new.nodes.items h x y → (x ≡ y) ⊎ SameIn old.nodes.items h x y
  grow_only = by_number f (λ h. (x y : ℕ) → SameIn new.nodes.items h x y → (x ≡ y) ⊎ SameIn old.nodes.items h x y)
      (λ x y s. ⊎_elim
      (λ e. inl e)
      (λ t. inr (subst (λ k. same_at k x y) (sym was) t))
      (g.only x y (subst (λ k. same_at k x y) here s)))
      (λ h e x y s. inr (subst (λ k. same_at k x y) (there h e) s))

  grow_widths : (h : ℕ) → width_in new.nodes.items h ≡ width_in old.nodes.items h
  grow_widths = by_number f (λ h. width_in new.nodes.items h ≡ width_in old.nodes.items h)
      (ap width_at here ∙ g.width ∙ ap width_at (sym was)) (λ h e. ap width_at (there h e))

  pub grows_in : GrowsIn old new f count
  grows_in = record {
    len = ap (λ (l : List Nodes). length l) nodes ∙ length-set old.nodes.items f m;
    size = ap size_at here ∙ g.size ∙ ap (λ k. size_at k + count) (sym was);
    sizes = λ h e. ap size_at (there h e);
    widths = grow_widths;
    kept = grow_kept;
    only = grow_only;
  }

  grown_log : (h x y : ℕ) → AreSame (Logged old.log.items h) x y → AreSame (Logged new.log.items h) x y
  grown_log h x y s = subst (λ (l : List Event). AreSame (Logged l h) x y) (sym log) s

  pub grown_progress : IsProgress new
  grown_progress = record {
    are =
        by_number f (λ h. (k : Nodes) → slice_get new.nodes.items h ≡ Some k → IsNodes k)
        (λ k e. subst IsNodes (same_Some m k (sym here ∙ e)) is)
        (λ h e k s. o.are h k (sym (there h e) ∙ s));
    logged = λ h x y ix iy s. ⊎_elim
        (λ e. chain.reflexive (Logged new.log.items h) x y e)
        (λ t.
        grown_log h x y
        (o.logged h x y (omega (arith, ix, grow_widths h)) (omega (arith, iy, grow_widths h)) t))
        (grow_only h x y s);
    events = λ e c.
        let i = o.events e (subst (λ (l : List Event). Contains l e) log c) in (
          omega (arith, i.0, grow_widths e.function),
          omega (arith, i.1, grow_widths e.function),
          grow_kept e.function e.one e.other i.2,
        );
  }

-- ---- a function more

module _ (old new : Progress) (own : Nodes) (nodes : new.nodes.items ≡ old.nodes.items ++ own ∷ []) where
  pub before_last : (g : ℕ) → g ≢ length old.nodes.items → slice_get new.nodes.items g ≡ slice_get old.nodes.items g
  before_last g n = ap (λ (l : List Nodes). slice_get l g) nodes ∙ ⊎_elim
      (λ l. get_left old.nodes.items (own ∷ []) g l)
      (λ l.
      let long = length-append old.nodes.items (own ∷ []) in
      slice_get_past (old.nodes.items ++ own ∷ []) g (omega (arith, l, n, long))
      ∙ sym (slice_get_past old.nodes.items g l))
      (cases_lt g (length old.nodes.items))

  pub last_is : slice_get new.nodes.items (length old.nodes.items) ≡ Some own
  last_is = ap (λ (l : List Nodes). slice_get l (length old.nodes.items)) nodes ∙ get_last old.nodes.items own

  module _ (o : IsProgress old) (log : new.log.items ≡ old.log.items) (is : IsNodes own)
      (alone : (x y : ℕ) → AreJoinedNodes own x y → x ≡ y) where
    abbrev LoggedNow : ℕ → Type 0
    LoggedNow h = (x y : ℕ) → Inside new.nodes.items h x → Inside new.nodes.items h y → SameIn new.nodes.items h x y
        → AreSame (Logged new.log.items h) x y

    logged_last : LoggedNow (length old.nodes.items)
    logged_last x y ix iy s =
        chain.reflexive (Logged new.log.items (length old.nodes.items)) x y
        (alone x y (subst (λ k. same_at k x y) last_is s))

    logged_before : (h : ℕ) → h ≢ length old.nodes.items → LoggedNow h
    logged_before h e x y ix iy s =
        let w = ap width_at (before_last h e) in
        subst (λ (l : List Event). AreSame (Logged l h) x y) (sym log)
        (o.logged h x y (omega (arith, ix, w)) (omega (arith, iy, w)) (subst (λ k. same_at k x y) (before_last h e) s))

    event_before : (e : Event) → Contains old.log.items e → e.function ≢ length old.nodes.items
    event_before e c q =
        let i = o.events e c in
        let none = ap width_at (slice_get_past old.nodes.items e.function (omega (arith, q))) in
        omega (arith, i.0, none)

    pub pushed_progress : IsProgress new
    pushed_progress = record {
      are =
          by_number (length old.nodes.items) (λ h. (k : Nodes) → slice_get new.nodes.items h ≡ Some k → IsNodes k)
          (λ k e. subst IsNodes (same_Some own k (sym last_is ∙ e)) is)
          (λ h e k s. o.are h k (sym (before_last h e) ∙ s));
      logged = by_number (length old.nodes.items) LoggedNow logged_last logged_before;
      events = λ e c.
          let old_c = subst (λ (l : List Event). Contains l e) log c in
          let i = o.events e old_c in
          let at = before_last e.function (event_before e old_c) in
          let w = ap width_at at in (
            omega (arith, i.0, w),
            omega (arith, i.1, w),
            subst (λ k. same_at k e.one e.other) (sym at) i.2,
          );
    }

pub unchanged_before : (old new : Progress) (f : ℕ) (own : Nodes) → new.nodes.items ≡ old.nodes.items ++ own ∷ []
    → length old.nodes.items ≡ f → (g : ℕ) → g ≢ f → Unchanged old.nodes.items new.nodes.items g
unchanged_before old new f own nodes len g n =
    let at = before_last old new own nodes g (λ e. n (e ∙ len)) in
    record {
      size = ap size_at at;
      width = ap width_at at;
      kept = λ x y s. subst (λ k. same_at k x y) (sym at) s;
      only = λ x y s. inr (subst (λ k. same_at k x y) at s);
    }
