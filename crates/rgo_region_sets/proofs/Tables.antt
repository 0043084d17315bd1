-- The tables of the branches, and of what dies on their ways.
use Rattle.std.proofs.Common.{◌≡◌, ◌⊎◌, ⊎_elim, inl, inr, ◌<◌, ◌≤◌, ◌+◌, ℕ, zero, suc, Bool, true, false, not, nat_lt, nat_le, Decides, List, [], ◌∷◌, ◌++◌, Some, None, length, get_or, slice_get, refl, sym, ap, subst, ◌∙◌, arith, length-append}
use Rattle.std.specs.Prelude.{◌↔◌}
use Rattle.std.specs.List.{Contains}
use Rattle.std.specs.List.Sorted.{IsStrictlyIncreasing, IsPartitionPoint}
use Rattle.std.proofs.lemmas.Bool.{false≢true}
use Rattle.std.proofs.lemmas.Bool.Decides.{nat_tests}
use Rattle.std.proofs.lemmas.List.Elements.{Contains-push, Contains-push_cases, Contains-append_left}
use Rattle.std.proofs.lemmas.List.Kept.{AllPairs-from_increasing}
use Rattle.std.proofs.lemmas.Option.{same_Some, none-some, slice_get_within, slice_get-get_or, get_or_from_slice_get}
use Rattle.rgo_graphs.specs.Rows.{Adds, IsAscending, Relates}
use Rattle.rgo_tac.specs.Code.{Instr, TacFn}
use Rattle.rgo_tac.specs.Ops.{op_in}
use Rattle.rgo_region_sets.specs.declared.spans.Span.{Span}
use Rattle.rgo_region_sets.specs.Branches.{ways_in, branch_at, IsListed, AreBranches}
use Rattle.rgo_region_sets.specs.Dying.{AreInSpan, Dies, DiesAt}
use Rattle.rgo_region_sets.specs.Sets.{pushed_if}
use Rattle.rgo_region_sets.specs.Spans.{IsSpanned}
use Rattle.rgo_region_sets.proofs.Apart.{member_at}
use Rattle.rgo_region_sets.proofs.Merges.{found, get_pushed}
use Rattle.rgo_region_sets.proofs.Picking.{rises_push}

less_or : (a b : ℕ) → (a < b) ⊎ (b ≤ a)
less_or a b = grind arith

get_left : {A : Type 0} (xs ys : List A) (i : ℕ) (a : A) → slice_get xs i ≡ Some a → slice_get (xs ++ ys) i ≡ Some a
get_left [] ys i a e = absurd (none-some a e)
get_left (x ∷ xs) ys zero a e = e
get_left (x ∷ xs) ys (suc i) a e = get_left xs ys i a e

get_last : {A : Type 0} (xs : List A) (y : A) (i : ℕ) → i ≡ length xs → slice_get (xs ++ y ∷ []) i ≡ Some y
get_last [] y i e = ap (slice_get (y ∷ [])) e
get_last (x ∷ xs) y zero e = absurd (omega (arith, e))
get_last (x ∷ xs) y (suc i) e = get_last xs y i (omega (arith, e))

pub rising_ascends : (xs : List ℕ) → IsStrictlyIncreasing xs → IsAscending xs
rising_ascends xs rises a b le within = ⊎_elim
    (λ l. let less = AllPairs-from_increasing xs rises a b 0 l within in omega (arith, less))
    (λ g. let same : a ≡ b = omega (arith, g, le) in subst (λ n. get_or xs a 0 ≤ get_or xs n 0) same (omega arith))
    (less_or a b)

-- a strictly ascending list has a number at one place only
pub one_place : (xs : List ℕ) (i j x : ℕ) → IsStrictlyIncreasing xs → slice_get xs i ≡ Some x → slice_get xs j ≡ Some x
    → i ≡ j
one_place xs i j x rises at_i at_j = ⊎_elim
    (λ l. absurd (apart i j l at_i at_j))
    (λ g. ⊎_elim (λ m. absurd (apart j i m at_j at_i)) (λ h. omega (arith, g, h)) (less_or j i))
    (less_or i j)
  where
    apart : (a b : ℕ) → a < b → slice_get xs a ≡ Some x → slice_get xs b ≡ Some x → ⊥
    apart a b l at_a at_b =
        let less = AllPairs-from_increasing xs rises a b 0 l (slice_get_within xs b x at_b) in
        omega (arith, less, get_or_from_slice_get xs a x 0 at_a, get_or_from_slice_get xs b x 0 at_b)

-- ---- the branches

module _ (f : TacFn) (points targets others : List ℕ) (n : ℕ) (before : AreBranches f points targets others n) where
  pub other_instruction : branch_at f n ≡ None → AreBranches f points targets others (n + 1)
  other_instruction none = record {
    target_len = before.target_len;
    other_len = before.other_len;
    rising = before.rising;
    below = λ b at e. omega (arith, before.below b at e);
    listed = λ at ways within is. ⊎_elim
        (λ l. before.listed at ways l is)
        (λ g.
        let same : at ≡ n = omega (arith, g, within) in
        absurd (none-some ways (sym none ∙ ap (branch_at f) (sym same) ∙ is)))
        (less_or at n);
  }

  pub branch_more : (target other : ℕ) → branch_at f n ≡ Some (target, other)
      → AreBranches f (points ++ n ∷ []) (targets ++ target ∷ []) (others ++ other ∷ []) (n + 1)
  branch_more target other leads = record {
    target_len = omega (arith, before.target_len, length-append points (n ∷ []), length-append targets (target ∷ []));
    other_len = omega (arith, before.other_len, length-append points (n ∷ []), length-append others (other ∷ []));
    rising = rises_push points n before.rising (λ k h. before.below h.0 k (member_at points k h));
    below = λ b at e. ⊎_elim
        (λ o. omega (arith, before.below b at o))
        (λ m. omega (arith, m.1))
        (get_pushed points n b at e);
    listed = λ at ways within is. ⊎_elim
        (λ l.
        let old = before.listed at ways l is in (
          old.0,
          record {
            point = get_left points (n ∷ []) old.0 at old.1.point;
            target = get_left targets (target ∷ []) old.0 ways.0 old.1.target;
            other = get_left others (other ∷ []) old.0 ways.1 old.1.other;
          },
        ))
        (λ g.
        let same : at ≡ n = omega (arith, g, within) in
        let ways_are : (target, other) ≡ ways = same_Some (target, other) ways
        (sym leads ∙ ap (branch_at f) (sym same) ∙ is) in (
          length points,
          record {
            point = get_last points n (length points) refl ∙ ap Some (sym same);
            target = get_last targets target (length points) (sym before.target_len)
                ∙ ap (λ (w : ℕ × ℕ). Some w.0) ways_are;
            other = get_last others other (length points) (sym before.other_len)
                ∙ ap (λ (w : ℕ × ℕ). Some w.1) ways_are;
          },
        ))
        (less_or at n);
  }

pub no_branches : (f : TacFn) → AreBranches f [] [] [] 0
no_branches f = record {
  target_len = refl;
  other_len = refl;
  rising = λ k within. absurd (omega (arith, within));
  below = λ b at e. absurd (none-some at e);
  listed = λ at ways within is. absurd (omega (arith, within));
}

branch_inside : (body : List Instr) (at : ℕ) (ways : ℕ × ℕ) → ways_in (op_in (slice_get body at)) ≡ Some ways
    → at < length body
branch_inside [] at ways e = absurd (none-some ways e)
branch_inside (i ∷ body) zero ways e = omega arith
branch_inside (i ∷ body) (suc at) ways e = let l = branch_inside body at ways e in omega (arith, l)

pub every_branch : (f : TacFn) (points targets others : List ℕ) → AreBranches f points targets others (length f.body)
    → (at : ℕ) (ways : ℕ × ℕ) → branch_at f at ≡ Some ways → (b : ℕ) × IsListed points targets others b at ways
every_branch f points targets others all at ways is = all.listed at ways (branch_inside f.body at ways is) is

at_least : (xs : List ℕ) → IsStrictlyIncreasing xs → (i : ℕ) → i < length xs → i ≤ get_or xs i 0
at_least xs rises zero within = omega arith
at_least xs rises (suc i) within =
    let before = at_least xs rises i (omega (arith, within)) in
    let less = AllPairs-from_increasing xs rises i (suc i) 0 (omega arith) within in
    omega (arith, before, less)

-- there are no more branches than instructions
pub few_branches : (f : TacFn) (points targets others : List ℕ) (n : ℕ) → AreBranches f points targets others n
    → length points ≤ n
few_branches f points targets others n are = by (length points) refl where
  by : (m : ℕ) → m ≡ length points → length points ≤ n
  by zero e = omega (arith, e)
  by (suc m) e =
      let within : m < length points = omega (arith, e) in
      let least = at_least points are.rising m within in
      let below = are.below m (get_or points m 0) (slice_get-get_or points m 0 within) in
      omega (arith, e, least, below)

-- ---- what dies on a way

module _ (spans : List Span) (points targets : List ℕ) (rows : List (List ℕ)) (rows_are : (b k : ℕ)
    → Relates rows b k ↔ DiesAt spans points targets b k) where
  pub dying_names : (b at to : ℕ) → slice_get points b ≡ Some at → slice_get targets b ≡ Some to → (k : ℕ)
      → Relates rows b k ↔ (IsSpanned spans k at × (IsSpanned spans k to → ⊥))
  dying_names b at to point target k = (
    λ h.
        let dies = (rows_are b k).0 h in (
          record {
            span = dies.0;
            among = dies.1;
            spans = (dies.2, omega (arith, dies.3.from, is_at), omega (arith, dies.3.to, is_at));
          },
          λ lives. dies.3.dead (subst (λ n. IsSpanned spans n (get_or targets b 0)) (sym dies.2)
              (subst (IsSpanned spans k) (sym is_to) lives)),
        ),
    λ h.
        let s = h.0.span in
        (rows_are b k).1 (
          s,
          h.0.among,
          h.0.spans.0,
          record {
            branch = slice_get_within points b at point;
            from = omega (arith, h.0.spans.1, is_at);
            to = omega (arith, h.0.spans.2, is_at);
            dead = λ lives. h.1 (subst (λ n. IsSpanned spans n to) h.0.spans.0
                (subst (IsSpanned spans s.name) is_to lives));
          },
        ),
  )
    where
      is_at : get_or points b 0 ≡ at
      is_at = get_or_from_slice_get points b at 0 point

      is_to : get_or targets b 0 ≡ to
      is_to = get_or_from_slice_get targets b to 0 target

module _ (spans : List Span) (points targets : List ℕ) where
  -- the same of one of the first n spans
  abbrev pub DiesAmong : ℕ → (b k : ℕ) → Type 0
  DiesAmong n b k =
      (s : ℕ) × (s < n) × (span : Span) × (slice_get spans s ≡ Some span) × (span.name ≡ k)
      × Dies spans points targets span b

  pub none_dying : (rows : List (List ℕ)) → ((i x : ℕ) → Relates rows i x → ⊥) → (b k : ℕ)
      → Relates rows b k ↔ DiesAmong 0 b k
  none_dying rows none b k = (λ h. absurd (none b k h), λ h. absurd (omega (arith, h.1)))

  pub dying_more : (n : ℕ) (d : Span) (ends : List ℕ) (old new : List (List ℕ)) → n < length spans
      → ((b : ℕ) → Contains ends b ↔ Dies spans points targets (get_or spans n d) b)
      → ((b k : ℕ) → Relates old b k ↔ DiesAmong n b k)
      → Adds old new (λ b k. Contains ends b × (k ≡ (get_or spans n d).name))
      → (b k : ℕ) → Relates new b k ↔ DiesAmong (n + 1) b k
  dying_more n d ends old new within are before adds b k =
      let span = get_or spans n d in
      let there = slice_get-get_or spans n d within in (
        λ h. ⊎_elim
            (λ o. let e = (before b k).0 o in (e.0, omega (arith, e.1), e.2, e.3, e.4, e.5))
            (λ m. (n, omega arith, span, there, sym m.1, (are b).0 m.0))
            ((adds b k).0 h),
        λ h. (adds b k).1 (⊎_elim
            (λ l. inl ((before b k).1 (h.0, l, h.2, h.3, h.4, h.5)))
            (λ g.
            let same : h.0 ≡ n = omega (arith, g, h.1) in
            let e : h.2 ≡ span = same_Some h.2 span (sym h.3 ∙ ap (slice_get spans) same ∙ there) in
            inr (
              (are b).1 (subst (λ s. Dies spans points targets s b) e h.5),
              sym h.4 ∙ ap (λ (s : Span). s.name) e,
            ))
            (less_or h.0 n)),
      )

  pub all_dying : (rows : List (List ℕ)) (n : ℕ) → length spans ≤ n
      → ((b k : ℕ) → Relates rows b k ↔ DiesAmong n b k)
      → (b k : ℕ) → Relates rows b k ↔ DiesAt spans points targets b k
  all_dying rows n done are b k = (
    λ h. let e = (are b k).0 h in (e.2, found spans e.0 e.2 e.3, e.4, e.5),
    λ d.
        let at = member_at spans d.0 d.1 in
        (are b k).1 (d.1.0, omega (arith, slice_get_within spans d.1.0 d.0 at, done), d.0, at, d.2, d.3),
  )

-- ---- the branches of a span

module _ (spans : List Span) (points targets : List ℕ) (span : Span) (first end : ℕ)
    (bounds : AreInSpan points span first end) where
  pub none_before : (j : ℕ) → Contains [] j ↔ ((j < first) × Dies spans points targets span j)
  none_before j = (
    λ h. absurd (omega (arith, h.1)),
    λ h.
        let inside = bounds.only j h.1.branch h.1.from h.1.to in
        absurd (omega (arith, inside.0, h.0)),
  )

  pub one_branch : (ends ends' : List ℕ) (b : ℕ) (d : Bool) → first ≤ b → b < end → b < length points
      → ((j : ℕ) → Contains ends j ↔ ((j < b) × Dies spans points targets span j))
      → Decides d (IsSpanned spans span.name (get_or targets b 0)) → ends' ≡ pushed_if (not d) ends b
      → (j : ℕ) → Contains ends' j ↔ ((j < b + 1) × Dies spans points targets span j)
  one_branch ends ends' b true after inside within before decides is j = (
    λ h. let old = (before j).0 (subst (λ l. Contains l j) is h) in (omega (arith, old.0), old.1),
    λ h. subst (λ l. Contains l j) (sym is) (⊎_elim
        (λ l. (before j).1 (l, h.1))
        (λ g.
        let same : j ≡ b = omega (arith, g, h.0) in
        absurd (h.1.dead (subst (λ n. IsSpanned spans span.name (get_or targets n 0)) (sym same) (decides.0 refl))))
        (less_or j b)),
  )
  one_branch ends ends' b false after inside within before decides is j = (
    λ h. ⊎_elim
        (λ o. let old = (before j).0 o in (omega (arith, old.0), old.1))
        (λ e. subst (λ n. (n < b + 1) × Dies spans points targets span n) e (
          omega arith,
          record {
            branch = within;
            from = (bounds.inside b after inside).0;
            to = (bounds.inside b after inside).1;
            dead = λ lives. false≢true (decides.1 lives);
          },
        ))
        (Contains-push_cases ends b j (subst (λ l. Contains l j) is h)),
    λ h. subst (λ l. Contains l j) (sym is) (⊎_elim
        (λ l. Contains-append_left ends (b ∷ []) j ((before j).1 (l, h.1)))
        (λ g.
        let same : b ≡ j = omega (arith, g, h.0) in
        subst (Contains (ends ++ b ∷ [])) same (Contains-push ends b))
        (less_or j b)),
  )

  pub all_branches : (ends : List ℕ) (b : ℕ) → end ≤ b
      → ((j : ℕ) → Contains ends j ↔ ((j < b) × Dies spans points targets span j))
      → (j : ℕ) → Contains ends j ↔ Dies spans points targets span j
  all_branches ends b done are j = (
    λ h. ((are j).0 h).1,
    λ h. (are j).1 (
      ⊎_elim
          (λ l. l)
          (λ g. let inside = bounds.only j h.branch h.from h.to in absurd (omega (arith, g, done, inside.1)))
          (less_or j b),
      h,
    ),
  )

-- what two searches find
pub bounds_found : (points : List ℕ) (span : Span) (first end : ℕ)
    → IsPartitionPoint (λ y. nat_lt y span.from ≡ true) (λ y. nat_lt y span.from ≡ false) points first
    → IsPartitionPoint (λ y. nat_le y span.to ≡ true) (λ y. nat_le y span.to ≡ false) points end
    → end ≤ length points → AreInSpan points span first end
bounds_found points span first end from to bound = record {
  bound = bound;
  inside = λ b after before. (
    not_less (get_or points b 0) span.from (from.1 b 0 after (omega (arith, before, bound))),
    at_most (get_or points b 0) span.to (to.0 b 0 (omega arith) before),
  );
  only = λ b within after before. (
    ⊎_elim
        (λ l. absurd (less (get_or points b 0) span.from (from.0 b 0 (omega arith) l) after))
        (λ g. g)
        (less_or b first),
    ⊎_elim
        (λ l. l)
        (λ g. absurd (more (get_or points b 0) span.to (to.1 b 0 g within) before))
        (less_or b end),
  );
}
  where
    not_less : (a b : ℕ) → nat_lt a b ≡ false → b ≤ a
    not_less a b e = grind (arith, nat_tests)

    at_most : (a b : ℕ) → nat_le a b ≡ true → a ≤ b
    at_most a b e = grind (arith, nat_tests)

    less : (a b : ℕ) → nat_lt a b ≡ true → b ≤ a → ⊥
    less a b e l = grind (arith, nat_tests)

    more : (a b : ℕ) → nat_le a b ≡ false → a ≤ b → ⊥
    more a b e l = grind (arith, nat_tests)
