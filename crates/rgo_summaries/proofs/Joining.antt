-- Nodes that are added and joined.
use Rattle.std.proofs.Common.{◌≡◌, ◌≢◌, ◌⊎◌, inl, inr, ⊎_elim, ℕ, ◌<◌, ◌≤◌, ◌+◌, Bool, true, false, List, [], ◌∷◌, ◌++◌, Option, Some, None, Vec, length, set, get_or, refl, sym, ap, ◌∙◌, subst, arith, length-append}
use Rattle.std.specs.Prelude.{if◌then◌else◌, sum_by, ◌^◌}
use Rattle.std.specs.Global.{Global}
use Rattle.std.specs.List.{Contains}
use Rattle.std.proofs.lemmas.Bool.{cases_lt}
use Rattle.std.proofs.lemmas.Option.{same_Some, none-some}
use Rattle.std.proofs.lemmas.List.{get_or-set_same, get_or-set_other, get_or_append_left, get_or_push, get_or_past, length-set, map-append}
use Rattle.std.proofs.lemmas.List.Elements.{Contains-push}
use Rattle.std.proofs.lemmas.List.Sums.{sum_by-set}
use Rattle.rgo_classes.specs.Moves.{AreRows, Merges, MovesTo, members_of_label, member_rows}
use Rattle.rgo_classes.proofs.Moving.{eq_cases, merges_moved}
use Rattle.rgo_classes.proofs.Rows.{label_below, label_in_rows, one_member, row_inside}
use Rattle.rgo_summaries.specs.declared.nodes.Nodes.{Nodes}
use Rattle.rgo_summaries.specs.Joining.{IsNodes, GoesOver, Grows, AreJoinedNodes, Crosses, AreNews, JoinsNodes, both, either, label_at, seen_at, seen_count, seen_if, size_of, some_count}

-- ---- a node more

module _ (labels : List ℕ) (rows : List (Vec ℕ Global)) (row : Vec ℕ Global) (n : ℕ) (size : n ≡ length labels)
    (is : AreRows labels (member_rows rows)) (alone : row.items ≡ n ∷ []) where
  abbrev more : List ℕ
  more = labels ++ n ∷ []

  rows_more : member_rows (rows ++ row ∷ []) ≡ member_rows rows ++ row.items ∷ []
  rows_more = map-append (λ (r : Vec ℕ Global). r.items) rows (row ∷ [])

  row_before : (l : ℕ) → l < length labels → members_of_label (member_rows (rows ++ row ∷ [])) l ≡ members_of_label (member_rows rows) l
  row_before l b =
      ap (λ (r : List (List ℕ)). members_of_label r l) rows_more
      ∙ get_or_append_left (member_rows rows) (row.items ∷ []) [] l (omega (arith, b, is.size))

  row_here : members_of_label (member_rows (rows ++ row ∷ [])) n ≡ n ∷ []
  row_here =
      ap (λ (r : List (List ℕ)). members_of_label r n) rows_more
      ∙ get_or_push (member_rows rows) row.items [] n (is.size ∙ sym size) ∙ alone

  label_before : (m : ℕ) → m < length labels → get_or more m 0 ≡ get_or labels m 0
  label_before m b = get_or_append_left labels (n ∷ []) 0 m b

  label_here : get_or more n 0 ≡ n
  label_here = get_or_push labels n 0 n (sym size)

  labelled_more : (m : ℕ) → m < length more → Contains (members_of_label (member_rows (rows ++ row ∷ [])) (get_or more m 0)) m
  labelled_more m l = ⊎_elim
      (λ b. subst (λ (r : List ℕ). Contains r m)
      (sym (ap (members_of_label (member_rows (rows ++ row ∷ []))) (label_before m b)
      ∙ row_before (get_or labels m 0) (label_below labels (member_rows rows) m is b)))
      (is.labelled m b))
      (λ b.
      let e : m ≡ n = omega (arith, l, b, size, length-append labels (n ∷ [])) in
      subst (λ (r : List ℕ). Contains r m)
      (sym (ap (λ k. members_of_label (member_rows (rows ++ row ∷ [])) (get_or more k 0)) e
      ∙ ap (members_of_label (member_rows (rows ++ row ∷ []))) label_here ∙ row_here))
      (subst (Contains (n ∷ [])) (sym e) (Contains-push [] n)))
      (cases_lt m (length labels))

  abbrev InMore : ℕ → ℕ → Type 0
  InMore l m = (m < length more) × (get_or more m 0 ≡ l)

  inside_more : (l m : ℕ) → Contains (members_of_label (member_rows (rows ++ row ∷ [])) l) m → InMore l m
  inside_more l m h = ⊎_elim
      (λ b.
      let i = is.inside l m (subst (λ (r : List ℕ). Contains r m) (row_before l b) h) in
      (omega (arith, i.0, length-append labels (n ∷ [])), label_before m i.0 ∙ i.1))
      (λ b.
      let inside = row_inside (member_rows (rows ++ row ∷ [])) l m h in
      let e : l ≡ n = omega (
        arith,
        inside,
        b,
        size,
        is.size,
        ap (λ (r : List (List ℕ)). length r) rows_more,
        length-append (member_rows rows) (row.items ∷ []),
      ) in
      let here = one_member n m (subst (λ (r : List ℕ). Contains r m)
      (ap (members_of_label (member_rows (rows ++ row ∷ []))) e ∙ row_here) h) in (
        omega (arith, here, size, length-append labels (n ∷ [])),
        ap (λ k. get_or more k 0) here ∙ label_here
            ∙ sym e,
      ))
      (cases_lt l (length labels))

  pub are_rows_more : AreRows more (member_rows (rows ++ row ∷ []))
  are_rows_more = record {
    size = omega (
      arith,
      is.size,
      ap (λ (r : List (List ℕ)). length r) rows_more,
      length-append (member_rows rows) (row.items ∷ []),
      length-append labels (n ∷ []),
    );
    labelled = labelled_more;
    inside = inside_more;
  }

module _ (old new : Nodes) (is_seen : Bool) (row : Vec ℕ Global) (o : IsNodes old)
    (first : is_seen ≡ true → old.width ≡ size_of old) (g : Grows old new is_seen)
    (rows : new.rows.items ≡ old.rows.items ++ row ∷ []) (alone : row.items ≡ size_of old ∷ [])
    (seen : new.seen.items ≡ old.seen.items ++ seen_if is_seen (size_of old) ∷ [])
    (few : size_of old + 1 < 2 ^ 64) where
  size_more : size_of new ≡ size_of old + 1
  size_more = ap (λ (l : List ℕ). length l) g.labels ∙ length-append old.labels.items (size_of old ∷ [])

  pub label_kept : (x : ℕ) → x < size_of old → label_at new x ≡ label_at old x
  label_kept x l =
      ap (λ (s : List ℕ). get_or s x 0) g.labels ∙ get_or_append_left old.labels.items (size_of old ∷ []) 0 x l

  pub label_new : label_at new (size_of old) ≡ size_of old
  label_new =
      ap (λ (s : List ℕ). get_or s (size_of old) 0) g.labels
      ∙ get_or_push old.labels.items (size_of old) 0 (size_of old) refl

  seen_before : (l : ℕ) → l < size_of old → seen_at new.seen.items l ≡ seen_at old.seen.items l
  seen_before l b =
      ap (λ (s : List (Option ℕ)). seen_at s l) seen
      ∙ get_or_append_left old.seen.items (seen_if is_seen (size_of old) ∷ []) None l (omega (arith, b, o.seen_len))

  seen_here : seen_at new.seen.items (size_of old) ≡ seen_if is_seen (size_of old)
  seen_here =
      ap (λ (s : List (Option ℕ)). seen_at s (size_of old)) seen
      ∙ get_or_push old.seen.items (seen_if is_seen (size_of old)) None (size_of old) o.seen_len

  seen_len : length new.seen.items ≡ size_of new
  seen_len =
      omega (
        arith,
        ap (λ (s : List (Option ℕ)). length s) seen,
        length-append old.seen.items (seen_if is_seen (size_of old) ∷ []),
        o.seen_len,
        size_more,
      )

  -- by whether callers see it
  record Seen : Type 0 where
    wide : old.width ≡ size_of old
    wider : new.width ≡ old.width + 1
    here : seen_at new.seen.items (size_of old) ≡ Some (size_of old)

  record Unseen : Type 0 where
    same : new.width ≡ old.width
    none : seen_at new.seen.items (size_of old) ≡ None

  abbrev By : Bool → Type 0
  By b = (b ≡ true → old.width ≡ size_of old) → (new.width ≡ (if b then old.width + 1 else old.width))
      → (seen_at new.seen.items (size_of old) ≡ seen_if b (size_of old)) → Seen ⊎ Unseen

  by_bool : (b : Bool) → By b
  by_bool true = λ f w s. inl (record { wide = f refl; wider = w; here = s })
  by_bool false = λ f w s. inr (record { same = w; none = s })

  seen_or_not : Seen ⊎ Unseen
  seen_or_not = by_bool is_seen first g.width seen_here

  width_up : old.width ≤ new.width
  width_up = ⊎_elim (λ s. omega (arith, s.wider)) (λ s. omega (arith, s.same)) seen_or_not

  abbrev Is : ℕ → ℕ → Type 0
  Is l x = (x < new.width) × (label_at new x ≡ l)

  is_before : (l x : ℕ) → l < size_of old → seen_at new.seen.items l ≡ Some x → Is l x
  is_before l x b e =
      let i = o.is l x (sym (seen_before l b) ∙ e) in
      (omega (arith, i.0, width_up), label_kept x (omega (arith, i.0, o.width)) ∙ i.1)

  is_here : (l x : ℕ) → l ≡ size_of old → seen_at new.seen.items l ≡ Some x → Is l x
  is_here l x at e = ⊎_elim
      (λ s.
      let same : size_of old ≡ x = same_Some (size_of old) x
      (sym s.here ∙ ap (seen_at new.seen.items) (sym at) ∙ e) in
      (omega (arith, same, s.wide, s.wider), ap (label_at new) (sym same) ∙ label_new ∙ sym at))
      (λ s. absurd (none-some x (sym s.none ∙ ap (seen_at new.seen.items) (sym at) ∙ e)))
      seen_or_not

  is_past : (l x : ℕ) → size_of old < l → seen_at new.seen.items l ≡ Some x → Is l x
  is_past l x b e =
      absurd (none-some x (sym (get_or_past new.seen.items l None (omega (arith, b, seen_len, size_more))) ∙ e))

  is_more : (l x : ℕ) → seen_at new.seen.items l ≡ Some x → Is l x
  is_more l x e = ⊎_elim
      (λ b. is_before l x b e)
      (λ b. ⊎_elim (λ c. is_past l x c e) (λ c. is_here l x (omega (arith, b, c)) e) (cases_lt (size_of old) l))
      (cases_lt l (size_of old))

  has_before : (x : ℕ) → x < old.width → (y : ℕ) × (seen_at new.seen.items (label_at new x) ≡ Some y)
  has_before x l =
      let within : x < size_of old = omega (arith, l, o.width) in
      let h = o.has x l in (
        h.0,
        ap (seen_at new.seen.items) (label_kept x within)
            ∙ seen_before (label_at old x)
            (label_below old.labels.items (member_rows old.rows.items) x o.rows within) ∙ h.1,
      )

  has_more : (x : ℕ) → x < new.width → (y : ℕ) × (seen_at new.seen.items (label_at new x) ≡ Some y)
  has_more x l = ⊎_elim
      (λ b. has_before x b)
      (λ b. ⊎_elim
      (λ s.
      let e : x ≡ size_of old = omega (arith, l, b, s.wide, s.wider) in (
        size_of old,
        ap (λ k. seen_at new.seen.items (label_at new k)) e ∙ ap (seen_at new.seen.items) label_new
            ∙ s.here,
      ))
      (λ s. absurd (omega (arith, l, b, s.same)))
      seen_or_not)
      (cases_lt x old.width)

  pub grown_is : IsNodes new
  grown_is = record {
    few = omega (arith, few, size_more);
    rows =
        subst (λ (l : List ℕ). AreRows l (member_rows new.rows.items)) (sym g.labels)
        (subst (λ (r : List (Vec ℕ Global)). AreRows (old.labels.items ++ size_of old ∷ []) (member_rows r)) (sym rows)
        (are_rows_more old.labels.items old.rows.items row (size_of old) refl o.rows alone));
    seen_len = seen_len;
    width = ⊎_elim (λ s. omega (arith, s.wide, s.wider, size_more))
        (λ s. omega (arith, s.same, size_more, o.width)) seen_or_not;
    is = is_more;
    has = has_more;
  }

-- ---- one class goes over to another

abbrev HasGone : Option ℕ → Option ℕ → ℕ → Type 0
HasGone had given x = (had ≡ Some x) ⊎ (given ≡ Some x)

either_cases : (had given : Option ℕ) (x : ℕ) → either had given ≡ Some x → HasGone had given x
either_cases None given x e = inr e
either_cases (Some y) given x e = inl e

either_had : (had given : Option ℕ) (x : ℕ) → had ≡ Some x → either had given ≡ Some x
either_had None given x e = absurd (none-some x e)
either_had (Some y) given x e = e

either_given : (had given : Option ℕ) (x : ℕ) → given ≡ Some x → (y : ℕ) × (either had given ≡ Some y)
either_given None given x e = (x, e)
either_given (Some y) given x e = (y, refl)

either_count : (had given : Option ℕ)
    → some_count (either had given) + some_count (both given had) ≡ some_count given + some_count had
either_count None None = refl
either_count None (Some x) = refl
either_count (Some y) None = refl
either_count (Some y) (Some x) = refl

module _ (old new : Nodes) (from to : ℕ) (o : IsNodes old) (apart : from ≢ to) (from_in : from < size_of old)
    (to_in : to < size_of old) (news : Option (ℕ × ℕ)) (g : GoesOver old new from to news) where
  abbrev was : ℕ → Option ℕ
  was l = seen_at old.seen.items l

  abbrev cleared : List (Option ℕ)
  cleared = set old.seen.items from None

  from_seen : from < length old.seen.items
  from_seen = omega (arith, from_in, o.seen_len)

  to_cleared : to < length cleared
  to_cleared = omega (arith, to_in, o.seen_len, length-set old.seen.items from None)

  at_from : seen_at new.seen.items from ≡ None
  at_from =
      ap (λ (s : List (Option ℕ)). seen_at s from) g.seen
      ∙ get_or-set_other cleared to from (either (was to) (was from)) None apart
      ∙ get_or-set_same old.seen.items from None None from_seen

  at_to : seen_at new.seen.items to ≡ either (was to) (was from)
  at_to =
      ap (λ (s : List (Option ℕ)). seen_at s to) g.seen
      ∙ get_or-set_same cleared to (either (was to) (was from)) None to_cleared

  at_other : (l : ℕ) → l ≢ from → l ≢ to → seen_at new.seen.items l ≡ was l
  at_other l nf nt =
      ap (λ (s : List (Option ℕ)). seen_at s l) g.seen
      ∙ get_or-set_other cleared to l (either (was to) (was from)) None nt
      ∙ get_or-set_other old.seen.items from l None None nf

  abbrev IsNow : ℕ → ℕ → Type 0
  IsNow l x = (x < new.width) × (label_at new x ≡ l)

  -- a node that was seen in a class that stays
  stays : (l x : ℕ) → l ≢ from → was l ≡ Some x → IsNow l x
  stays l x n e =
      let i = o.is l x e in
      (omega (arith, i.0, g.width), g.labels.kept x (omega (arith, i.0, o.width)) (λ q. n (sym i.1 ∙ q)) ∙ i.1)

  goes : (x : ℕ) → was from ≡ Some x → IsNow to x
  goes x e =
      let i = o.is from x e in
      (omega (arith, i.0, g.width), g.labels.moved x (omega (arith, i.0, o.width)) i.1)

  is_to : (x : ℕ) → seen_at new.seen.items to ≡ Some x → IsNow to x
  is_to x e = ⊎_elim
      (λ h. stays to x (λ q. apart (sym q)) h)
      (λ h. goes x h)
      (either_cases (was to) (was from) x (sym at_to ∙ e))

  is_now : (l x : ℕ) → seen_at new.seen.items l ≡ Some x → IsNow l x
  is_now l x e = ⊎_elim
      (λ q. absurd (none-some x (sym at_from ∙ ap (seen_at new.seen.items) (sym q) ∙ e)))
      (λ nf. ⊎_elim
      (λ q. subst (λ k. IsNow k x) (sym q) (is_to x (ap (seen_at new.seen.items) (sym q) ∙ e)))
      (λ nt. stays l x nf (sym (at_other l nf nt) ∙ e))
      (eq_cases l to))
      (eq_cases l from)

  abbrev HasNow : ℕ → Type 0
  HasNow l = (y : ℕ) × (seen_at new.seen.items l ≡ Some y)

  has_from : (x : ℕ) → was from ≡ Some x → HasNow to
  has_from x e = let g = either_given (was to) (was from) x e in (g.0, at_to ∙ g.1)

  has_stayed : (l x : ℕ) → l ≢ from → was l ≡ Some x → HasNow l
  has_stayed l x nf e = ⊎_elim
      (λ q. (x, ap (seen_at new.seen.items) q ∙ at_to ∙ either_had (was to) (was from) x (ap was (sym q) ∙ e)))
      (λ nt. (x, at_other l nf nt ∙ e))
      (eq_cases l to)

  has_now : (x : ℕ) → x < new.width → HasNow (label_at new x)
  has_now x l =
      let before : x < old.width = omega (arith, l, g.width) in
      let within : x < size_of old = omega (arith, before, o.width) in
      let h = o.has x before in
      ⊎_elim
      (λ e. subst HasNow (sym (g.labels.moved x within e)) (has_from h.0 (ap was (sym e) ∙ h.1)))
      (λ n. subst HasNow (sym (g.labels.kept x within n)) (has_stayed (label_at old x) h.0 n h.1))
      (eq_cases (label_at old x) from)

  pub moved_is : IsNodes new
  moved_is = record {
    few = omega (arith, o.few, g.labels.size);
    rows = g.rows;
    seen_len =
        omega (
          arith,
          ap (λ (s : List (Option ℕ)). length s) g.seen,
          length-set cleared to (either (was to) (was from)),
          length-set old.seen.items from None,
          o.seen_len,
          g.labels.size,
        );
    width = omega (arith, o.width, g.width, g.labels.size);
    is = is_now;
    has = has_now;
  }

  -- ---- the labels of the two nodes are these, in either order

  pub news_count : some_count (both (was from) (was to)) + seen_count new ≤ seen_count old
  news_count =
      let one = sum_by-set some_count old.seen.items from None None from_seen in
      let other = sum_by-set some_count cleared to (either (was to) (was from)) None to_cleared in
      let at = get_or-set_other old.seen.items from to None None (λ q. apart (sym q)) in
      let now = ap (λ (s : List (Option ℕ)). sum_by some_count s) g.seen in
      omega (arith, one, other, ap some_count at, now, either_count (was to) (was from))

  module _ (a b : ℕ) (a_in : a < size_of old) (b_in : b < size_of old)
      (merges : Merges old.labels.items new.labels.items a b) where
    same_old : (x y : ℕ) → x < size_of old → y < size_of old → label_at old x ≡ label_at old y → AreJoinedNodes old x y
    same_old x y lx ly e = (lx, ly, e)

    joined_kept : (x y : ℕ) → AreJoinedNodes old x y → AreJoinedNodes new x y
    joined_kept x y s = (
      omega (arith, s.0, g.labels.size),
      omega (arith, s.1, g.labels.size),
      merges.kept x y s.0 s.1 s.2,
    )

    abbrev Only : ℕ → ℕ → Type 0
    Only x y = AreJoinedNodes old x y ⊎ (Crosses old a b x y ⊎ Crosses old b a x y)

    joined_only : (x y : ℕ) → AreJoinedNodes new x y → Only x y
    joined_only x y s =
        let lx : x < size_of old = omega (arith, s.0, g.labels.size) in
        let ly : y < size_of old = omega (arith, s.1, g.labels.size) in
        ⊎_elim
        (λ e. inl (lx, ly, e))
        (λ t. ⊎_elim
        (λ e. inr (inl ((lx, a_in, e.0), (b_in, ly, sym e.1))))
        (λ e. inr (inr ((lx, b_in, e.0), (a_in, ly, sym e.1))))
        t)
        (merges.only x y lx ly s.2)

    -- seen nodes of both classes are heard of
    seen_label : (x l : ℕ) → x < old.width → label_at old x ≡ l → (y : ℕ) × (was l ≡ Some y)
    seen_label x l w e = let h = o.has x w in (h.0, ap was (sym e) ∙ h.1)

    not_both : (given had : Option ℕ) (x y : ℕ) → both given had ≡ None → given ≡ Some x → had ≡ Some y → ⊥
    not_both given had x y e g h = none-some (x, y) (sym e ∙ ap (λ k. both k had) g ∙ ap (both (Some x)) h)

    abbrev Ends : (x y : ℕ) → Type 0
    Ends x y = (label_at old x ≡ from) × (label_at old y ≡ to)

    none_ends : (x y : ℕ) → x < old.width → y < old.width → both (was from) (was to) ≡ None → Ends x y → ⊥
    none_ends x y wx wy e ends =
        let p = seen_label x from wx ends.0 in
        let q = seen_label y to wy ends.1 in
        not_both (was from) (was to) p.0 q.0 e p.1 q.1

    -- in the order of the labels
    module _ (ends : (label_at old a ≡ from) × (label_at old b ≡ to)) where
      heard_none : both (was from) (was to) ≡ None → AreNews old new a b None
      heard_none e x y wx wy s = ⊎_elim
          (λ h. h)
          (λ t. ⊎_elim
          (λ c. absurd (none_ends x y wx wy e (c.0.2 ∙ ends.0, sym c.1.2 ∙ ends.1)))
          (λ c. absurd (none_ends y x wy wx e (sym c.1.2 ∙ ends.0, c.0.2 ∙ ends.1)))
          t)
          (joined_only x y s)

      heard_some : (u v : ℕ) → was from ≡ Some u → was to ≡ Some v → AreNews old new a b (Some (u, v))
      heard_some u v p q =
          let i = o.is from u p in
          let j = o.is to v q in
          let lu : u < size_of old = omega (arith, i.0, o.width) in
          let lv : v < size_of old = omega (arith, j.0, o.width) in
          (i.0, j.0, inl ((lu, a_in, i.1 ∙ sym ends.0), (b_in, lv, ends.1 ∙ sym j.1)))

      heard_by : (given had : Option ℕ) → was from ≡ given → was to ≡ had → AreNews old new a b (both given had)
      heard_by None had p q = heard_none (ap (λ k. both k (was to)) p)
      heard_by (Some u) None p q = heard_none (ap (λ k. both k (was to)) p ∙ ap (both (Some u)) q)
      heard_by (Some u) (Some v) p q = heard_some u v p q

      pub joins_nodes : JoinsNodes old new a b news
      joins_nodes = record {
        size = g.labels.size;
        width = g.width;
        met = (omega (arith, a_in, g.labels.size), omega (arith, b_in, g.labels.size), merges.met);
        kept = joined_kept;
        only = joined_only;
        heard = subst (AreNews old new a b) (sym g.is_news) (heard_by (was from) (was to) refl refl);
        counted = subst (λ k. some_count k + seen_count new ≤ seen_count old) (sym g.is_news) news_count;
      }

-- two nodes in the other order
news_turned : (old new : Nodes) (a b : ℕ) (news : Option (ℕ × ℕ)) → AreNews old new b a news → AreNews old new a b news
news_turned old new a b None h = h
news_turned old new a b (Some p) h = (h.0, h.1, ⊎_elim (λ c. inr c) (λ c. inl c) h.2)

pub joins_turned : (old new : Nodes) (a b : ℕ) (news : Option (ℕ × ℕ)) → JoinsNodes old new b a news
    → JoinsNodes old new a b news
joins_turned old new a b news j = record {
  size = j.size;
  width = j.width;
  met = (j.met.1, j.met.0, sym j.met.2);
  kept = j.kept;
  only = λ x y s. ⊎_elim (λ h. inl h) (λ t. ⊎_elim (λ c. inr (inr c)) (λ c. inr (inl c)) t) (j.only x y s);
  heard = news_turned old new a b news j.heard;
  counted = j.counted;
}

pub joins_same : (n : Nodes) (a b : ℕ) → AreJoinedNodes n a b → JoinsNodes n n a b None
joins_same n a b s = record {
  size = refl;
  width = refl;
  met = s;
  kept = λ x y h. h;
  only = λ x y h. inl h;
  heard = λ x y wx wy h. h;
  counted = omega arith;
}

-- a label has a row
pub label_has_row : (n : Nodes) (x : ℕ) → IsNodes n → x < size_of n → (label_at n x < size_of n)
    × (label_at n x < length n.rows.items)
label_has_row n x is l = (
  label_below n.labels.items (member_rows n.rows.items) x is.rows l,
  label_in_rows n.labels.items n.rows.items x is.rows l,
)

-- ---- what joining two nodes makes

module _ (old new : Nodes) (a b : ℕ) (o : IsNodes old) (la : a < size_of old) (lb : b < size_of old) (from to : ℕ)
    (from_is : from ≡ label_at old a) (to_is : to ≡ label_at old b) (apart : from ≢ to) (news : Option (ℕ × ℕ))
    (g : GoesOver old new from to news) where
  went_from : from < size_of old
  went_from = omega (arith, from_is, (label_has_row old a o la).0)

  went_to : to < size_of old
  went_to = omega (arith, to_is, (label_has_row old b o lb).0)

  pub went_is : IsNodes new
  went_is = moved_is old new from to o apart went_from went_to news g

  merges : Merges old.labels.items new.labels.items a b
  merges =
      merges_moved old.labels.items new.labels.items a b la lb (λ e. apart (from_is ∙ e ∙ sym to_is))
      (subst (λ l. MovesTo old.labels.items new.labels.items l (label_at old b)) from_is
      (subst (λ l. MovesTo old.labels.items new.labels.items from l) to_is g.labels))

  pub went_joins : JoinsNodes old new a b news
  went_joins =
      joins_nodes old new from to o apart went_from went_to news g a b la lb merges (sym from_is, sym to_is)
