-- What a driver follows of goroutines is kept by all that happens to them. Each case moves items between two lists of one member, or to a
-- list of the driver; no other member is looked at.
use Rattle.std.proofs.Common.{◌≡◌, ◌⊎◌, inl, inr, ℕ, zero, suc, false, List, [], ◌∷◌, ◌++◌, Some, None, map, slice_get, refl, ap, sym, subst, ◌∙◌, ⊎_elim}
use mathlib.Core.Option.{some, some-injective, some-ne-none}
use lib.ListN.{get_elem?}
use Rattle.rgo_core.proofs.Lists.{elem_of, get_of}
use Rattle.rgo_core.specs.Records.{ClockRec, Drawn, Record, blank}
use Rattle.rgo_core.specs.Rule.Views.{HasRow, Rows}
use Rattle.rgo_table_runs.specs.closing.Gathering.{IsDrawnIn}
use Rattle.rgo_table_runs.specs.closing.Members.{AllRetired, SomeHasNumber, HasPlayed, HasPrinted, ListHasNumber, IsOneOf, KeptByAdopting, KeptByGathering, KeptByOrder, KeptByTurn, Member, NoneIsLost, WasGathered, WereAdopted, retired}

-- ---- lists

module _ {A : Type 0} where
  abbrev In : List A → A → Type 0
  In xs x = (i : ℕ) × (get_elem? xs i ≡ some x)

  none_in : (x : A) → In [] x → ⊥
  none_in x t = some-ne-none x (sym t.1)

  in_left : (xs ys : List A) (x : A) → In xs x → In (xs ++ ys) x
  in_left [] ys x t = absurd (none_in x t)
  in_left (z ∷ xs) ys x (zero, e) = (0, e)
  in_left (z ∷ xs) ys x (suc i, e) = let t = in_left xs ys x (i, e) in (suc t.0, t.1)

  in_right : (xs ys : List A) (x : A) → In ys x → In (xs ++ ys) x
  in_right [] ys x t = t
  in_right (z ∷ xs) ys x t = let r = in_right xs ys x t in (suc r.0, r.1)

  in_either : (xs ys : List A) (x : A) → In (xs ++ ys) x → In xs x ⊎ In ys x
  in_either [] ys x t = inr t
  in_either (z ∷ xs) ys x (zero, e) = inl (0, e)
  in_either (z ∷ xs) ys x (suc i, e) = ⊎_elim (λ (t : In xs x). inl (suc t.0, t.1)) (λ (t : In ys x). inr t) (in_either xs ys x (i, e))

  -- it is this one, or one of the others
  in_cons : (z : A) (xs : List A) (x : A) → In (z ∷ xs) x → (z ≡ x) ⊎ In xs x
  in_cons z xs x (zero, e) = inl (some-injective z x e)
  in_cons z xs x (suc i, e) = inr (i, e)

  in_middle : (front rest : List A) (m x : A) → In (front ++ m ∷ rest) x → (m ≡ x) ⊎ ((y : A) → In (front ++ y ∷ rest) x)
  in_middle front rest m x t = ⊎_elim
      (λ (l : In front x). inr (λ y. in_left front (y ∷ rest) x l))
      (λ (r : In (m ∷ rest) x). ⊎_elim
      (λ (e : m ≡ x). inl e)
      (λ (s : In rest x). inr (λ y. in_right front (y ∷ rest) x (suc s.0, s.1)))
      (in_cons m rest x r))
      (in_either front (m ∷ rest) x t)

  the_middle : (front rest : List A) (m : A) → In (front ++ m ∷ rest) m
  the_middle front rest m = in_right front (m ∷ rest) m (0, refl)

  listed : (xs : List A) (x : A) → In xs x → (i : ℕ) × (slice_get xs i ≡ Some x)
  listed xs x t = (t.0, get_of xs t.0 x t.1)

  unlisted : (xs : List A) (x : A) → (i : ℕ) × (slice_get xs i ≡ Some x) → In xs x
  unlisted xs x t = (t.0, elem_of xs t.0 x t.1)

-- ---- members

module _ (front rest : List Member) (m n : Member) (number : n.number ≡ m.number) where
  abbrev old_ones : List Member
  old_ones = front ++ m ∷ rest

  abbrev new_ones : List Member
  new_ones = front ++ n ∷ rest

  same_number : (h : ℕ) → SomeHasNumber old_ones h → SomeHasNumber new_ones h
  same_number h (x, one, is) = ⊎_elim
      (λ (e : m ≡ x). (n, the_middle front rest n, number ∙ (ap (λ (y : Member). y.number) e ∙ is)))
      (λ (t : (y : Member) → IsOneOf (front ++ y ∷ rest) x). (x, t n, is))
      (in_middle front rest m x one)

pub kept_by_order : KeptByOrder
kept_by_order ms ns taken given k s = record {
  main = (k.main.0, s.there k.main.0 k.main.1, k.main.2);
  children = λ m h one listed. ⊎_elim
      (λ (t : SomeHasNumber ms h). inl (t.0, s.there t.0 t.1, t.2))
      (λ (t : ListHasNumber m.unborn h). inr t)
      (k.children m h (s.back m one) listed);
  prints = λ m d one printed valid. ⊎_elim
      (λ (t : IsDrawnIn taken d). inl (s.still d t))
      (λ (t : IsDrawnIn m.fresh d). inr t)
      (k.prints m d (s.back m one) printed valid);
  are = λ d t. let a = k.are d (s.before d t) in (a.0, a.1, s.there a.1 a.2, a.3);
}

module _ (front rest : List Member) (m n : Member) (taken : List Drawn) (p : HasPlayed m n) (k : NoneIsLost (front ++ m ∷ rest) taken) where
  abbrev its : IsOneOf (front ++ m ∷ rest) m
  its = the_middle front rest m

  started_by : (h : ℕ) → ListHasNumber n.its.clock.children h → SomeHasNumber (front ++ n ∷ rest) h ⊎ ListHasNumber n.unborn h
  started_by h t = ⊎_elim
      (λ (s : In p.starts h). inr (subst (λ (l : List ℕ). ListHasNumber l h) (sym p.unborn) (listed (p.starts ++ m.unborn) h (in_left p.starts m.unborn h s))))
      (λ (s : In m.its.clock.children h). ⊎_elim
      (λ (q : SomeHasNumber (front ++ m ∷ rest) h). inl (same_number front rest m n p.number h q))
      (λ (q : ListHasNumber m.unborn h). inr (subst (λ (l : List ℕ). ListHasNumber l h) (sym p.unborn)
      (listed (p.starts ++ m.unborn) h (in_right p.starts m.unborn h (unlisted m.unborn h q)))))
      (k.children m h its (listed m.its.clock.children h s)))
      (in_either p.starts m.its.clock.children h
      (unlisted (p.starts ++ m.its.clock.children) h (subst (λ (l : List ℕ). ListHasNumber l h) p.started t)))

  printed_by : (d : Drawn) → HasPrinted n.its d → d.is_void ≡ false → IsDrawnIn taken d ⊎ IsDrawnIn n.fresh d
  printed_by d t valid = ⊎_elim
      (λ (s : In m.its.clock.prints d). ⊎_elim
      (λ (q : IsDrawnIn taken d). inl q)
      (λ (q : IsDrawnIn m.fresh d). inr (subst (λ (l : List Drawn). IsDrawnIn l d) (sym p.fresh) (in_left m.fresh p.draws d q)))
      (k.prints m d its (listed m.its.clock.prints d s) valid))
      (λ (s : In p.draws d). inr (subst (λ (l : List Drawn). IsDrawnIn l d) (sym p.fresh) (in_right m.fresh p.draws d s)))
      (in_either m.its.clock.prints p.draws d
      (unlisted (m.its.clock.prints ++ p.draws) d (subst (λ (l : List Drawn). (i : ℕ) × (slice_get l i ≡ Some d)) p.printed t)))

  still_printed : (d : Drawn) → HasPrinted m.its d → HasPrinted n.its d
  still_printed d t = subst (λ (l : List Drawn). (i : ℕ) × (slice_get l i ≡ Some d)) (sym p.printed)
      (listed (m.its.clock.prints ++ p.draws) d (in_left m.its.clock.prints p.draws d (unlisted m.its.clock.prints d t)))

  pub played : NoneIsLost (front ++ n ∷ rest) taken
  played = record {
    main = same_number front rest m n p.number 0 k.main;
    children = λ x h one t. ⊎_elim
        (λ (e : n ≡ x). subst (λ (y : Member). SomeHasNumber (front ++ n ∷ rest) h ⊎ ListHasNumber y.unborn h) e
        (started_by h (subst (λ (y : Member). ListHasNumber y.its.clock.children h) (sym e) t)))
        (λ (q : (y : Member) → IsOneOf (front ++ y ∷ rest) x). ⊎_elim
        (λ (s : SomeHasNumber (front ++ m ∷ rest) h). inl (same_number front rest m n p.number h s))
        (λ (s : ListHasNumber x.unborn h). inr s)
        (k.children x h (q m) t))
        (in_middle front rest n x one);
    prints = λ x d one t valid. ⊎_elim
        (λ (e : n ≡ x). subst (λ (y : Member). IsDrawnIn taken d ⊎ IsDrawnIn y.fresh d) e
        (printed_by d (subst (λ (y : Member). HasPrinted y.its d) (sym e) t) valid))
        (λ (q : (y : Member) → IsOneOf (front ++ y ∷ rest) x). k.prints x d (q m) t valid)
        (in_middle front rest n x one);
    are = λ d t.
        let a = k.are d t in
        ⊎_elim
        (λ (e : m ≡ a.1). (a.0, n, the_middle front rest n, still_printed d (subst (λ (y : Member). HasPrinted y.its d) (sym e) a.3)))
        (λ (q : (y : Member) → IsOneOf (front ++ y ∷ rest) a.1). (a.0, a.1, q n, a.3))
        (in_middle front rest m a.1 a.2);
  }

pub kept_by_turn : KeptByTurn
kept_by_turn front rest m n taken p k = played front rest m n taken p k

module _ (front rest : List Member) (m n : Member) (taken given : List Drawn) (w : WasGathered m n taken given)
    (k : NoneIsLost (front ++ m ∷ rest) taken) where
  abbrev number_kept : n.number ≡ m.number
  number_kept = ap (λ (y : Member). y.number) w.is

  its_print : (d : Drawn) → HasPrinted m.its d → HasPrinted n.its d
  its_print d t = subst (λ (y : Member). HasPrinted y.its d) (sym w.is) t

  printed_then : (d : Drawn) → HasPrinted n.its d → d.is_void ≡ false → IsDrawnIn given d
  printed_then d t valid = ⊎_elim
      (λ (q : IsDrawnIn taken d). w.old d q)
      (λ (q : IsDrawnIn m.fresh d). w.all d q valid)
      (k.prints m d (the_middle front rest m) (subst (λ (y : Member). HasPrinted y.its d) w.is t) valid)

  pub gathered_one : NoneIsLost (front ++ n ∷ rest) given
  gathered_one = record {
    main = same_number front rest m n number_kept 0 k.main;
    children = λ x h one t. ⊎_elim
        (λ (e : n ≡ x). ⊎_elim
        (λ (s : SomeHasNumber (front ++ m ∷ rest) h). inl (same_number front rest m n number_kept h s))
        (λ (s : ListHasNumber m.unborn h). inr (subst (λ (y : Member). ListHasNumber y.unborn h) (sym w.is ∙ e) s))
        (k.children m h (the_middle front rest m) (subst (λ (y : Member). ListHasNumber y.its.clock.children h) (sym (sym w.is ∙ e)) t)))
        (λ (q : (y : Member) → IsOneOf (front ++ y ∷ rest) x). ⊎_elim
        (λ (s : SomeHasNumber (front ++ m ∷ rest) h). inl (same_number front rest m n number_kept h s))
        (λ (s : ListHasNumber x.unborn h). inr s)
        (k.children x h (q m) t))
        (in_middle front rest n x one);
    prints = λ x d one t valid. ⊎_elim
        (λ (e : n ≡ x). inl (printed_then d (subst (λ (y : Member). HasPrinted y.its d) (sym e) t) valid))
        (λ (q : (y : Member) → IsOneOf (front ++ y ∷ rest) x). ⊎_elim
        (λ (s : IsDrawnIn taken d). inl (w.old d s))
        (λ (s : IsDrawnIn x.fresh d). inr s)
        (k.prints x d (q m) t valid))
        (in_middle front rest n x one);
    are = λ d t. ⊎_elim
        (λ (s : IsDrawnIn taken d).
        let a = k.are d s in
        ⊎_elim
        (λ (e : m ≡ a.1). (a.0, n, the_middle front rest n, its_print d (subst (λ (y : Member). HasPrinted y.its d) (sym e) a.3)))
        (λ (q : (y : Member) → IsOneOf (front ++ y ∷ rest) a.1). (a.0, a.1, q n, a.3))
        (in_middle front rest m a.1 a.2))
        (λ (s : IsDrawnIn m.fresh d × (d.is_void ≡ false) × HasPrinted m.its d). (s.1, n, the_middle front rest n, its_print d s.2))
        (w.only d t);
  }

pub kept_by_gathering : KeptByGathering
kept_by_gathering front rest m n taken given w k = gathered_one front rest m n taken given w k

module _ (front rest more : List Member) (m n : Member) (taken : List Drawn) (w : WereAdopted m n more)
    (k : NoneIsLost (front ++ m ∷ rest) taken) where
  abbrev adopted_number : n.number ≡ m.number
  adopted_number = ap (λ (y : Member). y.number) w.is

  abbrev all_then : List Member
  all_then = (front ++ n ∷ rest) ++ more

  still_number : (h : ℕ) → SomeHasNumber (front ++ m ∷ rest) h → SomeHasNumber all_then h
  still_number h q =
      let s = same_number front rest m n adopted_number h q in
      (s.0, in_left (front ++ n ∷ rest) more s.0 s.1, s.2)

  new_number : (h : ℕ) → SomeHasNumber more h → SomeHasNumber all_then h
  new_number h q = (q.0, in_right (front ++ n ∷ rest) more q.0 q.1, q.2)

  no_child : (c : ClockRec) → c ≡ blank → (h : ℕ) → ListHasNumber c.children h → ⊥
  no_child c e h t = let z : None ≡ Some h = subst (λ (y : ClockRec). slice_get y.children t.0 ≡ Some h) e t.1 in cc z

  no_print : (c : ClockRec) → c ≡ blank → (d : Drawn) → (i : ℕ) × (slice_get c.prints i ≡ Some d) → ⊥
  no_print c e d t = let z : None ≡ Some d = subst (λ (y : ClockRec). slice_get y.prints t.0 ≡ Some d) e t.1 in cc z

  children_of : (x : Member) (h : ℕ) → IsOneOf all_then x → ListHasNumber x.its.clock.children h → SomeHasNumber all_then h ⊎ ListHasNumber x.unborn h
  children_of x h one t = ⊎_elim
      (λ (o : IsOneOf (front ++ n ∷ rest) x). ⊎_elim
      (λ (e : n ≡ x). inl (⊎_elim
      (λ (s : SomeHasNumber (front ++ m ∷ rest) h). still_number h s)
      (λ (s : ListHasNumber m.unborn h). new_number h (w.all h s))
      (k.children m h (the_middle front rest m) (subst (λ (y : Member). ListHasNumber y.its.clock.children h) (sym (sym w.is ∙ e)) t))))
      (λ (q : (y : Member) → IsOneOf (front ++ y ∷ rest) x). ⊎_elim
      (λ (s : SomeHasNumber (front ++ m ∷ rest) h). inl (still_number h s))
      (λ (s : ListHasNumber x.unborn h). inr s)
      (k.children x h (q m) t))
      (in_middle front rest n x o))
      (λ (o : IsOneOf more x). absurd (no_child x.its.clock (w.new x o).0 h t))
      (in_either (front ++ n ∷ rest) more x one)

  prints_of : (x : Member) (d : Drawn) → IsOneOf all_then x → HasPrinted x.its d → d.is_void ≡ false → IsDrawnIn taken d ⊎ IsDrawnIn x.fresh d
  prints_of x d one t valid = ⊎_elim
      (λ (o : IsOneOf (front ++ n ∷ rest) x). ⊎_elim
      (λ (e : n ≡ x). subst (λ (y : Member). IsDrawnIn taken d ⊎ IsDrawnIn y.fresh d) (sym w.is ∙ e)
      (k.prints m d (the_middle front rest m) (subst (λ (y : Member). HasPrinted y.its d) (sym (sym w.is ∙ e)) t) valid))
      (λ (q : (y : Member) → IsOneOf (front ++ y ∷ rest) x). k.prints x d (q m) t valid)
      (in_middle front rest n x o))
      (λ (o : IsOneOf more x). absurd (no_print x.its.clock (w.new x o).0 d t))
      (in_either (front ++ n ∷ rest) more x one)

  pub adopted_all : NoneIsLost all_then taken
  adopted_all = record {
    main = still_number 0 k.main;
    children = children_of;
    prints = prints_of;
    are = λ d t.
        let a = k.are d t in
        ⊎_elim
        (λ (e : m ≡ a.1). (
          a.0,
          n,
          in_left (front ++ n ∷ rest) more n (the_middle front rest n),
          subst (λ (y : Member). HasPrinted y.its d) (sym w.is) (subst (λ (y : Member). HasPrinted y.its d) (sym e) a.3),
        ))
        (λ (q : (y : Member) → IsOneOf (front ++ y ∷ rest) a.1). (a.0, a.1, in_left (front ++ n ∷ rest) more a.1 (q n), a.3))
        (in_middle front rest m a.1 a.2);
  }

pub kept_by_adopting : KeptByAdopting
kept_by_adopting front rest more m n taken w k = adopted_all front rest more m n taken w k

-- ---- at the close

module _ (rows : Rows Record) where
  -- the row of a member
  row_of : (rows : Rows Record) (m : Member) → IsOneOf (map retired rows) m → HasRow rows m.number m.its × (m ≡ retired (m.number, m.its))
  row_of [] m t = absurd (none_in m t)
  row_of (r ∷ rows) m (zero, e) =
      let q = some-injective (retired r) m e in
      ((0, λ i. some ((q i).number, (q i).its)), sym q ∙ (λ i. retired ((q i).number, (q i).its)))
  row_of (r ∷ rows) m (suc i, e) = let t = row_of rows m (i, e) in ((suc t.0.0, t.0.1), t.1)

  member_of : (rows : Rows Record) (g : ℕ) (c : Record) → HasRow rows g c → IsOneOf (map retired rows) (retired (g, c))
  member_of [] g c t = absurd (some-ne-none (g, c) (sym t.1))
  member_of (r ∷ rows) g c (zero, e) = (0, ap (λ (x : ℕ × Record). some (retired x)) (some-injective r (g, c) e))
  member_of (r ∷ rows) g c (suc i, e) = let t = member_of rows g c (i, e) in (suc t.0, t.1)

pub all_retired : AllRetired
all_retired v taken k = (
  record {
    main =
        let t = row_of v.records v.records k.main.0 k.main.1 in
        (k.main.0.its, subst (λ (n : ℕ). HasRow v.records n k.main.0.its) k.main.2 t.0);
    children = λ g h i c has at. ⊎_elim
        (λ (q : SomeHasNumber (map retired v.records) h).
        let t = row_of v.records v.records q.0 q.1 in (q.0.its, subst (λ (n : ℕ). HasRow v.records n q.0.its) q.2 t.0))
        (λ (q : ListHasNumber [] h). let z : None ≡ Some h = q.1 in absurd (cc z))
        (k.children (retired (g, c)) h (member_of v.records v.records g c has) (i, at));
  },
  λ d p valid. ⊎_elim
      (λ (q : IsDrawnIn taken d). q)
      (λ (q : IsDrawnIn [] d). absurd (none_in d q))
      (k.prints (retired (p.goroutine, p.its)) d (member_of v.records v.records p.goroutine p.its p.has)
      (listed p.its.clock.prints d (p.place, p.there)) valid),
  λ d t.
      let a = k.are d t in
      let r = row_of v.records v.records a.1 a.2 in
      let q = unlisted a.1.its.clock.prints d a.3 in
      (a.0, record { goroutine = a.1.number; its = a.1.its; has = r.0; place = q.0; there = q.1 }),
)
