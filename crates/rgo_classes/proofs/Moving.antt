-- Labels that change, with the rows of members. A move from one label to another merges two classes and keeps the others apart.
use Rattle.std.proofs.Common.{◌≡◌, ◌≢◌, ◌⊎◌, inl, inr, ⊎_elim, ℕ, ◌<◌, List, [], ◌∷◌, ◌++◌, length, set, get_or, refl, sym, ap, ◌∙◌, subst, arith}
use Rattle.std.specs.List.{Contains}
use Rattle.std.proofs.lemmas.List.{get_or-set_same, get_or-set_other}
use Rattle.std.proofs.lemmas.List.Elements.{Contains-append_left, Contains-append_right, Contains-append_cases, Contains-push, Contains-push_cases}
use Rattle.std.proofs.Math.ListN.{length-set}
use Rattle.rgo_classes.specs.Moves.{Relabels, MovesTo, Merges, AreRows, members_of_label}

pub eq_cases : (p q : ℕ) → (p ≡ q) ⊎ (p ≢ q)
eq_cases p q = grind arith

pub no_member : {X : Type 0} (x : X) → Contains [] x → ⊥
no_member x h = omega (arith, h.1)

-- ---- a label is given to members, one after another

pub relabels_none : (labels : List ℕ) (label : ℕ) → Relabels labels labels [] label
relabels_none labels label = record { size = refl; now = λ m h. absurd (no_member m h); others = λ m. inl refl }

pub relabels_more : (old new these : List ℕ) (label m : ℕ) → m < length new → Relabels old new these label
    → Relabels old (set new m label) (these ++ m ∷ []) label
relabels_more old new these label m b r = record {
  size = length-set new m label ∙ r.size;
  now = λ k h. ⊎_elim
      (λ e. ap (λ j. get_or (set new m label) j 0) e ∙ get_or-set_same new m label 0 b)
      (λ n. get_or-set_other new m k label 0 n
      ∙ ⊎_elim (λ o. r.now k o) (λ e. absurd (n (sym e))) (Contains-push_cases these m k h))
      (eq_cases k m);
  others = λ k. ⊎_elim
      (λ e. inr (subst (Contains (these ++ m ∷ [])) (sym e) (Contains-push these m)))
      (λ n. ⊎_elim
      (λ s. inl (get_or-set_other new m k label 0 n ∙ s))
      (λ c. inr (Contains-append_left these (m ∷ []) k c))
      (r.others k))
      (eq_cases k m);
}

-- ---- the members of one label move to another

pub moves : (old new : List ℕ) (rows : List (List ℕ)) (these : List ℕ) (from to : ℕ) → AreRows old rows
    → these ≡ members_of_label rows from → Relabels old new these to → MovesTo old new from to
moves old new rows these from to c are r = record {
  size = r.size;
  moved = λ m l e. r.now m (subst (λ (t : List ℕ). Contains t m) (sym are)
      (subst (λ k. Contains (members_of_label rows k) m) e (c.labelled m l)));
  kept = λ m l n. ⊎_elim (λ s. s)
      (λ h. absurd (n (c.inside from m (subst (λ (t : List ℕ). Contains t m) are h)).1)) (r.others m);
}

-- what the rows are after a move
pub record RowsMove (rows rows' : List (List ℕ)) (from to : ℕ) : Type 0 where
  pub size : length rows' ≡ length rows
  pub to_row : members_of_label rows' to ≡ members_of_label rows to ++ members_of_label rows from
  pub from_row : members_of_label rows' from ≡ []
  pub others : (l : ℕ) → l ≢ from → l ≢ to → members_of_label rows' l ≡ members_of_label rows l

module _ (old new : List ℕ) (rows rows' : List (List ℕ)) (from to : ℕ) (apart : from ≢ to) (c : AreRows old rows)
    (m : MovesTo old new from to) (r : RowsMove rows rows' from to) where
  has_row : (k l : ℕ) (row : List ℕ) → members_of_label rows' l ≡ row → Contains row k → Contains (members_of_label rows' l) k
  has_row k l row e h = subst (λ (t : List ℕ). Contains t k) (sym e) h

  labelled_moved : (k : ℕ) → k < length old → get_or old k 0 ≡ from → Contains (members_of_label rows' (get_or new k 0)) k
  labelled_moved k l e =
      subst (λ q. Contains (members_of_label rows' q) k) (sym (m.moved k l e))
      (has_row k to _ r.to_row (Contains-append_right (members_of_label rows to) (members_of_label rows from) k
      (subst (λ q. Contains (members_of_label rows q) k) e (c.labelled k l))))

  labelled_kept : (k : ℕ) → k < length old → get_or old k 0 ≢ from → Contains (members_of_label rows' (get_or new k 0)) k
  labelled_kept k l n =
      subst (λ q. Contains (members_of_label rows' q) k) (sym (m.kept k l n))
      (⊎_elim
      (λ e. subst (λ q. Contains (members_of_label rows' q) k) (sym e) (has_row k to _ r.to_row
      (Contains-append_left (members_of_label rows to) (members_of_label rows from) k
      (subst (λ q. Contains (members_of_label rows q) k) e (c.labelled k l)))))
      (λ p. has_row k (get_or old k 0) _ (r.others (get_or old k 0) n p) (c.labelled k l))
      (eq_cases (get_or old k 0) to))

  abbrev Inside : (l k : ℕ) → Type 0
  Inside l k = (k < length new) × (get_or new k 0 ≡ l)

  inside_kept : (l k : ℕ) → l ≢ from → Contains (members_of_label rows l) k → Inside l k
  inside_kept l k n h =
      let i = c.inside l k h in
      (omega (arith, i.0, m.size), m.kept k i.0 (λ q. n (sym i.1 ∙ q)) ∙ i.1)

  inside_moved : (k : ℕ) → Contains (members_of_label rows from) k → Inside to k
  inside_moved k h = let i = c.inside from k h in (omega (arith, i.0, m.size), m.moved k i.0 i.1)

  inside_to : (k : ℕ) → Contains (members_of_label rows' to) k → Inside to k
  inside_to k h =
      ⊎_elim (λ o. inside_kept to k (λ q. apart (sym q)) o) (λ o. inside_moved k o)
      (Contains-append_cases (members_of_label rows to) (members_of_label rows from) k
      (subst (λ (t : List ℕ). Contains t k) r.to_row h))

  inside_other : (l k : ℕ) → l ≢ from → l ≢ to → Contains (members_of_label rows' l) k → Inside l k
  inside_other l k n p h = inside_kept l k n (subst (λ (t : List ℕ). Contains t k) (r.others l n p) h)

  inside_not_from : (l k : ℕ) → l ≢ from → Contains (members_of_label rows' l) k → Inside l k
  inside_not_from l k n h =
      ⊎_elim
      (λ e. subst (λ q. Inside q k) (sym e) (inside_to k (subst (λ q. Contains (members_of_label rows' q) k) e h)))
      (λ p. inside_other l k n p h)
      (eq_cases l to)

  none_from : (k : ℕ) → Contains (members_of_label rows' from) k → ⊥
  none_from k h = no_member k (subst (λ (t : List ℕ). Contains t k) r.from_row h)

  pub rows_moved : AreRows new rows'
  rows_moved = record {
    size = r.size ∙ c.size ∙ sym m.size;
    labelled = λ k l.
        let b : k < length old = omega (arith, l, m.size) in
        ⊎_elim (λ e. labelled_moved k b e) (λ n. labelled_kept k b n) (eq_cases (get_or old k 0) from);
    inside = λ l k h. ⊎_elim
        (λ e. absurd (none_from k (subst (λ q. Contains (members_of_label rows' q) k) e h)))
        (λ n. inside_not_from l k n h)
        (eq_cases l from);
  }

-- ---- classes that have moved are merged

module _ (old new : List ℕ) (from to : ℕ) (m : MovesTo old new from to) where
  moved_keeps : (x y : ℕ) → x < length old → y < length old → get_or old x 0 ≡ get_or old y 0
      → get_or new x 0 ≡ get_or new y 0
  moved_keeps x y lx ly e = ⊎_elim
      (λ f. m.moved x lx f ∙ sym (m.moved y ly (sym e ∙ f)))
      (λ n. m.kept x lx n ∙ e ∙ sym (m.kept y ly (λ f. n (e ∙ f))))
      (eq_cases (get_or old x 0) from)

  abbrev Met : (x y : ℕ) → Type 0
  Met x y = (get_or old x 0 ≡ get_or old y 0)
      ⊎ (((get_or old x 0 ≡ from) × (get_or old y 0 ≡ to)) ⊎ ((get_or old x 0 ≡ to) × (get_or old y 0 ≡ from)))

  moved_only : (x y : ℕ) → x < length old → y < length old → get_or new x 0 ≡ get_or new y 0 → Met x y
  moved_only x y lx ly e = ⊎_elim
      (λ f. ⊎_elim
      (λ g. inl (f ∙ sym g))
      (λ g. inr (inl (f, sym (m.kept y ly g) ∙ sym e ∙ m.moved x lx f)))
      (eq_cases (get_or old y 0) from))
      (λ f. ⊎_elim
      (λ g. inr (inr (sym (m.kept x lx f) ∙ e ∙ m.moved y ly g, g)))
      (λ g. inl (sym (m.kept x lx f) ∙ e ∙ m.kept y ly g))
      (eq_cases (get_or old y 0) from))
      (eq_cases (get_or old x 0) from)

pub merges_same : (labels : List ℕ) (a b : ℕ) → get_or labels a 0 ≡ get_or labels b 0 → Merges labels labels a b
merges_same labels a b e = record { size = refl; met = e; kept = λ x y lx ly s. s; only = λ x y lx ly s. inl s }

pub merges_moved : (old new : List ℕ) (a b : ℕ) → a < length old → b < length old → get_or old a 0 ≢ get_or old b 0
    → MovesTo old new (get_or old a 0) (get_or old b 0) → Merges old new a b
merges_moved old new a b la lb apart m = record {
  size = m.size;
  met = m.moved a la refl ∙ sym (m.kept b lb (λ q. apart (sym q)));
  kept = moved_keeps old new (get_or old a 0) (get_or old b 0) m;
  only = moved_only old new (get_or old a 0) (get_or old b 0) m;
}

turn : {A B C : Type 0} → A ⊎ (B ⊎ C) → A ⊎ (C ⊎ B)
turn h = ⊎_elim (λ a. inl a) (λ t. ⊎_elim (λ b. inr (inr b)) (λ c. inr (inl c)) t) h

pub merges_turned : (old new : List ℕ) (a b : ℕ) → Merges old new b a → Merges old new a b
merges_turned old new a b m = record {
  size = m.size;
  met = sym m.met;
  kept = m.kept;
  only = λ x y lx ly e. turn (m.only x y lx ly e);
}
