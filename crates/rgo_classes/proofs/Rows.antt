-- Rows of members in vectors.
use Rattle.std.proofs.Common.{◌≡◌, ◌≢◌, ⊎_elim, ℕ, ◌<◌, ◌+◌, List, [], ◌∷◌, ◌++◌, length, set, get_or, take, drop, sym, ap, ◌∙◌, subst, arith, Vec}
use Rattle.std.specs.Global.{Global}
use Rattle.std.specs.List.{Contains}
use Rattle.std.proofs.lemmas.List.{append-nil, drop_all, take_all, get_or-set_same, get_or-set_other, get_or-map, get_or_past, get_or_append_left, get_or_push, length-set, set-get_or, map-set, map-append, length-map}
use Rattle.std.proofs.lemmas.List.Elements.{Contains-push, Contains-push_cases}
use Rattle.std.proofs.lemmas.Bool.{cases_lt}
use Rattle.rgo_classes.specs.Moves.{AreRows, member_rows, members_of_label}
use Rattle.rgo_classes.proofs.Moving.{RowsMove, no_member}

pub rows_long : (rows : List (Vec ℕ Global)) → length (member_rows rows) ≡ length rows
rows_long rows = length-map rows (λ (row : Vec ℕ Global). row.items)

pub row_is : (rows : List (Vec ℕ Global)) (i : ℕ) (d : Vec ℕ Global) → i < length rows
    → members_of_label (member_rows rows) i ≡ (get_or rows i d).items
row_is rows i d l = get_or-map (λ (r : Vec ℕ Global). r.items) rows i d [] l

pub row_set : (rows : List (Vec ℕ Global)) (i : ℕ) (row : Vec ℕ Global) → i < length rows
    → members_of_label (member_rows (set rows i row)) i ≡ row.items
row_set rows i row l =
    ap (λ (r : List (List ℕ)). members_of_label r i) (map-set (λ (r : Vec ℕ Global). r.items) rows i row)
    ∙ get_or-set_same (member_rows rows) i row.items [] (omega (arith, rows_long rows))

pub row_other : (rows : List (Vec ℕ Global)) (i j : ℕ) (row : Vec ℕ Global) → j ≢ i
    → members_of_label (member_rows (set rows i row)) j ≡ members_of_label (member_rows rows) j
row_other rows i j row n =
    ap (λ (r : List (List ℕ)). members_of_label r j) (map-set (λ (r : Vec ℕ Global). r.items) rows i row)
    ∙ get_or-set_other (member_rows rows) i j row.items [] n

pub rows_kept : (rows : List (Vec ℕ Global)) (i : ℕ) (d new : Vec ℕ Global) → i < length rows
    → new.items ≡ (get_or rows i d).items → member_rows (set rows i new) ≡ member_rows rows
rows_kept rows i d new l same =
    map-set (λ (r : Vec ℕ Global). r.items) rows i new
    ∙ ap (λ (r : List ℕ). set (member_rows rows) i r) (same ∙ sym (row_is rows i d l))
    ∙ set-get_or (member_rows rows) i []

module _ (rows : List (Vec ℕ Global)) (from to : ℕ) (d e longer empty : Vec ℕ Global) (apart : from ≢ to)
    (from_in : from < length rows) (to_in : to < length rows)
    (extends : longer.items ≡ (get_or rows to d).items ++ (get_or rows from e).items)
    (clears : empty.items ≡ []) where
  abbrev one : List (Vec ℕ Global)
  one = set rows to longer

  from_in_one : from < length one
  from_in_one = omega (arith, length-set rows to longer, from_in)

  moved_to : members_of_label (member_rows (set one from empty)) to ≡ members_of_label (member_rows rows) to ++ members_of_label (member_rows rows) from
  moved_to =
      row_other one from to empty (λ q. apart (sym q)) ∙ row_set rows to longer to_in ∙ extends
      ∙ ap (λ (l : List ℕ). l ++ (get_or rows from e).items) (sym (row_is rows to d to_in))
      ∙ ap (λ (l : List ℕ). members_of_label (member_rows rows) to ++ l) (sym (row_is rows from e from_in))

  pub rows_move : RowsMove (member_rows rows) (member_rows (set one from empty)) from to
  rows_move = record {
    size = rows_long (set one from empty) ∙ length-set one from empty ∙ length-set rows to longer
        ∙ sym (rows_long rows);
    to_row = moved_to;
    from_row = row_set one from empty from_in_one ∙ clears;
    others = λ l n p. row_other one from l empty n ∙ row_other rows to l longer p;
  }

-- a label has a row
pub row_inside : (rows : List (List ℕ)) (l m : ℕ) → Contains (members_of_label rows l) m → l < length rows
row_inside rows l m h = ⊎_elim (λ g. g) (λ g. absurd (no_member m
    (subst (λ (r : List ℕ). Contains r m) (get_or_past rows l [] g) h))) (cases_lt l (length rows))

pub label_below : (labels : List ℕ) (rows : List (List ℕ)) (m : ℕ) → AreRows labels rows → m < length labels
    → get_or labels m 0 < length labels
label_below labels rows m r l = omega (arith, row_inside rows (get_or labels m 0) m (r.labelled m l), r.size)

-- ---- each member by itself

pub one_member : (l m : ℕ) → Contains (l ∷ []) m → m ≡ l
one_member l m h = ⊎_elim (λ g. absurd (no_member m g)) (λ e. sym e) (Contains-push_cases [] l m h)

own_row_has : (rows : List (List ℕ)) (l : ℕ) → members_of_label rows l ≡ l ∷ [] → Contains (members_of_label rows l) l
own_row_has rows l e = subst (λ (r : List ℕ). Contains r l) (sym e) (Contains-push [] l)

pub own_rows : (labels : List ℕ) (rows : List (Vec ℕ Global)) → length rows ≡ length labels
    → ((m : ℕ) → m < length labels → get_or labels m 0 ≡ m)
    → ((m : ℕ) → m < length labels → members_of_label (member_rows rows) m ≡ m ∷ []) → AreRows labels (member_rows rows)
own_rows labels rows size own rows_own = record {
  size = rows_long rows ∙ size;
  labelled = λ m l.
      subst (λ k. Contains (members_of_label (member_rows rows) k) m) (sym (own m l))
      (own_row_has (member_rows rows) m (rows_own m l));
  inside = λ l m h.
      let b : l < length labels = omega (arith, row_inside (member_rows rows) l m h, rows_long rows, size) in
      let e = one_member l m (subst (λ (r : List ℕ). Contains r m) (rows_own l b) h) in
      (omega (arith, e, b), own m (omega (arith, e, b)) ∙ e);
}

-- one row more
pub own_more : (rows : List (Vec ℕ Global)) (row : Vec ℕ Global) → row.items ≡ length rows ∷ []
    → ((m : ℕ) → m < length rows → members_of_label (member_rows rows) m ≡ m ∷ [])
    → (m : ℕ) → m < length rows + 1 → members_of_label (member_rows (rows ++ row ∷ [])) m ≡ m ∷ []
own_more rows row e own m l =
    ap (λ (r : List (List ℕ)). members_of_label r m) (map-append (λ (r : Vec ℕ Global). r.items) rows (row ∷ []))
    ∙ ⊎_elim (λ b. before b) (λ b. here (omega (arith, l, b))) (cases_lt m (length rows))
  where
    before : m < length rows → members_of_label (member_rows rows ++ row.items ∷ []) m ≡ m ∷ []
    before b = get_or_append_left (member_rows rows) (row.items ∷ []) [] m (omega (arith, b, rows_long rows)) ∙ own m b

    here : m ≡ length rows → members_of_label (member_rows rows ++ row.items ∷ []) m ≡ m ∷ []
    here q =
        get_or_push (member_rows rows) row.items [] m (rows_long rows ∙ sym q)
        ∙ e ∙ ap (λ k. k ∷ []) (sym q)

pub label_in_rows : (labels : List ℕ) (rows : List (Vec ℕ Global)) (m : ℕ) → AreRows labels (member_rows rows)
    → m < length labels → get_or labels m 0 < length rows
label_in_rows labels rows m r l = omega (arith, label_below labels (member_rows rows) m r l, r.size, rows_long rows)

-- a list that was lent and is back
pub written_back : (new items : List ℕ) (n : ℕ) → length new ≡ n → length items ≡ n
    → take n (new ++ drop (length new) items) ≡ new
written_back new items n e f =
    ap (λ (l : List ℕ). take n (new ++ l)) (drop_all (length new) items (omega arith))
    ∙ ap (λ (l : List ℕ). take n l) (append-nil new) ∙ take_all n new (omega arith)
