-- Rows that grow.
use Rattle.std.proofs.Common.{◌≡◌, ◌≢◌, ◌⊎◌, inl, inr, ⊎_elim, ◌↔◌, ℕ, ◌<◌, ◌≤◌, ◌+◌, List, [], ◌∷◌, ◌++◌, length, set, get_or, sym, ap, ◌∙◌, subst, arith, Vec}
use Rattle.std.specs.Global.{Global}
use Rattle.std.proofs.Common.{zero, suc, ◌-◌, length-append}
use Rattle.std.proofs.Math.ListN.{get_or-append}
use Rattle.std.proofs.Math.Seq.{get_or-append_right, get_or-append_seam}
use Rattle.std.specs.List.{Contains}
use Rattle.std.proofs.lemmas.List.{get_or-set_same, get_or-set_other, get_or-map, map-set, map-append}
use Rattle.std.proofs.Math.ListN.{length-map}
use Rattle.std.proofs.lemmas.List.Elements.{Contains-get_or, Contains-push, Contains-push_cases, Contains-append_left}
use Rattle.rgo_graphs.specs.Rows.{Adds, Relates, row_at, rows_of}
use Rattle.std.proofs.Common.{take}
use Rattle.rgo_graphs.specs.Rows.{IsTransposed, IsAscending, AllAscending}
use Rattle.std.proofs.lemmas.List.{get_or_past}
use Rattle.rgo_graphs.proofs.Lists.{no_member, take_cases, take_more_left, take_more_here}

eq_cases : (p q : ℕ) → (p ≡ q) ⊎ (p ≢ q)
eq_cases p q = grind arith

pub rows_long : (rows : List (Vec ℕ Global)) → length (rows_of rows) ≡ length rows
rows_long rows = simp length-map

pub row_is : (rows : List (Vec ℕ Global)) (i : ℕ) (row : Vec ℕ Global) → i < length rows
    → row ≡ get_or rows i row → row_at (rows_of rows) i ≡ row.items
row_is rows i row l e = get_or-map (λ (r : Vec ℕ Global). r.items) rows i row [] l
    ∙ ap (λ (r : Vec ℕ Global). r.items) (sym e)

-- a row that is pushed to
pub pushed : (old : List (Vec ℕ Global)) (at item : ℕ) (row row' : Vec ℕ Global) → at < length old
    → row ≡ get_or old at row → row'.items ≡ row.items ++ item ∷ [] →
    Adds (rows_of old) (rows_of (set old at row')) (λ i x. (i ≡ at) × (x ≡ item))
pushed old at item row row' l e pushes = λ i x. (forth i x, back i x)
  where
    rows : List (List ℕ)
    rows = rows_of old

    new : rows_of (set old at row') ≡ set rows at row'.items
    new = map-set (λ (r : Vec ℕ Global). r.items) old at row'

    long : at < length rows
    long = omega (arith, rows_long old)

    here : row_at (set rows at row'.items) at ≡ row_at rows at ++ item ∷ []
    here = get_or-set_same rows at row'.items [] long ∙ pushes
        ∙ ap (λ (r : List ℕ). r ++ item ∷ []) (sym (row_is old at row l e))

    forth : (i x : ℕ) → Relates (rows_of (set old at row')) i x → Relates rows i x ⊎ ((i ≡ at) × (x ≡ item))
    forth i x h =
        let g = subst (λ (r : List (List ℕ)). Relates r i x) new h in
        ⊎_elim
        (λ q. ⊎_elim (λ j. inl (subst (λ (k : ℕ). Relates rows k x) (sym q) j)) (λ j. inr (q, sym j))
        (Contains-push_cases (row_at rows at) item x
        (subst (λ (r : List ℕ). Contains r x) here
        (subst (λ (k : ℕ). Relates (set rows at row'.items) k x) q g))))
        (λ n. inl (subst (λ (r : List ℕ). Contains r x) (get_or-set_other rows at i row'.items [] n) g))
        (eq_cases i at)

    to_new : (i x : ℕ) → Relates (set rows at row'.items) i x → Relates (rows_of (set old at row')) i x
    to_new i x h = subst (λ (r : List (List ℕ)). Relates r i x) (sym new) h

    at_here : (x : ℕ) → Contains (row_at rows at ++ item ∷ []) x → Relates (set rows at row'.items) at x
    at_here x h = subst (λ (r : List ℕ). Contains r x) (sym here) h

    back : (i x : ℕ) → Relates rows i x ⊎ ((i ≡ at) × (x ≡ item)) → Relates (rows_of (set old at row')) i x
    back i x h = to_new i x (⊎_elim
        (λ j. ⊎_elim
        (λ q. subst (λ (k : ℕ). Relates (set rows at row'.items) k x) (sym q)
        (at_here x (Contains-append_left (row_at rows at) (item ∷ []) x
        (subst (λ (k : ℕ). Relates rows k x) q j))))
        (λ n. subst (λ (r : List ℕ). Contains r x) (sym (get_or-set_other rows at i row'.items [] n)) j)
        (eq_cases i at))
        (λ j. subst (λ (k : ℕ). Relates (set rows at row'.items) k x) (sym j.0)
        (subst (λ (y : ℕ). Relates (set rows at row'.items) at y) (sym j.1)
        (at_here item (Contains-push (row_at rows at) item))))
        h)

pub adds_step : (r0 r1 r2 : List (List ℕ)) (xs : List ℕ) (k item : ℕ) → k < length xs →
    Adds r0 r1 (λ i x. Contains (take k xs) i × (x ≡ item))
    → Adds r1 r2 (λ i x. (i ≡ get_or xs k 0) × (x ≡ item))
    → Adds r0 r2 (λ i x. Contains (take (k + 1) xs) i × (x ≡ item))
adds_step r0 r1 r2 xs k item l a b = λ i x. (forth i x, back i x)
  where
    forth : (i x : ℕ) → Relates r2 i x → Relates r0 i x ⊎ (Contains (take (k + 1) xs) i × (x ≡ item))
    forth i x h = ⊎_elim
        (λ h1. ⊎_elim (λ g. inl g) (λ t. inr (take_more_left xs k 0 i l t.0, t.1)) ((a i x).0 h1))
        (λ e. inr (subst (Contains (take (k + 1) xs)) (sym e.0) (take_more_here xs k 0 l), e.1))
        ((b i x).0 h)

    back : (i x : ℕ) → Relates r0 i x ⊎ (Contains (take (k + 1) xs) i × (x ≡ item)) → Relates r2 i x
    back i x h = ⊎_elim
        (λ h0. (b i x).1 (inl ((a i x).1 (inl h0))))
        (λ t. ⊎_elim
        (λ t1. (b i x).1 (inl ((a i x).1 (inr (t1, t.1)))))
        (λ e. (b i x).1 (inr (sym e, t.1)))
        (take_cases xs k 0 i l t.0))
        h

-- row i has been transposed, for each i below k
abbrev pub TransposedTo : List (List ℕ) → List (List ℕ) → ℕ → Type 0
TransposedTo rows transposed k = (i x : ℕ) → ((i < k) × Relates rows i x) ↔ Relates transposed x i

pub transposed_none : (rows transposed : List (List ℕ)) → ((i x : ℕ) → Relates transposed i x → ⊥)
    → TransposedTo rows transposed 0
transposed_none rows transposed none = λ i x. (λ h. absurd (omega (arith, h.0)), λ h. absurd (none x i h))

pub transposed_step : (rows t t' : List (List ℕ)) (row : List ℕ) (k : ℕ) → row_at rows k ≡ row
    → TransposedTo rows t k → Adds t t' (λ j x. Contains row j × (x ≡ k)) → TransposedTo rows t' (k + 1)
transposed_step rows t t' row k is a b = λ i x. (forth i x, back i x)
  where
    which : (i : ℕ) → i < k + 1 → (i < k) ⊎ (i ≡ k)
    which i l = grind arith

    forth : (i x : ℕ) → (i < k + 1) × Relates rows i x → Relates t' x i
    forth i x h = (b x i).1 (⊎_elim
        (λ l. inl ((a i x).0 (l, h.1)))
        (λ e. inr (subst (λ (r : List ℕ). Contains r x) is (subst (λ j. Relates rows j x) e h.1), e))
        (which i h.0))

    back : (i x : ℕ) → Relates t' x i → (i < k + 1) × Relates rows i x
    back i x h = ⊎_elim
        (λ g. let p = (a i x).1 g in (omega (arith, p.0), p.1))
        (λ p. (
          omega (arith, p.1),
          subst (λ j. Relates rows j x) (sym p.1)
              (subst (λ (r : List ℕ). Contains r x) (sym is) p.0),
        ))
        ((b x i).0 h)

less_or : (a b : ℕ) → (a < b) ⊎ (b ≤ a)
less_or a b = grind arith

pub row_inside : (rows : List (List ℕ)) (i x : ℕ) → Relates rows i x → i < length rows
row_inside rows i x h = ⊎_elim
    (λ l. l)
    (λ l. absurd (no_member x (subst (λ (r : List ℕ). Contains r x) (get_or_past rows i [] l) h)))
    (less_or i (length rows))

pub transposed_all : (rows transposed : List (List ℕ)) (k : ℕ) → length rows ≤ k
    → TransposedTo rows transposed k → IsTransposed rows transposed
transposed_all rows transposed k all a = λ i x. (
  λ h. (a i x).0 (omega (arith, row_inside rows i x h), h),
  λ h. ((a i x).1 h).1,
)

-- an empty row more
pub empty_more : (rows : List (Vec ℕ Global)) (row : Vec ℕ Global) → row.items ≡ []
    → ((i x : ℕ) → Relates (rows_of rows) i x → ⊥) → (i x : ℕ) → Relates (rows_of (rows ++ row ∷ [])) i x → ⊥
empty_more rows row e none i x h = ⊎_elim
    (λ l. none i x (subst (λ (r : List ℕ). Contains r x) (left l) h))
    (λ l. no_member x (subst (λ (r : List ℕ). Contains r x) (right l) h))
    (less_or i (length (rows_of rows)))
  where
    mapped : rows_of (rows ++ row ∷ []) ≡ rows_of rows ++ row.items ∷ []
    mapped = map-append (λ (r : Vec ℕ Global). r.items) rows (row ∷ [])

    left : i < length (rows_of rows) → row_at (rows_of (rows ++ row ∷ [])) i ≡ row_at (rows_of rows) i
    left l = ap (λ (r : List (List ℕ)). row_at r i) mapped
        ∙ get_or-append (rows_of rows) (row.items ∷ []) [] i l

    single : (k : ℕ) → get_or (row.items ∷ []) k [] ≡ []
    single zero = e
    single (suc k) = get_or_past {X = List ℕ} [] k [] (omega arith)

    right : length (rows_of rows) ≤ i → row_at (rows_of (rows ++ row ∷ [])) i ≡ []
    right l = ap (λ (r : List (List ℕ)). row_at r i) mapped
        ∙ get_or-append_right (rows_of rows) (row.items ∷ []) i [] l ∙ single (i - length (rows_of rows))

ascending_push : (xs : List ℕ) (y : ℕ) → IsAscending xs → ((x : ℕ) → Contains xs x → x ≤ y)
    → IsAscending (xs ++ y ∷ [])
ascending_push xs y asc most a b ab bl =
    ⊎_elim (λ l. inside l) (λ l. last l) (less_or b (length xs))
  where
    long : length (xs ++ y ∷ []) ≡ length xs + 1
    long = length-append xs (y ∷ [])

    at_end : (k : ℕ) → k ≡ length xs → get_or (xs ++ y ∷ []) k 0 ≡ y
    at_end k e = ap (λ j. get_or (xs ++ y ∷ []) j 0) e ∙ get_or-append_seam xs y [] 0

    inside : b < length xs → get_or (xs ++ y ∷ []) a 0 ≤ get_or (xs ++ y ∷ []) b 0
    inside l = omega (
      arith,
      get_or-append xs (y ∷ []) 0 a (omega arith),
      get_or-append xs (y ∷ []) 0 b l,
      asc a b ab l,
    )

    last : length xs ≤ b → get_or (xs ++ y ∷ []) a 0 ≤ get_or (xs ++ y ∷ []) b 0
    last l =
        let e = at_end b (omega (arith, long)) in
        ⊎_elim
        (λ l2. omega (arith, e, get_or-append xs (y ∷ []) 0 a l2, most _ (Contains-get_or xs a 0 l2)))
        (λ l2. omega (arith, e, at_end a (omega (arith, long))))
        (less_or a (length xs))

-- rows stay in ascending order
pub ascending_pushed : (old : List (Vec ℕ Global)) (at item : ℕ) (row row' : Vec ℕ Global) → at < length old
    → row ≡ get_or old at row → row'.items ≡ row.items ++ item ∷ [] →
    AllAscending (rows_of old) → ((x : ℕ) → Relates (rows_of old) at x → x ≤ item)
    → AllAscending (rows_of (set old at row'))
ascending_pushed old at item row row' l e pushes asc most i = ⊎_elim
    (λ q. subst (λ (r : List ℕ). IsAscending r) (sym (here q))
    (ascending_push (row_at rows at) item (asc at) most))
    (λ n. subst (λ (r : List ℕ). IsAscending r) (sym (there n)) (asc i))
    (eq_cases i at)
  where
    rows : List (List ℕ)
    rows = rows_of old

    new : rows_of (set old at row') ≡ set rows at row'.items
    new = map-set (λ (r : Vec ℕ Global). r.items) old at row'

    here : i ≡ at → row_at (rows_of (set old at row')) i ≡ row_at rows at ++ item ∷ []
    here q = ap (λ (r : List (List ℕ)). row_at r i) new ∙ ap (λ k. row_at (set rows at row'.items) k) q
        ∙ get_or-set_same rows at row'.items [] (omega (arith, rows_long old)) ∙ pushes
        ∙ ap (λ (r : List ℕ). r ++ item ∷ []) (sym (row_is old at row l e))

    there : i ≢ at → row_at (rows_of (set old at row')) i ≡ row_at rows i
    there n = ap (λ (r : List (List ℕ)). row_at r i) new ∙ get_or-set_other rows at i row'.items [] n

pub most_added : (old new : List (List ℕ)) (These : ℕ → Type 0) (item : ℕ)
    → Adds old new (λ i x. These i × (x ≡ item)) → ((i x : ℕ) → Relates old i x → x ≤ item) → (i x : ℕ)
    → Relates new i x → x ≤ item
most_added old new These item a most i x h = ⊎_elim (λ g. most i x g) (λ e. omega (arith, e.1)) ((a i x).0 h)

pub ascending_none : (rows : List (List ℕ)) → ((i x : ℕ) → Relates rows i x → ⊥) → AllAscending rows
ascending_none rows none i a b ab bl = absurd (none i _ (Contains-get_or (row_at rows i) b 0 bl))
