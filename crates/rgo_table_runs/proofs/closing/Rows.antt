-- Rows with the records of `main` and of all that goroutines have started are the records of all goroutines. That a family
-- has all goroutines is a law of the table; the rest is that ascending rows without a gap are at the places of their numbers.
use Rattle.std.proofs.Common.{◌≡◌, ℕ, zero, suc, ◌+◌, ◌<◌, ◌≤◌, List, [], ◌∷◌, Some, length, map, slice_get, sum_by, refl, ap, sym, subst, ◌∙◌, arith}
use Rattle.std.proofs.lemmas.List.Sums.{sum_by-cons}
use mathlib.Core.Logic.{dite}
use native.Mathlib.Decide.{ℕ_discrete}
use mathlib.Core.Option.{some, some-injective, some-ne-none}
use lib.ListN.{get_elem?}
use Rattle.rgo_core.proofs.Lists.{get_of}
use Rattle.rgo_core.specs.Core.{Setup}
use Rattle.rgo_core.specs.Records.{ClockRec, Record, all_counted, clock_of, counted}
use Rattle.rgo_core.specs.Rule.Views.{HasRow, Rows, view}
use Rattle.rgo_core.specs.Rule.declared.accesses.View.{View}
use Rattle.rgo_core_steps.proofs.tables.Outcomes.{family_law}
use Rattle.rgo_core_steps.specs.Outcomes.{ClosesTable}
use Rattle.rgo_sound.specs.Tally.{counts_plus}
use Rattle.rgo_table_runs.specs.closing.Rows.{AreAll, all_shares}

abbrev pub record_in : ℕ × Record → Record
record_in r = r.1

-- ---- lists

-- a sum that is not 0 has a part that is not
pub some_part : {A : Type 0} (f : A → ℕ) (xs : List A) → 0 < sum_by f xs → (g : ℕ) × (c : A) × (slice_get xs g ≡ Some c) × (0 < f c)
some_part f [] h = absurd (omega arith)
some_part f (x ∷ xs) h = dite (ℕ_discrete (f x) 0)
    (λ e. let s = sum_by-cons f x xs in let r = some_part f xs (omega arith) in (suc r.0, r.1, r.2, r.3))
    (λ ne. (0, x, refl, omega arith))

pub there : {A : Type 0} (xs : List A) (i : ℕ) → i < length xs → (x : A) × (get_elem? xs i ≡ some x)
there [] i h = absurd (omega arith)
there (x ∷ xs) zero h = (x, refl)
there (x ∷ xs) (suc i) h = there xs i (omega arith)

pub low : {A : Type 0} (xs : List A) (i : ℕ) (x : A) → get_elem? xs i ≡ some x → i < length xs
low [] i x e = absurd (some-ne-none x (sym e))
low (y ∷ xs) zero x e = omega arith
low (y ∷ xs) (suc i) x e = let l = low xs i x e in omega arith

-- ---- each at its place

-- what ascending rows, of the numbers from k on, have to be
pub record From (n k : ℕ) (rows : Rows Record) : Type 0 where
  pub ascending : (i : ℕ) (r q : ℕ × Record) → get_elem? rows i ≡ some r → get_elem? rows (suc i) ≡ some q → r.0 < q.0
  pub least : (i : ℕ) (r : ℕ × Record) → get_elem? rows i ≡ some r → (k ≤ r.0) × (r.0 < n)
  pub each : (h : ℕ) → k ≤ h → h < n → (c : Record) × HasRow rows h c

-- the first number is not above any other
first_least : (r : ℕ × Record) (rows : Rows Record)
    → ((i : ℕ) (p q : ℕ × Record) → get_elem? (r ∷ rows) i ≡ some p → get_elem? (r ∷ rows) (suc i) ≡ some q → p.0 < q.0)
    → (i : ℕ) (q : ℕ × Record) → get_elem? rows i ≡ some q → r.0 < q.0
first_least r rows up zero q e = up 0 r q refl e
first_least r [] up (suc i) q e = absurd (some-ne-none q (sym e))
first_least r (p ∷ rows) up (suc i) q e =
    let a = up 0 r p refl refl in
    let b = first_least p rows (λ j x y c d. up (suc j) x y c d) i q e in
    omega arith

-- they are k, k + 1 and so on
at_place : (n k : ℕ) (rows : Rows Record) → From n k rows → (i : ℕ) (r : ℕ × Record) → get_elem? rows i ≡ some r → r.0 ≡ k + i
at_place n k [] f i r e = absurd (some-ne-none r (sym e))
at_place n k (q ∷ rows) f i r e = by (λ j d. at_place n (suc k) rows rest j r d) i e
  where
    bounds : (k ≤ q.0) × (q.0 < n)
    bounds = f.least 0 q refl

    is_k : q.0 ≡ k
    is_k =
        let b = bounds in
        let m = f.each k (omega arith) (omega (arith, b.0, b.1)) in
        at (m.1.0) (m.0) (m.1.1)
      where
        at : (j : ℕ) (c : Record) → get_elem? (q ∷ rows) j ≡ some (k, c) → q.0 ≡ k
        at zero c e = ap (λ (x : ℕ × Record). x.0) (some-injective q (k, c) e)
        at (suc j) c e = absurd (let a = first_least q rows f.ascending j (k, c) e in let b = bounds.0 in omega (arith, a, b))

    rest : From n (suc k) rows
    rest = record {
      ascending = λ j x y c d. f.ascending (suc j) x y c d;
      least = λ j x c. (
        let a = first_least q rows f.ascending j x c in let b = is_k in omega (arith, a, b),
        (f.least (suc j) x c).1,
      );
      each = λ h l m. let t = f.each h (omega arith) m in behind h l t.0 t.1.0 t.1.1;
    }
      where
        behind : (h : ℕ) → suc k ≤ h → (c : Record) (j : ℕ) → get_elem? (q ∷ rows) j ≡ some (h, c) → (d : Record) × HasRow rows h d
        behind h l c zero e = absurd (let a : q.0 ≡ h = ap (λ (x : ℕ × Record). x.0) (some-injective q (h, c) e) in let b = is_k in omega (arith, a, b, l))
        behind h l c (suc j) e = (c, (j, e))

    by : ((j : ℕ) → get_elem? rows j ≡ some r → r.0 ≡ suc k + j) → (i : ℕ) → get_elem? (q ∷ rows) i ≡ some r → r.0 ≡ k + i
    by next zero e = ap (λ (x : ℕ × Record). x.0) (sym (some-injective q r e)) ∙ (let z = is_k in omega (arith, z))
    by next (suc i) e = let z = next i e in omega (arith, z)

-- lists of which each has at its places what the other has
same_list : {A : Type 0} (xs ys : List A) → ((i : ℕ) (x : A) → get_elem? xs i ≡ some x → get_elem? ys i ≡ some x)
    → ((i : ℕ) → i < length ys → i < length xs) → xs ≡ ys
same_list [] [] h l = refl
same_list [] (y ∷ ys) h l = absurd (let z = l 0 (omega arith) in omega arith)
same_list (x ∷ xs) [] h l = absurd (some-ne-none x (sym (h 0 x refl)))
same_list (x ∷ xs) (y ∷ ys) h l =
    let r = same_list xs ys (λ i z e. h (suc i) z e) (λ i q. let z = l (suc i) (omega arith) in omega arith) in
    let same : y ≡ x = some-injective y x (h 0 x refl) in
    λ j. sym same j ∷ r j

map_elem : (rows : Rows Record) (i : ℕ) (c : Record) → get_elem? (map record_in rows) i ≡ some c
    → (r : ℕ × Record) × (get_elem? rows i ≡ some r) × (r.1 ≡ c)
map_elem [] i c e = absurd (some-ne-none c (sym e))
map_elem (r ∷ rows) zero c e = (r, refl, some-injective r.1 c e)
map_elem (r ∷ rows) (suc i) c e = map_elem rows i c e

elem_map : (rows : Rows Record) (i : ℕ) (r : ℕ × Record) → get_elem? rows i ≡ some r → get_elem? (map record_in rows) i ≡ some r.1
elem_map [] i r e = absurd (some-ne-none r (sym e))
elem_map (q ∷ rows) zero r e = ap (λ (x : ℕ × Record). some x.1) (some-injective q r e)
elem_map (q ∷ rows) (suc i) r e = elem_map rows i r e

module _ (T : Setup) (words : List ℕ) (v : View Record) (e : ClosesTable T words v) (rows : Rows Record) (all : AreAll v rows) where
  pub is_there : (g : ℕ) (c : Record) → HasRow rows g c → get_elem? e.recs g ≡ some c
  is_there g c has = (e.here g c (all.here g c has)).0

  -- the table closed with these rows alone
  abbrev with_rows : ClosesTable T words (view rows v.seen)
  with_rows = record {
    recs = e.recs;
    history = e.history;
    account = e.account;
    seen = e.seen;
    here = λ g c has. e.here g c (all.here g c has);
  }

  -- the record of goroutine g
  pub row_of : (g : ℕ) (c : Record) → slice_get e.recs g ≡ Some c → HasRow rows g c
  row_of g c at = family_law T words (view rows v.seen) with_rows all.family g c at

  has_row : (g : ℕ) → g < length e.recs → (c : Record) × HasRow rows g c
  has_row g l = let t = there e.recs g l in (t.0, row_of g t.0 (get_of e.recs g t.0 t.1))

  from_start : From (length e.recs) 0 rows
  from_start = record {
    ascending = all.ascending;
    least = λ i r q. (omega arith, low e.recs r.0 r.1 (is_there r.0 r.1 (i, q)));
    each = λ h l m. has_row h m;
  }

  places : (i : ℕ) (r : ℕ × Record) → get_elem? rows i ≡ some r → r.0 ≡ i
  places i r q = let z = at_place (length e.recs) 0 rows from_start i r q in omega (arith, z)

  row_at : (i : ℕ) (c : Record) → get_elem? (map record_in rows) i ≡ some c → get_elem? e.recs i ≡ some c
  row_at i c q =
      let m = map_elem rows i c q in
      subst (λ (d : Record). get_elem? e.recs i ≡ some d) m.2
      (subst (λ (j : ℕ). get_elem? e.recs j ≡ some m.0.1) (places i m.0 m.1) (is_there m.0.0 m.0.1 (i, m.1)))

  as_many : (i : ℕ) → i < length e.recs → i < length (map record_in rows)
  as_many i l =
      let r = has_row i l in
      let p = places r.1.0 (i, r.0) r.1.1 in
      let q = low (map record_in rows) r.1.0 r.0 (elem_map rows r.1.0 (i, r.0) r.1.1) in
      omega (arith, p, q)

  pub all_rows : e.recs ≡ map record_in rows
  all_rows = sym (same_list (map record_in rows) e.recs row_at as_many)

-- ---- what they have counted

counts_same : (rows : Rows Record) → ((i : ℕ) (r : ℕ × Record) → get_elem? rows i ≡ some r → counted r.1.clock ≡ r.1.clock.share)
    → all_counted (map clock_of (map record_in rows)) ≡ all_shares rows
counts_same [] each = refl
counts_same (r ∷ rows) each =
    let a = each 0 r refl in
    let b = counts_same rows (λ i q e. each (suc i) q e) in
    λ j. counts_plus (a j) (b j)

nothing_owed : (c : ClockRec) → c.owed ≡ 0 → counted c ≡ c.share
nothing_owed c none = λ i. record c.share { returned = (let e : c.share.returned + c.owed ≡ c.share.returned = omega (arith, none) in e) i }

pub all_counts : (rows : Rows Record) → ((i : ℕ) (r : ℕ × Record) → get_elem? rows i ≡ some r → r.1.clock.owed ≡ 0)
    → all_counted (map clock_of (map record_in rows)) ≡ all_shares rows
all_counts rows none = counts_same rows (λ i r e. nothing_owed r.1.clock (none i r e))
