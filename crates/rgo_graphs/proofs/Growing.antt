-- Rows that grow by a row.
use Rattle.std.proofs.Common.{◌≡◌, ◌⊎◌, ⊎_elim, ◌↔◌, ℕ, ◌<◌, ◌≤◌, ◌+◌, List, [], ◌∷◌, ◌++◌, length, sym, ap, ◌∙◌, subst, arith, Vec, length-append}
use Rattle.std.specs.Global.{Global}
use Rattle.std.specs.List.{Contains}
use Rattle.std.proofs.lemmas.List.{map-append}
use Rattle.std.proofs.Math.ListN.{get_or-append}
use Rattle.std.proofs.Math.Seq.{get_or-append_seam}
use Rattle.rgo_graphs.specs.Rows.{Relates, row_at, rows_of}
use Rattle.rgo_graphs.specs.RowsTo.{RowsTo}
use Rattle.rgo_graphs.proofs.Pushed.{row_inside, rows_long}

less_or : (a b : ℕ) → (a < b) ⊎ (b ≤ a)
less_or a b = grind arith

pub rows_none : (R : ℕ → ℕ → Type 0) → RowsTo [] R 0
rows_none R s j = (λ h. absurd (omega (arith, row_inside [] s j h)), λ h. absurd (omega (arith, h.0)))

-- a row more
pub rows_more : (rows : List (Vec ℕ Global)) (row : Vec ℕ Global) (R : ℕ → ℕ → Type 0) (i : ℕ)
    → length rows ≡ i → RowsTo rows R i → ((j : ℕ) → Contains row.items j ↔ R i j)
    → RowsTo (rows ++ row ∷ []) R (i + 1)
rows_more rows row R i size old new s j = (λ h. forth h, λ h. back h)
  where
    long : length (rows_of rows) ≡ i
    long = rows_long rows ∙ size

    mapped : rows_of (rows ++ row ∷ []) ≡ rows_of rows ++ row.items ∷ []
    mapped = map-append (λ (r : Vec ℕ Global). r.items) rows (row ∷ [])

    left : s < i → row_at (rows_of (rows ++ row ∷ [])) s ≡ row_at (rows_of rows) s
    left l = ap (λ (r : List (List ℕ)). row_at r s) mapped
        ∙ get_or-append (rows_of rows) (row.items ∷ []) [] s (omega (arith, long))

    right : s ≡ i → row_at (rows_of (rows ++ row ∷ [])) s ≡ row.items
    right e = ap (λ (r : List (List ℕ)). row_at r s) mapped
        ∙ ap (λ k. row_at (rows_of rows ++ row.items ∷ []) k) (e ∙ sym long)
        ∙ get_or-append_seam (rows_of rows) row.items [] []

    here : s ≡ i → Contains row.items j → (s < i + 1) × R s j
    here e h = (omega arith, subst (λ k. R k j) (sym e) ((new j).0 h))

    forth : Relates (rows_of (rows ++ row ∷ [])) s j → (s < i + 1) × R s j
    forth h =
        let b = row_inside (rows_of (rows ++ row ∷ [])) s j h in
        let n = rows_long (rows ++ row ∷ []) ∙ length-append rows (row ∷ []) in
        ⊎_elim
        (λ l. let g = (old s j).0 (subst (λ (r : List ℕ). Contains r j) (left l) h) in (omega arith, g.1))
        (λ l. let e : s ≡ i = omega (arith, n) in here e (subst (λ (r : List ℕ). Contains r j) (right e) h))
        (less_or s i)

    back : (s < i + 1) × R s j → Relates (rows_of (rows ++ row ∷ [])) s j
    back h = ⊎_elim
        (λ l. subst (λ (r : List ℕ). Contains r j) (sym (left l)) ((old s j).1 (l, h.1)))
        (λ l. let e : s ≡ i = omega (arith, h.0) in
        subst (λ (r : List ℕ). Contains r j) (sym (right e)) ((new j).1 (subst (λ k. R k j) e h.1)))
        (less_or s i)
