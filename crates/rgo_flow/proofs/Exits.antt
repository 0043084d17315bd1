-- Rows of exits.
use Rattle.std.proofs.Common.{◌≡◌, ⊎_elim, ℕ, ◌<◌, ◌+◌, List, [], ◌∷◌, ◌++◌, length, sym, ap, ◌∙◌, subst, arith, Vec, length-append}
use Rattle.std.specs.Global.{Global}
use Rattle.std.proofs.lemmas.List.{map-append, get_or_past}
use Rattle.std.proofs.Math.ListN.{get_or-append}
use Rattle.std.proofs.Math.Seq.{get_or-append_seam}
use Rattle.rgo_graphs.specs.Rows.{row_at, rows_of, IsAscending, AllAscending}
use Rattle.rgo_graphs.proofs.Pushed.{rows_long}
use Rattle.rgo_flow.proofs.Runs.{less_or}

-- the rows of a list that grows
pub row_left : (rows : List (Vec ℕ Global)) (row : Vec ℕ Global) (s : ℕ) → s < length rows
    → row_at (rows_of (rows ++ row ∷ [])) s ≡ row_at (rows_of rows) s
row_left rows row s l = ap (λ (r : List (List ℕ)). row_at r s)
    (map-append (λ (r : Vec ℕ Global). r.items) rows (row ∷ []))
    ∙ get_or-append (rows_of rows) (row.items ∷ []) [] s (omega (arith, rows_long rows))

pub row_right : (rows : List (Vec ℕ Global)) (row : Vec ℕ Global) (s : ℕ) → s ≡ length rows
    → row_at (rows_of (rows ++ row ∷ [])) s ≡ row.items
row_right rows row s e = ap (λ (r : List (List ℕ)). row_at r s)
    (map-append (λ (r : Vec ℕ Global). r.items) rows (row ∷ []))
    ∙ ap (λ k. row_at (rows_of rows ++ row.items ∷ []) k) (e ∙ sym (rows_long rows))
    ∙ get_or-append_seam (rows_of rows) row.items [] []

ascending_nil : IsAscending []
ascending_nil a b l m = absurd (omega arith)

pub ascending_more : (rows : List (Vec ℕ Global)) (row : Vec ℕ Global) → AllAscending (rows_of rows)
    → IsAscending row.items → AllAscending (rows_of (rows ++ row ∷ []))
ascending_more rows row old new s = ⊎_elim
    (λ l. subst (λ (r : List ℕ). IsAscending r) (sym (row_left rows row s l)) (old s))
    (λ l. ⊎_elim
    (λ m. let e : s ≡ length rows = omega arith in
    subst (λ (r : List ℕ). IsAscending r) (sym (row_right rows row s e)) new)
    (λ m. subst (λ (r : List ℕ). IsAscending r) (sym
    (get_or_past (rows_of (rows ++ row ∷ [])) s []
    (omega (arith, rows_long (rows ++ row ∷ []), length-append rows (row ∷ []))))) ascending_nil)
    (less_or s (length rows + 1)))
    (less_or s (length rows))
