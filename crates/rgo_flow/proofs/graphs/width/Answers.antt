use Rattle.std.proofs.Common.{◌≡◌, ◌<◌, ◌+◌, ◌⊎◌, ⊎_elim, ℕ, List, sym, subst, arith, ◌∙◌}
use Rattle.std.specs.List.{Contains}
use Rattle.std.proofs.Math.Nat.{le-max_left, le-max_right}
use Rattle.rgo_graphs.specs.Rows.{Relates, rows_of}
use Rattle.rgo_graphs.proofs.Pushed.{row_is, rows_long, row_inside}
use Rattle.rgo_flow.proofs.graphs.width.Goals as goal

which : (i k : ℕ) → i < k + 1 → (i < k) ⊎ (i ≡ k)
which i k l = grind arith

pub loop-row-preserved : goal.loop-row-preserved
loop-row-preserved c = λ i x l h.
    let rows = c.args.rows.now in
    let e = row_is rows c.loop-row.row-index c.row-item.result c.loop-row-test.true c.row-item.is in
    ⊎_elim
    (λ o. omega (
      arith,
      c.loop-row.invariant i x o h,
      c.max-width.ensures,
      le-max_left c.loop-row.width c.row_width.result,
    ))
    (λ q.
    let there = subst (λ k. Relates (rows_of rows) k x) q h in
    omega (
      arith,
      c.row_width.ensures x (subst (λ (r : List ℕ). Contains r x) (e ∙ sym c.deref.ensures.value) there),
      c.max-width.ensures,
      le-max_right c.loop-row.width c.row_width.result,
    ))
    (which i c.loop-row.row-index l)

pub returns : goal.returns
returns c = λ i x h.
    let rows = c.args.rows.now in
    c.loop-row.invariant i x (omega (arith, row_inside (rows_of rows) i x h, rows_long rows, c.loop-row-test.false)) h
