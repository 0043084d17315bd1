use Rattle.std.proofs.Common.{◌≡◌, ℕ, arith, List, subst, sym, get_or, Vec, ◌+◌}
use Rattle.std.specs.Global.{Global}
use Rattle.rgo_graphs.specs.Rows.{Relates, rows_of}
use Rattle.rgo_graphs.proofs.Pushed.{rows_long}
use Rattle.rgo_graphs.specs.RowsTo.{RowsTo}
use Rattle.rgo_graphs.proofs.Growing.{rows_more, rows_none}
use Rattle.rgo_flow.proofs.blocks.exits.Goals as goal

pub loop-i-init : goal.loop-i-init
loop-i-init c = record {
  len = c.new-exits.ensures.len;
  exits = subst (λ (l : List (Vec ℕ Global)). RowsTo l
      (λ s j. (get_or c.args.first.now s 0 ≡ s) × Relates (rows_of c.args.successors.now)
      (get_or c.args.last.now s 0) j) 0) (sym c.new-exits.ensures.items)
      (rows_none (λ s j. (get_or c.args.first.now s 0 ≡ s)
      × Relates (rows_of c.args.successors.now) (get_or c.args.last.now s 0) j));
}

pub loop-i-preserved : goal.loop-i-preserved
loop-i-preserved c = record {
  len = omega (arith, c.in_ok-push.ensures.len, c.loop-i.invariant.len);
  exits = subst (λ (l : List (Vec ℕ Global)). RowsTo l
      (λ s j. (get_or c.args.first.now s 0 ≡ s) × Relates (rows_of c.args.successors.now)
      (get_or c.args.last.now s 0) j) (c.loop-i.i + 1)) (sym c.in_ok-push.ensures.items)
      (rows_more c.loop-i.exits.items c.in_ok-row.row
      (λ s j. (get_or c.args.first.now s 0 ≡ s)
      × Relates (rows_of c.args.successors.now) (get_or c.args.last.now s 0) j) c.loop-i.i
      (omega (arith, c.loop-i.invariant.len)) c.loop-i.invariant.exits c.in_ok-row.ensures.row);
}

pub returns-clause-exits : goal.returns-clause-exits
returns-clause-exits c = λ s j. (
  λ h. let g = (c.loop-i.invariant.exits s j).0 h in (
    (
      omega (arith, g.0, c.loop-i.auto.i-end, c.requires.blocks.firsts, rows_long c.args.successors.now),
      g.1.0,
    ),
    g.1.1,
  ),
  λ h. (c.loop-i.invariant.exits s j).1 (
    omega (
      arith,
      h.0.0,
      c.loop-i-test.false,
      c.requires.blocks.firsts,
      rows_long c.args.successors.now,
    ),
    (h.0.1, h.1),
  ),
)
