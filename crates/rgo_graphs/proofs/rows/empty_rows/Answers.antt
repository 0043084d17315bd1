use Rattle.std.proofs.Common.{ℕ, List, Vec, arith, subst}
use Rattle.std.specs.Global.{Global}
use Rattle.rgo_graphs.specs.Rows.{rows_of, Relates}
use Rattle.rgo_graphs.proofs.Pushed.{empty_more}
use Rattle.rgo_graphs.proofs.rows.empty_rows.Goals as goal

pub loop-done-preserved : goal.loop-done-preserved
loop-done-preserved c = record {
  len = omega (arith, c.in_ok-push.ensures.len, c.loop-done.invariant.len);
  empty = λ i x h. empty_more c.loop-done.rows.items c.new.result c.new.ensures.items c.loop-done.invariant.empty i x
      (subst (λ (l : List (Vec ℕ Global)). Relates (rows_of l) i x) c.in_ok-push.ensures.items h);
}
