use Rattle.std.proofs.Common.{ℕ, List, Vec, ◌+◌, subst, sym, arith}
use Rattle.std.specs.Global.{Global}
use Rattle.rgo_graphs.specs.Rows.{Relates, rows_of}
use Rattle.rgo_graphs.specs.RowsTo.{RowsTo}
use Rattle.rgo_graphs.proofs.Growing.{rows_more}
use Rattle.rgo_flow.specs.Live.{ReadsVariable, WritesVariable}
use Rattle.rgo_flow.specs.Graphs.{LeadsInside}
use Rattle.rgo_flow.proofs.Instructions.{reads_inside, writes_inside, leads_inside}
use Rattle.rgo_flow.proofs.graphs.graph_of.Goals as goal

pub loop-at-preserved : goal.loop-at-preserved
loop-at-preserved c =
    let f = c.args.function.now in
    let so_far = c.loop-at.invariant in
    let k = c.loop-at.at in
    record {
      successors_len = omega (arith, c.in_ok-push.ensures.len, so_far.successors_len);
      reads_len = omega (arith, c.in_ok-push-2.ensures.len, so_far.reads_len);
      writes_len = omega (arith, c.in_ok-push-3.ensures.len, so_far.writes_len);
      leads = subst (λ (l : List (Vec ℕ Global)). RowsTo l (λ i j. LeadsInside f i j) (k + 1))
          (sym c.in_ok-push.ensures.items)
          (rows_more c.loop-at.successors.items c.in_ok-row.row (λ i j. LeadsInside f i j) k
          (omega (arith, so_far.successors_len)) so_far.leads c.in_ok-row.ensures);
      reads = subst (λ (l : List (Vec ℕ Global)). RowsTo l (λ i v. ReadsVariable f i v) (k + 1))
          (sym c.in_ok-push-2.ensures.items)
          (rows_more c.loop-at.reads.items c.in_ok-row-2.row (λ i v. ReadsVariable f i v) k
          (omega (arith, so_far.reads_len)) so_far.reads c.in_ok-row-2.ensures);
      writes = subst (λ (l : List (Vec ℕ Global)). RowsTo l (λ i v. WritesVariable f i v) (k + 1))
          (sym c.in_ok-push-3.ensures.items)
          (rows_more c.loop-at.writes.items c.in_ok-row-3.row (λ i v. WritesVariable f i v) k
          (omega (arith, so_far.writes_len)) so_far.writes c.in_ok-row-3.ensures);
    }

pub returns : goal.returns
returns c =
    let f = c.args.function.now in
    let all = c.loop-at.invariant in
    let counted = c.instr_count-count.ensures in
    record {
      graph = record {
        few = omega (arith, counted.few, all.successors_len, c.loop-at-test.false, c.loop-at.auto.at-end);
        reads = omega (arith, all.successors_len, all.reads_len);
        writes = omega (arith, all.successors_len, all.writes_len);
        targets = λ i j r.
            let t = (all.leads i j).0 r in
            omega (arith, t.1.1, counted.count, all.successors_len, c.loop-at-test.false);
        read = λ i v r. c.variable_count-variables.ensures.read i v
            (subst (λ (l : List (Vec ℕ Global)). Relates (rows_of l) i v) (sym c.deref.ensures.value) r);
        written = λ i v r. c.variable_count-variables.ensures.written i v
            (subst (λ (l : List (Vec ℕ Global)). Relates (rows_of l) i v) (sym c.deref-2.ensures.value) r);
      };
      leads = λ i j. (
        λ h. ((all.leads i j).0 h).1,
        λ h. (all.leads i j).1 (omega (arith, leads_inside f i j h.0, counted.count, c.loop-at-test.false), h),
      );
      reads = λ i v. (
        λ h. ((all.reads i v).0 h).1,
        λ h. (all.reads i v).1 (omega (arith, reads_inside f i v h, counted.count, c.loop-at-test.false), h),
      );
      writes = λ i v. (
        λ h. ((all.writes i v).0 h).1,
        λ h. (all.writes i v).1 (omega (arith, writes_inside f i v h, counted.count, c.loop-at-test.false), h),
      );
    }
