use Rattle.std.proofs.Common.{◌∙◌, ℕ, List, arith, subst}
use Rattle.std.specs.List.{Contains}
use Rattle.rgo_graphs.specs.Rows.{rows_of}
use Rattle.rgo_region_sets.proofs.Tables.{all_dying, dying_more, none_dying}
use Rattle.rgo_region_sets.proofs.dying.dying.Goals as goal

pub loop-span-init : goal.loop-span-init
loop-span-init c =
    record {
      len = c.in_ok-rows.ensures.len;
      rows = none_dying c.args.spans.now c.args.points.now c.args.targets.now (rows_of c.in_ok-rows.rows.items)
          c.in_ok-rows.ensures.empty;
    }

pub add_row-requires : goal.add_row-requires
add_row-requires c = record {
  inside = λ x h.
      let dies = (c.in_ok-ends.ensures x).0 (subst (λ (l : List ℕ). Contains l x) c.deref.ensures.value h) in
      omega (arith, dies.branch, c.loop-span.invariant.len);
}

pub loop-span-preserved : goal.loop-span-preserved
loop-span-preserved c =
    record {
      len = c.add_row.ensures.len ∙ c.loop-span.invariant.len;
      rows = dying_more c.args.spans.now c.args.points.now c.args.targets.now c.loop-span.span-index _
          c.in_ok-ends.ends.items (rows_of c.loop-span.rows.items) (rows_of c.add_row.new.rows.items)
          c.loop-span-test.true c.in_ok-ends.ensures c.loop-span.invariant.rows
          (rw c.deref.ensures.value at c.in_ok-add_row.ensures.added);
    }

pub returns-clause-rows : goal.returns-clause-rows
returns-clause-rows c =
    all_dying c.args.spans.now c.args.points.now c.args.targets.now (rows_of c.loop-span.rows.items)
    c.loop-span.span-index (omega (arith, c.loop-span-test.false)) c.loop-span.invariant.rows
