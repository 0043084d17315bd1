use Rattle.std.proofs.Common.{arith, ◌∙◌, sym, ℕ, List, subst}
use Rattle.std.specs.List.{Contains}
use Rattle.rgo_graphs.specs.Rows.{rows_of}
use Rattle.rgo_graphs.proofs.Pushed.{row_is, rows_long, transposed_none, transposed_step, transposed_all, ascending_none}
use Rattle.rgo_graphs.proofs.rows.transposed.Goals as goal

pub loop-i-init : goal.loop-i-init
loop-i-init c = record {
  len = c.in_ok-transposed.ensures.len;
  ascending = ascending_none (rows_of c.in_ok-transposed.transposed.items) c.in_ok-transposed.ensures.empty;
  transposed = transposed_none (rows_of c.args.rows.now)
      (rows_of c.in_ok-transposed.transposed.items) c.in_ok-transposed.ensures.empty;
}

pub add_row-requires : goal.add_row-requires
add_row-requires c =
    let e = row_is c.args.rows.now c.loop-i.i c.index-rows-i.result c.loop-i-test.true c.index-rows-i.is in
    record {
      inside = λ x h. omega (
        arith,
        c.loop-i.invariant.len,
        c.requires.below c.loop-i.i x (subst (λ (r : List ℕ). Contains r x)
            (c.deref.ensures.value ∙ sym e) h),
      );
    }

pub loop-i-preserved : goal.loop-i-preserved
loop-i-preserved c =
    let e = row_is c.args.rows.now c.loop-i.i c.index-rows-i.result c.loop-i-test.true c.index-rows-i.is in
    record {
      len = omega (arith, c.add_row.ensures.len, c.loop-i.invariant.len);
      ascending = c.in_ok-add_row.ensures.ascending c.loop-i.invariant.ascending
          (λ j x h. omega (arith, ((c.loop-i.invariant.transposed x j).1 h).0));
      transposed = transposed_step (rows_of c.args.rows.now) (rows_of c.loop-i.transposed.items)
          (rows_of c.add_row.new.rows.items) c.deref.result.now c.loop-i.i
          (e ∙ sym c.deref.ensures.value) c.loop-i.invariant.transposed c.in_ok-add_row.ensures.added;
    }

pub returns-clause-transposed : goal.returns-clause-transposed
returns-clause-transposed c = transposed_all (rows_of c.args.rows.now)
    (rows_of c.loop-i.transposed.items) c.loop-i.i
    (omega (arith, rows_long c.args.rows.now, c.loop-i-test.false)) c.loop-i.invariant.transposed
