use Rattle.std.proofs.Common.{ℕ, arith, List, ◌++◌, subst, sym, ap, ◌∙◌}
use Rattle.std.specs.List.{Contains}
use Rattle.rgo_graphs.proofs.Pushed.{row_is, rows_long}
use Rattle.rgo_flow.proofs.Runs.{no_member}
use Rattle.rgo_flow.proofs.blocks.exit_row.Goals as goal

pub returns-then-first-i : goal.returns-then-first-i
returns-then-first-i c = record {
  row = λ j. (
    λ h. absurd
        (no_member j (subst (λ (l : List ℕ). Contains l j) c.new-row.ensures.items h)),
    λ h. absurd (c.if-first-i.true h.0),
  );
}

pub returns : goal.returns
returns c =
    let e = row_is c.args.successors.now _ c.index-successors-last.result
    (omega (
      arith,
      c.requires.blocks.inside c.args.i
          (omega (arith, rows_long c.args.successors.now, c.requires.inside)),
      rows_long c.args.successors.now,
    )) c.index-successors-last.is in
    let same = c.in_ok-extend_from_slice.ensures.items
    ∙ ap (λ (l : List ℕ). l ++ c.deref.result.now) c.new-row.ensures.items ∙ c.deref.ensures.value
    ∙ sym e in
    record {
      row = λ j. (
        λ h. (c.if-first-i.false, subst (λ (l : List ℕ). Contains l j) same h),
        λ h. subst (λ (l : List ℕ). Contains l j) (sym same) h.1,
      );
    }
