use Rattle.std.proofs.Common.{ℕ, List, ◌++◌, get_or, set, sym, ap, ◌∙◌, subst}
use Rattle.std.specs.List.{Contains}
use Rattle.rgo_classes.specs.Moves.{AreRows, member_rows}
use Rattle.rgo_classes.proofs.Moving.{moves, rows_moved}
use Rattle.rgo_classes.proofs.Rows.{row_is, rows_kept, rows_move}
use Rattle.rgo_classes.proofs.labels.merge.Goals as goal

pub returns-in_err-extend_from_slice-clause-rows : goal.returns-in_err-extend_from_slice-clause-rows
returns-in_err-extend_from_slice-clause-rows c =
    let e = rows_kept c.args.rows.now c.args.to c.index-rows-to.result c.extend_from_slice.new.self c.requires.to
    c.in_err-extend_from_slice.ensures.items in
    subst (AreRows c.args.labels.now) (sym e) c.requires.rows

pub relabel-requires : goal.relabel-requires
relabel-requires c =
    let e = row_is c.args.rows.now c.args.from c.index-rows-from.result c.requires.from in
    let s = c.deref-3.ensures.value ∙ c.in_ok-moved.ensures.items ∙ c.deref.ensures.value ∙ sym e in
    record {
      inside = λ m h.
          (c.requires.rows.inside c.args.from m (subst (λ (r : List ℕ). Contains r m) s h)).0;
    }

pub returns-clause-merged : goal.returns-clause-merged
returns-clause-merged c =
    let e = row_is c.args.rows.now c.args.from c.index-rows-from.result c.requires.from in
    let s = c.deref-3.ensures.value ∙ c.in_ok-moved.ensures.items ∙ c.deref.ensures.value ∙ sym e in
    moves c.args.labels.now c.relabel.new.labels (member_rows c.args.rows.now) c.deref-3.result.now c.args.from c.args.to
    c.requires.rows s c.relabel.ensures.relabels

pub returns-clause-rows : goal.returns-clause-rows
returns-clause-rows c =
    let copied = c.deref-2.ensures.value ∙ c.in_ok-moved.ensures.items ∙ c.deref.ensures.value in
    let to_row = (get_or c.args.rows.now c.args.to c.index-rows-to.result).items in
    rows_moved c.args.labels.now c.relabel.new.labels (member_rows c.args.rows.now)
    (member_rows (set (set c.args.rows.now c.args.to c.extend_from_slice.new.self) c.args.from c.clear.new.self))
    c.args.from c.args.to c.requires.apart c.requires.rows (returns-clause-merged c)
    (rows_move c.args.rows.now c.args.from c.args.to c.index-rows-to.result c.index-rows-from.result
    c.extend_from_slice.new.self c.clear.new.self c.requires.apart c.requires.from c.requires.to
    (c.in_ok-extend_from_slice.ensures.items ∙ ap (λ (l : List ℕ). to_row ++ l) copied)
    c.clear.ensures.items)
