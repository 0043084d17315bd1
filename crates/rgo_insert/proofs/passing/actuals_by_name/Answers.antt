use Rattle.std.proofs.lemmas.Option.{slice_get-get_or}
use Rattle.rgo_insert.proofs.PassedBy.{more_actuals}
use Rattle.rgo_insert.proofs.passing.actuals_by_name.Goals as goal

pub loop-at-preserved : goal.loop-at-preserved
loop-at-preserved c =
    more_actuals c.loop-at.found c.add_actual.new.actuals c.args.formals.now c.args.actuals.now c.loop-at.at _
    (slice_get-get_or c.args.formals.now c.loop-at.at _ c.loop-at-test.true) c.loop-at.invariant
    (rw c.class_at.ensures at c.in_ok-add_actual.ensures)
