-- The four parts in a row. The driver's glance comes before the looks, so that at `before` the accesses of those that have retired are
-- known, too.
use Rattle.std.proofs.Common.{◌∙◌}
use Rattle.rgo_runtime.specs.Boxes.{in_boxes}
use Rattle.rgo_runtime.specs.Passing.{HasLookedOnce, HasMet, IsTidyIn}
use Rattle.rgo_runtime.proofs.passes.Meetings.{behind_glance, known_by_glance, tidy_looked, tidy_met}
use Rattle.rgo_runtime.proofs.lists.Sweeps.{zip_keeps}
use Rattle.rgo_runtime.proofs.deadlock.check.Goals as goal

pub look_all-requires-clause-behind : goal.look_all-requires-clause-behind
look_all-requires-clause-behind g c =
    behind_glance c.meet_all.new.seat.me c.glance.new.seat.me c.glance.result c.glance.ensures.glanced (in_boxes c.meet_all.new.goroutines)
    c.meet_all.ensures.behind

pub returns-clause-tidy : goal.returns-clause-tidy
returns-clause-tidy g c = λ all.
    let T = c.args.run.now.setup in
    let met = in_boxes c.meet_all.new.goroutines in
    let looked = in_boxes c.look_all.new.goroutines in
    c.step_all.ensures.tidy (zip_keeps (HasLookedOnce T) (IsTidyIn T) (tidy_looked T) met looked c.look_all.ensures.looked
    (zip_keeps (HasMet T) (IsTidyIn T) (tidy_met T) (in_boxes c.args.goroutines.now) met c.meet_all.ensures.met all))

pub returns-clause-passed : goal.returns-clause-passed
returns-clause-passed g c = record {
  met = in_boxes c.meet_all.new.goroutines;
  looked = in_boxes c.look_all.new.goroutines;
  meets = c.meet_all.ensures.met;
  looks = c.look_all.ensures.looked;
  turns = c.step_all.ensures.turned;
  before = c.look_all.new.seat.me.0.seen;
  since = c.step_all.ensures.seen.0;
  is = c.step_all.ensures.seen.1;
  come = c.step_all.ensures.passed;
  retired = known_by_glance c.meet_all.new.seat.me c.glance.new.seat.me c.glance.result c.glance.ensures.glanced
      c.look_all.new.seat.me.0.seen c.look_all.ensures.seen.0 c.look_all.ensures.seen.1
      c.step_all.new.seat.me.0.records (c.step_all.ensures.rows.0 ∙ c.look_all.ensures.rows.0);
}
