use Rattle.std.proofs.Common.{◌∙◌}
use Rattle.rgo_runtime.proofs.crews.Moving.{kept_then}
use Rattle.rgo_runtime.proofs.crew.Crew.wake_each.Goals as goal

pub returns-in_err-wake_by-clause-kept : goal.returns-in_err-wake_by-clause-kept
returns-in_err-wake_by-clause-kept c =
    kept_then c.args.self.now c.loop-place.self c.wake_by.new.self c.loop-place.invariant.kept c.wake_by.ensures.kept

pub loop-place-preserved : goal.loop-place-preserved
loop-place-preserved c = record {
  kept = kept_then c.args.self.now c.loop-place.self c.wake_by.new.self c.loop-place.invariant.kept c.wake_by.ensures.kept;
  run = c.wake_by.ensures.run ∙ c.loop-place.invariant.run;
  next = c.wake_by.ensures.next ∙ c.loop-place.invariant.next;
}
