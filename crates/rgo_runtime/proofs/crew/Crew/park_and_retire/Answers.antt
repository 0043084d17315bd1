-- From the last place to the first: who leaves a place is replaced by the last of the queue, which was considered before. Every place stays
-- in the queue, since each step removes at most one goroutine (`left`).
use Rattle.std.proofs.Common.{◌∙◌, arith}
use Rattle.rgo_runtime.proofs.crews.Moving.{kept_then}
use Rattle.rgo_runtime.proofs.crew.Crew.park_and_retire.Goals as goal

pub loop-place-preserved-in-Parked : goal.loop-place-preserved-in-Parked
loop-place-preserved-in-Parked c = record {
  kept = kept_then c.args.self.now c.loop-place.self c.park.new.self c.loop-place.invariant.kept c.park.ensures.kept;
  run = c.park.ensures.run ∙ c.loop-place.invariant.run;
  next = c.park.ensures.next ∙ c.loop-place.invariant.next;
  place = omega (arith, c.park.ensures.left, c.loop-place.invariant.place, c.loop-place-test.true);
  turns = omega (arith, c.loop-place.invariant.turns);
}

pub loop-place-preserved : goal.loop-place-preserved
loop-place-preserved c = record {
  kept = kept_then c.args.self.now c.loop-place.self c.retire.new.self c.loop-place.invariant.kept c.retire.ensures.kept;
  run = c.retire.ensures.run ∙ c.loop-place.invariant.run;
  next = c.retire.ensures.next ∙ c.loop-place.invariant.next;
  place = omega (arith, c.retire.ensures.left, c.loop-place.invariant.place, c.loop-place-test.true);
  turns = omega (arith, c.loop-place.invariant.turns);
}

pub returns-clause-kept : goal.returns-clause-kept
returns-clause-kept c =
    kept_then c.args.self.now c.loop-place.self c.reverse_queue-2.new.self c.loop-place.invariant.kept c.reverse_queue-2.ensures.kept
