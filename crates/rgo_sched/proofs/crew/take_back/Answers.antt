use Rattle.std.proofs.Common.{arith}
use Rattle.rgo_sched.proofs.CrewLemmas.{counts_same, counts_more, row_kept, row_less, row_done, at_inside}
use Rattle.rgo_sched.proofs.crew.take_back.Goals as goal

pub loop-worker-init : goal.loop-worker-init
loop-worker-init g c = record { crew = c.requires.crew; counts = counts_same _; none = λ k m at below. absurd (omega arith) }

pub loop-init : goal.loop-init
loop-init g c = record { crew = c.loop-worker.invariant.crew; counts = c.loop-worker.invariant.counts; none = c.loop-worker.invariant.none; here = λ k m at e. let f = (c.loop-worker.invariant.crew.fit k m at).few in omega arith }

pub loop-preserved : goal.loop-preserved
loop-preserved g c = record {
  crew = c.take_one.ensures.crew;
  counts = counts_more _ _ _ c.loop.invariant.counts c.take_one.ensures.counts;
  none = row_kept c.loop-worker.worker 0 0 _ _ c.take_one.ensures.fewer c.loop.invariant.none;
  here = row_less c.loop-worker.worker _ c.loop.counter _ _ c.take_one.ensures.fewer c.loop-test.true c.loop.invariant.here;
}

pub loop-worker-preserved : goal.loop-worker-preserved
loop-worker-preserved g c = record {
  crew = c.loop.invariant.crew;
  counts = c.loop.invariant.counts;
  none = row_done c.loop-worker.worker _ c.loop.counter _ (let t = c.loop-test.false in omega arith) c.loop.invariant.none c.loop.invariant.here;
}

pub returns-clause-none : goal.returns-clause-none
returns-clause-none g c = λ k m at. let b = at_inside c.loop-worker.crew k m at in let s = c.loop-worker.invariant.crew.same in let t = c.loop-worker-test.false in c.loop-worker.invariant.none k m at (omega arith)
