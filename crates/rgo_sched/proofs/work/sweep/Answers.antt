use Rattle.std.proofs.Common.{arith}
use Rattle.atomic_table.proofs.Lists.{at_index}
use Rattle.rgo_sched.proofs.CrewLemmas.{at_read, fit_set, moved_set}
use Rattle.rgo_sched.proofs.work.sweep.Goals as goal

pub ask-got-requires : goal.ask-got-requires
ask-got-requires g c =
    let b = c.loop-other.invariant.moved.same in
    let d = c.requires.full in
    let t = c.loop-other-test.true in
    c.loop-other.invariant.fit.each c.loop-other.other c.index-stealers-other.result _ (at_index c.args.stealers.now c.loop-other.other c.index-stealers-other.result (omega arith) c.index-stealers-other.is) (at_read c.loop-other.permits c.loop-other.other c.index-permits-other.result (omega arith))

pub loop-other-preserved : goal.loop-other-preserved
loop-other-preserved g c =
    let b = c.loop-other.invariant.moved.same in
    let d = c.requires.full in
    let t = c.loop-other-test.true in
    record {
      fit = fit_set _ _ c.loop-other.other c.index-stealers-other.result _ (at_index c.args.stealers.now c.loop-other.other c.index-stealers-other.result (omega arith) c.index-stealers-other.is) c.ask-got.ensures.fits c.loop-other.invariant.fit;
      moved = moved_set _ _ _ _ _ c.ask-got.ensures.taken.0 c.loop-other.other _ _ (at_read c.loop-other.permits c.loop-other.other c.index-permits-other.result (omega arith)) c.ask-got.ensures.taken.1 c.ask-got.ensures.taken.2 c.loop-other.invariant.moved;
    }
