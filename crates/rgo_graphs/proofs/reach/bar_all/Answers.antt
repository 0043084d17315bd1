use Rattle.std.proofs.Common.{arith, take, get_or}
use Rattle.std.proofs.lemmas.List.{take_more}
use Rattle.std.proofs.lemmas.List.Elements.{Contains-get_or}
use Rattle.rgo_graphs.proofs.Marking.{bars_more}
use Rattle.rgo_graphs.proofs.reach.bar_all.Goals as goal

pub bounds-marks-p : goal.bounds-marks-p
bounds-marks-p c = omega (
  arith,
  c.loop-p.invariant.size,
  c.requires.inside _ (Contains-get_or c.args.these.now c.loop-p.p-index 0 c.loop-p-test.true),
)

pub loop-p-preserved : goal.loop-p-preserved
loop-p-preserved c =
    rw (take_more c.args.these.now c.loop-p.p-index 0 c.loop-p-test.true)
    (bars_more c.args.stamp c.args.marks.now c.loop-p.marks (take c.loop-p.p-index c.args.these.now)
    (get_or c.args.these.now c.loop-p.p-index 0) (bounds-marks-p c) c.loop-p.invariant)
