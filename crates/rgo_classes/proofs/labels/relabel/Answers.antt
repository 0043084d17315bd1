use Rattle.std.proofs.Common.{arith, take, get_or}
use Rattle.std.proofs.lemmas.List.{take_more}
use Rattle.std.proofs.lemmas.List.Elements.{Contains-get_or}
use Rattle.rgo_classes.proofs.Moving.{relabels_more}
use Rattle.rgo_classes.proofs.labels.relabel.Goals as goal

pub bounds-labels-m : goal.bounds-labels-m
bounds-labels-m c =
    omega (
      arith,
      c.loop-m.invariant.size,
      c.requires.inside _ (Contains-get_or c.args.members.now c.loop-m.m-index 0 c.loop-m-test.true),
    )

pub offset_bounds-labels-m : goal.offset_bounds-labels-m
offset_bounds-labels-m c =
    let inside = bounds-labels-m c in
    record { fits = omega (arith, inside, c.loop-m.invariant.size) }

pub loop-m-preserved : goal.loop-m-preserved
loop-m-preserved c =
    rw (take_more c.args.members.now c.loop-m.m-index 0 c.loop-m-test.true)
    (relabels_more c.args.labels.now c.loop-m.labels (take c.loop-m.m-index c.args.members.now) c.args.label
    (get_or c.args.members.now c.loop-m.m-index 0) (bounds-labels-m c) c.loop-m.invariant)
