use Rattle.std.proofs.Common.{take}
use Rattle.rgo_classes.specs.Moves.{Relabels}
use Rattle.rgo_classes.proofs.labels.relabel.Given as goal

abbrev pub invariant-loop-m : goal.invariant-loop-m
invariant-loop-m l = Relabels l.fn.labels l.labels (take l.m-index l.members) l.label
