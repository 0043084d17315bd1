use Rattle.std.proofs.Common.{arith}
use Rattle.std.proofs.lemmas.List.Elements.{Contains-get_or}
use Rattle.rgo_flow.specs.Ranges.{IsKeptOut}
use Rattle.rgo_flow.proofs.Covering.{more_added, all_added}
use Rattle.rgo_flow.proofs.ranges.add_blocks.Goals as goal

pub bounds-last-h : goal.bounds-last-h
bounds-last-h c = c.requires.inside _ (Contains-get_or c.args.heads.now c.loop-h.h-index 0 c.loop-h-test.true)

pub loop-h-preserved : goal.loop-h-preserved
loop-h-preserved c =
    more_added c.args.ranges.now.items c.loop-h.ranges.items c.add.new.ranges.items c.args.heads.now c.loop-h.h-index 0
    (IsKeptOut c.args.last.now c.args.writers.now) c.loop-h-test.true c.loop-h.invariant c.in_ok-add.ensures

pub returns : goal.returns
returns c =
    all_added c.args.ranges.now.items c.loop-h.ranges.items c.args.heads.now c.loop-h.h-index
    (IsKeptOut c.args.last.now c.args.writers.now) (omega (arith, c.loop-h-test.false)) c.loop-h.invariant
