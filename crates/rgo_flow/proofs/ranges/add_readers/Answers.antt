use Rattle.std.proofs.Common.{arith}
use Rattle.std.proofs.lemmas.List.Elements.{Contains-get_or}
use Rattle.rgo_flow.specs.Ranges.{IsKeptFor}
use Rattle.rgo_flow.proofs.Covering.{more_added, all_added}
use Rattle.rgo_flow.proofs.ranges.add_readers.Goals as goal

pub bounds-first-r : goal.bounds-first-r
bounds-first-r c = c.requires.inside _ (Contains-get_or c.args.readers.now c.loop-r.r-index 0 c.loop-r-test.true)

pub loop-r-preserved : goal.loop-r-preserved
loop-r-preserved c =
    more_added c.args.ranges.now.items c.loop-r.ranges.items c.add.new.ranges.items c.args.readers.now c.loop-r.r-index 0
    (IsKeptFor c.args.first.now c.args.writers.now) c.loop-r-test.true c.loop-r.invariant c.in_ok-add.ensures

pub returns : goal.returns
returns c =
    all_added c.args.ranges.now.items c.loop-r.ranges.items c.args.readers.now c.loop-r.r-index
    (IsKeptFor c.args.first.now c.args.writers.now) (omega (arith, c.loop-r-test.false)) c.loop-r.invariant
