use Rattle.rgo_summaries.proofs.Growing.{grows_by_more}
use Rattle.rgo_summaries.proofs.beginning.grow.Goals as goal

pub loop-added-preserved : goal.loop-added-preserved
loop-added-preserved c = record {
  is = c.in_ok-add.ensures.is;
  grows =
      grows_by_more c.args.nodes.now c.loop-added.nodes c.add.new.nodes c.loop-added.added c.loop-added.invariant.is
      c.loop-added.invariant.grows c.in_ok-add.ensures.grows;
}
