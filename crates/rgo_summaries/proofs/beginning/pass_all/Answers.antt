use Rattle.rgo_summaries.proofs.Passing.{passing_more}
use Rattle.rgo_summaries.proofs.beginning.pass_all.Goals as goal

pub loop-number-preserved : goal.loop-number-preserved
loop-number-preserved c = record {
  is = c.in_ok-pass.ensures.is;
  adds =
      passing_more c.args.progress.now c.loop-number.progress c.pass.new.progress c.args.calling c.loop-number.number
      c.loop-number.invariant.adds c.in_ok-pass.ensures.adds;
}
