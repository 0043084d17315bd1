use Rattle.std.proofs.Common.{◌∙◌}
use Rattle.rgo_journal.proofs.Replaying.{next_taken}
use Rattle.rgo_journal.proofs.replays.take_picks.Goals as goal

pub loop-index-preserved : goal.loop-index-preserved
loop-index-preserved c = record {
  taken = next_taken c.args.state.now.code.now c.loop-index.state.code.now c.args.picks.now c.loop-index.index _
      c.loop-index.state.state c.take_pick.new.state.state c.in-Ok-true.field-0 c.loop-index.invariant.code
      c.loop-index-test.true c.loop-index.invariant.taken c.in-Ok-true.ensures.taken c.in-Ok-true.field-0-test;
  code = c.take_pick.ensures.code ∙ c.loop-index.invariant.code;
}
