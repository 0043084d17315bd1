use Rattle.std.proofs.Common.{◌≡◌}
use Rattle.rgo_journal.specs.Replays.{TakesFirstPicks}
use Rattle.rgo_journal.proofs.replays.take_picks.Given as goal

abbrev pub invariant-loop-index : goal.invariant-loop-index
invariant-loop-index l = record {
  taken : TakesFirstPicks l.fn.state.code.now l.picks l.index l.state.state;
  code : l.state.code.now ≡ l.fn.state.code.now;
}
