use Rattle.rgo_journal.proofs.Replaying.{all_some}
use Rattle.rgo_journal.proofs.replays.end_of.Goals as goal

pub returns-in-Err-clause-ends : goal.returns-in-Err-clause-ends
returns-in-Err-clause-ends c =
    all_some c.args.state.now.code.now c.args.picks.now c.args.state.now.state c.requires
